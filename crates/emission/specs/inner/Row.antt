-- What the walks have in common of a row in memory: the emissions of its sample, laid out by state, and the first row.
use Rattle.std.specs.Prelude.{ℕ, ◌*◌, ◌≤◌, ◌<◌, ◌≡◌, List, length, Float}
use Rattle.floats.specs.Float.{◌⊕◌, at}
use Rattle.lists.specs.Lists.{tab}
use Rattle.model.specs.Lent.{Lent, S, M, T}
use Rattle.model.specs.Model.{sample_at, emission_of}

-- an emission table of S states by M symbols has an emission of symbol x for each state, and there is room for them
pub record Emits (S M : ℕ) (emission : List Float) (x : ℕ) (emissions : List Float) : Type 0 where
  pub emission_length : length emission ≡ S * M
  pub symbol : x < M
  pub emissions_room : S ≤ length emissions

-- what a call is lent has the emissions of the sample at time t, and there is room for them
abbrev pub EmitsAt : Lent → ℕ → List Float → Type 0
EmitsAt l t emissions = (t < T l) × Emits (S l) (M l) l.tables.emission (sample_at l.samples t) emissions

-- the emissions of what a call is lent, by time and state
abbrev pub emissions_of : Lent → ℕ → ℕ → Float
emissions_of l = emission_of (M l) l.tables.emission l.samples

-- what emissions by symbols ask of all samples: the table fits, and every sample is a symbol
pub record Symbols (S M : ℕ) (emission : List Float) (samples : List ℕ) : Type 0 where
  pub emission_length : length emission ≡ S * M
  pub known : (t : ℕ) → t < length samples → sample_at samples t < M

-- initial + emission, where `emissions` are those of the first sample
abbrev pub first_row : List Float → List Float → List Float
first_row initial emissions = tab (length initial) (λ (j : ℕ). at initial j ⊕ at emissions j)

-- it can be worked out, and has room in the values
pub record Beginning (initial emissions values : List Float) : Type 0 where
  pub emissions_length : length emissions ≡ length initial
  pub values_room : length initial ≤ length values
