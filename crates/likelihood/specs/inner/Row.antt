-- One row of a walk, over lists as they lie in memory: the first one, a cell of a later one, and all cells of it. `emissions` are those of
-- the row's sample, state by state. A flag says which way the walk goes: true is backward.
use Rattle.std.specs.Prelude.{ℕ, ◌+◌, ◌*◌, ◌≤◌, ◌≡◌, Bool, true, false, List, length, take, drop, Float}
use Rattle.floats.specs.Float.{◌⊕◌, at}
use Rattle.lists.specs.Lists.{tab, over}
use Rattle.lists.specs.inner.Holds.{Holds}
use Rattle.sums.specs.Sum.{ln_sum}
use Rattle.sums.specs.declared.sum.Open.{Open}
use Rattle.sums.specs.inner.Open.{opened}
use Rattle.model.specs.Model.{transition_of}
use Rattle.emission.specs.inner.Row.{first_row, Beginning}

-- the first row: initial + emission, or the end table
abbrev pub row_zero : Bool → List Float → List Float → List Float → List Float
row_zero false initial end emissions = first_row initial emissions
row_zero true initial end emissions = end

-- it can be worked out, and has room in the values
pub record Starting (initial end emissions values : List Float) : Type 0 where
  pub forward : Beginning initial emissions values
  pub backward : length end ≤ length values

-- it is laid over o
abbrev pub Begun : Bool → List Float → List Float → List Float → List Float → List Float → Type 0
Begun back initial end emissions o e = e ≡ over 0 (row_zero back initial end emissions) o

-- term k of the sum that state j of the row after `row` is
unfoldable pub cell_term : Bool → ℕ → List Float → List Float → List Float → ℕ → ℕ → Float
cell_term false S transition emissions row j k = (at row k ⊕ transition_of S transition k j) ⊕ at emissions j
cell_term true S transition emissions row j k = (at row k ⊕ transition_of S transition j k) ⊕ at emissions k

abbrev pub cell_of : Bool → ℕ → List Float → List Float → List Float → ℕ → Float
cell_of back S transition emissions row j = ln_sum S (cell_term back S transition emissions row j)

-- a later row asks for a transition table and emissions of its states, of which there are few
pub record Fitting (S : ℕ) (transition emissions : List Float) : Type 0 where
  pub few_states : S ≤ 64
  pub transition_length : length transition ≡ S * S
  pub emissions_length : length emissions ≡ S

-- S sums whose terms are f 0, f 1, .. stand at the front, before their logarithms are taken; d is what is read past the end
abbrev pub Opened : ℕ → List Open → (ℕ → ℕ → Float) → Type 0
Opened S sums f = (d : Open) → Holds d S (λ (j : ℕ). opened S (f j)) sums

-- the row after the one at place i is laid over o
abbrev pub Stepped : Bool → ℕ → ℕ → List Float → List Float → List Float → List Float → Type 0
Stepped back S i transition emissions o e = e ≡ over (i + S) (tab S (cell_of back S transition emissions (take S (drop i o)))) o
