-- What a row in memory is, over any model, and what laying one of them by its sample, or all, asks.
use Rattle.std.specs.Prelude.{ℕ, ◌+◌, ◌*◌, ◌≤◌, ◌<◌, ◌≡◌, Bool, List, length, Float, Option}
use Rattle.lists.specs.Lists.{tab, table}
use Rattle.model.specs.Lent.{Lent, S, M, T}
use Rattle.model.specs.Model.{Model, tabled}
use Rattle.emission.specs.declared.Bar.{Bar}
use Rattle.emission.specs.Barring.{barring_by}
use Rattle.emission.specs.inner.Row.{Symbols, emissions_of}
use Rattle.best_path.specs.Walk.{value, from}
use Rattle.best_path.specs.inner.Step.{Stored}
use Rattle.best_path.specs.inner.Row.{StandsBefore}

-- the sample at time t is seen: it is one of the samples, each a symbol, and there is room for its emissions
pub record Seen (states symbols : ℕ) (emission : List Float) (samples : List ℕ) (t : ℕ) (emissions : List Float) : Type 0 where
  pub symbolic : Symbols states symbols emission samples
  pub within : t < length samples
  pub emissions_room : states ≤ length emissions

-- row t has its place: the tables fit the states, and there is room for it and for the one before it; the first row is laid at the front
pub record Placed (states : ℕ) (transition initial : List Float) (t source target : ℕ) (values : List Float) (from : List ℕ) : Type 0 where
  pub some_state : 0 < states
  pub few_states : states ≤ 64
  pub transition_length : length transition ≡ states * states
  pub initial_length : length initial ≡ states
  pub first_at_front : t ≡ 0 → target ≡ 0
  pub source_room : source + states ≤ length values
  pub values_room : target + states ≤ length values
  pub from_room : target + states ≤ length from

-- row t is stored at `target`, of every model that has these tables and emissions and whose row before stands at `source`
abbrev pub SampleStored : ℕ → List Float → List Float → (ℕ → ℕ → Float) → ℕ → ℕ → ℕ → List Float → List Float → List ℕ → List ℕ → Type 0
SampleStored states transition initial emission t source target values values' from₀ from' =
    (ends : Bool) (end : ℕ → Float) → let m = tabled states transition initial emission ends end in
    StandsBefore m t source values → Stored target (tab states (value m t)) (tab states (from m t)) values values' from₀ from'

-- what laying n rows asks, whatever the emissions are: tables that fit the states, and room
pub record Walkable (states n : ℕ) (transition initial values : List Float) (from : List ℕ) : Type 0 where
  pub some_state : 0 < states
  pub few_states : states ≤ 64
  pub transition_length : length transition ≡ states * states
  pub initial_length : length initial ≡ states
  pub values_room : n * states ≤ length values
  pub from_room : n * states ≤ length from

-- the n rows of a model
abbrev pub Filled : Model → ℕ → List Float → List Float → List ℕ → List ℕ → Type 0
Filled m n = Stored 0 (table n m.states (value m)) (table n m.states (from m))

-- of every model that has these tables and emissions: its rows read no end
abbrev pub RowsStored : ℕ → List Float → List Float → (ℕ → ℕ → Float) → ℕ → List Float → List Float → List ℕ → List ℕ → Type 0
RowsStored states transition initial emission n values values' from₀ from' =
    (ends : Bool) (end : ℕ → Float) → Filled (tabled states transition initial emission ends end) n values values' from₀ from'

-- ---- the same of what a call is lent
module _ (l : Lent) where
  abbrev pub SeenAt : ℕ → List Float → Type 0
  SeenAt = Seen (S l) (M l) l.tables.emission l.samples

  abbrev pub PlacedAt : ℕ → ℕ → ℕ → List Float → List ℕ → Type 0
  PlacedAt = Placed (S l) l.tables.transition l.tables.initial

  abbrev pub RowLaid : Option Bar → ℕ → ℕ → ℕ → List Float → List Float → List ℕ → List ℕ → Type 0
  RowLaid bar = SampleStored (S l) l.tables.transition l.tables.initial (barring_by bar (emissions_of l))

  -- what laying all rows asks
  pub record AllWalkable (values : List Float) (from : List ℕ) : Type 0 where
    pub walkable : Walkable (S l) (T l) l.tables.transition l.tables.initial values from
    pub symbolic : Symbols (S l) (M l) l.tables.emission l.samples

  abbrev pub RowsLaid : Option Bar → List Float → List Float → List ℕ → List ℕ → Type 0
  RowsLaid bar = RowsStored (S l) l.tables.transition l.tables.initial (barring_by bar (emissions_of l)) (T l)
