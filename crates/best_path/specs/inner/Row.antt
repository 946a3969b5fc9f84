-- What laying one row in memory asks and promises, over any model.
use Rattle.std.specs.Prelude.{ℕ, ◌+◌, ◌*◌, ◌-◌, ◌≤◌, ◌<◌, ◌≡◌, Bool, List, length, take, drop, Float}
use Rattle.lists.specs.Lists.{tab}
use Rattle.model.specs.Model.{Model, tabled}
use Rattle.best_path.specs.Walk.{value, from}
use Rattle.best_path.specs.inner.Step.{Stored}

-- the predecessors of the first row: each state is its own
abbrev pub first_from : ℕ → List ℕ
first_from states = tab states (λ (j : ℕ). j)

-- what laying row t asks, whatever its emissions are: tables that fit the states, an emission for each, and room for this row and the one
-- before it; the first row is laid at the front
pub record Layable (states : ℕ) (transition initial emissions : List Float) (t source target : ℕ) (values : List Float) (from : List ℕ)
    : Type 0 where
  pub some_state : 0 < states
  pub few_states : states ≤ 64
  pub transition_length : length transition ≡ states * states
  pub initial_length : length initial ≡ states
  pub emissions_length : length emissions ≡ states
  pub first_at_front : t ≡ 0 → target ≡ 0
  pub source_room : source + states ≤ length values
  pub values_room : target + states ≤ length values
  pub from_room : target + states ≤ length from

-- the row before row t, where there is one, stands in memory from place `source` on
abbrev pub StandsBefore : Model → ℕ → ℕ → List Float → Type 0
StandsBefore m t source values = 0 < t → take m.states (drop source values) ≡ tab m.states (value m (t - 1))

-- row t is stored at `target`, of every model that has these tables, whose emissions at time t are these, and whose row before stands. A row
-- reads no end.
abbrev pub RowStored : ℕ → List Float → List Float → List Float → ℕ → ℕ → ℕ → List Float → List Float → List ℕ → List ℕ → Type 0
RowStored states transition initial emissions t source target values values' from₀ from' =
    (e : ℕ → ℕ → Float) (ends : Bool) (end : ℕ → Float) → let m = tabled states transition initial e ends end in
    emissions ≡ tab states (e t) → StandsBefore m t source values
    → Stored target (tab states (value m t)) (tab states (from m t)) values values' from₀ from'
