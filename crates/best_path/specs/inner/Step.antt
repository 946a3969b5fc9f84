-- What the step from one row to the next asks and promises, over lists in memory. The row that is read and the place that is written are
-- any, and need not follow each other.
use Rattle.std.specs.Prelude.{ℕ, ◌+◌, ◌*◌, ◌≤◌, ◌<◌, ◌≡◌, Bool, cond, not, ◌&&◌, ◌||◌, List, length, get_or, take, drop, Float}
use Rattle.std.specs.Float.Ieee.{le}
use Rattle.floats.specs.Float.{◌⊕◌, at, is_minus_infinity}
use Rattle.lists.specs.Lists.{tab, over}
use Rattle.model.specs.Model.{transition_of}
use Rattle.best_path.specs.Best.{predecessor}
use Rattle.best_path.specs.Walk.{cell}

-- predecessor k, of this value and with these transitions, is taken for state j where `takes j`; else the best so far stays
pub record Offered (takes : ℕ → Bool) (k : ℕ) (value : Float) (step sums sums' : List Float) (winners winners' : List ℕ) : Type 0 where
  pub sum : (j : ℕ) → j < length step → at sums' j ≡ cond (takes j) (value ⊕ at step j) (at sums j)
  pub winner : (j : ℕ) → j < length step → get_or winners' j 0 ≡ cond (takes j) k (get_or winners j 0)

-- where it is taken: low says that the best so far is at minus infinity, or that there is none
abbrev pub by_sum : Bool → Float → List Float → List Float → ℕ → Bool
by_sum low value step sums j = low || le (at sums j) (value ⊕ at step j)

abbrev pub by_rank : Bool → Float → List Float → List Float → ℕ → Bool
by_rank low value step sums j = low || (not (is_minus_infinity value) && le (at sums j) (value ⊕ at step j))

-- the predecessor and the value of state j in the row after `row`
abbrev pub next_from : ℕ → List Float → List Float → ℕ → ℕ
next_from states transition row j = predecessor states (at row) (λ (k : ℕ). transition_of states transition k j)

abbrev pub next_value : ℕ → List Float → List Float → List Float → ℕ → Float
next_value states transition emissions row j = cell states (at row) (λ (k : ℕ). transition_of states transition k j) (at emissions j)

-- what holding all predecessors against each other asks: a row, the table by which it is left, and a place for every state's best
pub record Rankable (states : ℕ) (transition row sums : List Float) (winners : List ℕ) : Type 0 where
  pub row_length : length row ≡ states
  pub transition_length : length transition ≡ states * states
  pub sums_room : states ≤ length sums
  pub winners_room : states ≤ length winners

-- every state's best predecessor, and its value + transition
pub record Ranked (states : ℕ) (transition row sums : List Float) (winners : List ℕ) : Type 0 where
  pub winner : (j : ℕ) → j < states → get_or winners j 0 ≡ next_from states transition row j
  pub sum : (j : ℕ) → j < states → let k = next_from states transition row j in at sums j ≡ at row k ⊕ transition_of states transition k j

-- what laying the values of a row from place `target` on asks
pub record Summable (states : ℕ) (sums emissions : List Float) (target : ℕ) (values : List Float) : Type 0 where
  pub sums_room : states ≤ length sums
  pub emissions_length : length emissions ≡ states
  pub values_room : target + states ≤ length values

-- and laying its predecessors
pub record Placeable (states : ℕ) (winners : List ℕ) (target : ℕ) (from : List ℕ) : Type 0 where
  pub winners_room : states ≤ length winners
  pub from_room : target + states ≤ length from
  pub byte : (j : ℕ) → j < states → get_or winners j 0 < 256

-- what a step asks that reads the row at `source` and lays the next one from `target` on, where `emissions` are those of its sample
pub record Continuing (states : ℕ) (transition emissions : List Float) (source target : ℕ) (values : List Float) (from : List ℕ)
    : Type 0 where
  pub few_states : states ≤ 64
  pub transition_length : length transition ≡ states * states
  pub emissions_length : length emissions ≡ states
  pub source_room : source + states ≤ length values
  pub values_room : target + states ≤ length values
  pub from_room : target + states ≤ length from

-- values v and predecessors f are stored over what was there, from place i on
pub record Stored (i : ℕ) (v : List Float) (f : List ℕ) (values values' : List Float) (from from' : List ℕ) : Type 0 where
  pub values_stored : values' ≡ over i v values
  pub from_stored : from' ≡ over i f from

-- the row after the one at `source`
abbrev pub Stepped : ℕ → List Float → List Float → ℕ → ℕ → List Float → List Float → List ℕ → List ℕ → Type 0
Stepped states transition emissions source target values =
    let row = take states (drop source values) in
    Stored target (tab states (next_value states transition emissions row)) (tab states (next_from states transition row)) values
