-- All rows of a walk and its value, over any model and n samples: what the walk asks, and apart from it what its emissions ask. A flag says
-- which way: true is backward.
use Rattle.std.specs.Prelude.{ℕ, ◌+◌, ◌*◌, ◌-◌, ◌<◌, ◌≤◌, ◌≡◌, Bool, true, false, List, length, Float}
use Rattle.lists.specs.Lists.{table, over}
use Rattle.model.specs.Lent.{Lent, S, M, T}
use Rattle.model.specs.Model.{Model}
use Rattle.emission.specs.inner.Row.{Symbols}
use Rattle.likelihood.specs.Walk.{alpha, forward_value, beta, backward_value}

-- what a walk asks, whatever its emissions are: tables that fit the states, a sample at least, and room for a row for each
pub record Walkable (S n : ℕ) (transition initial end values : List Float) : Type 0 where
  pub few_states : S ≤ 64
  pub transition_length : length transition ≡ S * S
  pub initial_length : length initial ≡ S
  pub end_length : length end ≡ S
  pub some_sample : 0 < n
  pub values_room : n * S ≤ length values

-- the same of what a call is lent, whose emissions are by symbols
pub record Ready (l : Lent) (values : List Float) : Type 0 where
  pub walkable : Walkable (S l) (T l) l.tables.transition l.tables.initial l.tables.end values
  pub symbols : Symbols (S l) (M l) l.tables.emission l.samples

-- ---- the walk
-- row i of a walk over n samples, by states
abbrev pub row_of : Bool → Model → ℕ → ℕ → ℕ → Float
row_of false m n = alpha m
row_of true m n = beta m n

-- the time of the sample whose emissions enter row i + 1
abbrev pub time_of : Bool → ℕ → ℕ → ℕ
time_of false n i = i + 1
time_of true n i = n - 1 - i

-- all rows are laid over o
abbrev pub Filled : Bool → Model → ℕ → List Float → List Float → Type 0
Filled back m n o e = e ≡ over 0 (table n m.states (row_of back m n)) o

-- the value of a walk
abbrev pub value_of : Bool → Model → ℕ → Float
value_of false = forward_value
value_of true = backward_value

-- the value is v, and all rows are laid over o
pub record Valued (back : Bool) (m : Model) (n : ℕ) (o : List Float) (v : Float) (e : List Float) : Type 0 where
  pub value : v ≡ value_of back m n
  pub filled : Filled back m n o e
