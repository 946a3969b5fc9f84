-- What the way back through the predecessors asks.
use Rattle.std.specs.Prelude.{ℕ, ◌+◌, ◌*◌, ◌≤◌, ◌<◌, List, length, get_or}

-- the predecessor of state k at time t, as a table by rows holds it
abbrev pub from_at : ℕ → List ℕ → ℕ → ℕ → ℕ
from_at states from t k = get_or from (t * states + k) 0

-- n rows of predecessors, each a state, and room for the path from place `start` on
pub record Traceable (states n last : ℕ) (from : List ℕ) (start : ℕ) (path : List ℕ) : Type 0 where
  pub few_states : states ≤ 64
  pub some_sample : 0 < n
  pub last_below : last < states
  pub from_room : n * states ≤ length from
  pub path_room : start + n ≤ length path
  pub below : (t k : ℕ) → t < n → k < states → from_at states from t k < states
