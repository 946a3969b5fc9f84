-- The last sum of a walk, over lists as they lie in memory. A flag says which way the walk goes: true is backward.
use Rattle.std.specs.Prelude.{ℕ, ◌≤◌, ◌≡◌, Bool, true, false, List, length, Float}
use Rattle.floats.specs.Float.{◌⊕◌, at}
use Rattle.sums.specs.Sum.{ln_sum}

-- term k of the last sum of the forward walk: last row + end (RULES 6.2)
abbrev pub ending : List Float → List Float → ℕ → Float
ending row end k = at row k ⊕ at end k

-- and of the backward walk: (last row + initial) + emission of the first sample (RULES 6.3)
abbrev pub starting : List Float → List Float → List Float → ℕ → Float
starting row initial emissions k = (at row k ⊕ at initial k) ⊕ at emissions k

-- what the last row sums up to
unfoldable pub last_sum : Bool → List Float → List Float → List Float → List Float → Float
last_sum false row initial end emissions = ln_sum (length row) (ending row end)
last_sum true row initial end emissions = ln_sum (length row) (starting row initial emissions)

-- that sum can be worked out
pub record Closing (row initial end emissions : List Float) : Type 0 where
  pub few_states : length row ≤ 64
  pub initial_length : length initial ≡ length row
  pub end_length : length end ≡ length row
  pub emissions_length : length emissions ≡ length row
