-- What a walk that leaves no rows asks and promises.
use Rattle.std.specs.Prelude.{ℕ, ◌-◌, ◌≤◌, ◌<◌, ◌≡◌, List, length, take, get_or}
use Rattle.lists.specs.Lists.{tab}
use Rattle.model.specs.Model.{Model}
use Rattle.best_path.specs.Walk.{value, from, path_to, best_path, best_value}
use Rattle.best_path.specs.Score.{state_at}
use Rattle.rival.specs.declared.preview.Carried.{Carried}
use Rattle.rival.specs.declared.preview.Outlook.{Outlook}

-- what following the predecessors asks: one for each state, each a place of the origins before, and room
pub record Followable (states : ℕ) (from before origins : List ℕ) : Type 0 where
  pub from_room : states ≤ length from
  pub origins_room : states ≤ length origins
  pub below : (j : ℕ) → j < states → get_or from j 0 < length before

-- and laying the origins of any row
pub record Following (states : ℕ) (from before origins : List ℕ) : Type 0 where
  pub few_states : states ≤ 64
  pub followable : Followable states from before origins

-- the origins once row t is laid: at the sample that is asked for each state is its own, and after it has its predecessor's
pub record Originated (states t index : ℕ) (from before origins : List ℕ) : Type 0 where
  pub own : t ≡ index → (j : ℕ) → j < states → get_or origins j 0 ≡ j
  pub followed : index < t → (j : ℕ) → j < states → get_or origins j 0 ≡ get_or before (get_or from j 0) 0

-- what the origins are once row t is laid: of each state, the state that the best path to it has at the sample that is asked for
abbrev pub Origins : Model → ℕ → ℕ → List ℕ → Type 0
Origins m index t origins = index ≤ t → (j : ℕ) → j < m.states → get_or origins j 0 ≡ state_at (path_to (from m) t j) index

-- what is carried past n samples, one or more: the last row, and the origins of its states
pub record CarriedTo (m : Model) (n index : ℕ) (c : Carried) : Type 0 where
  pub row_length : length c.row ≡ 64
  pub origins_length : length c.origins ≡ 64
  pub row : take m.states c.row ≡ tab m.states (value m (n - 1))
  pub origins : Origins m index (n - 1) c.origins

-- the best path of n samples: its value, and its state at a sample
abbrev pub previewed : Model → ℕ → ℕ → Outlook
previewed m n index = record { value = best_value m n; state = state_at (best_path m n) index }
