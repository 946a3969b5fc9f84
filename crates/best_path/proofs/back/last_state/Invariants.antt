-- `best_path::back::last_state` meets its contract. The loop's invariant: best has the greatest score below k.
use Rattle.std.proofs.Common.{◌≡◌, ◌<◌, ℕ, Bool, List, length}
use Rattle.std.specs.Prelude.{Float}
use Rattle.std.specs.Float.Ieee.{le}
use Rattle.floats.specs.Float.{at}
use Rattle.best_path.specs.Best.{best_of}
use Rattle.best_path.specs.Walk.{ended}
use Rattle.best_path.proofs.back.last_state.Given as goal

abbrev at_least : Bool → List Float → List Float → ℕ → ℕ → Bool
at_least ends end row b k = le (ended ends (at end b) (at row b)) (ended ends (at end k) (at row k))

abbrev pub invariant-loop-k : goal.invariant-loop-k
invariant-loop-k l = (l.best < length l.row) × (l.best ≡ best_of (at_least l.ends l.end l.row) l.k)
