-- `best_path::step::predecessors` meets its contract. The loop's invariant: of the predecessors below k, every state has its best one, with
-- its sum, and low says whether they are at minus infinity.
use Rattle.std.proofs.Common.{ℕ, ◌<◌, get_or}
use Rattle.floats.specs.Float.{at}
use Rattle.model.specs.Model.{transition_of}
use Rattle.best_path.proofs.Held.{Leading}
use Rattle.best_path.proofs.step.predecessors.Given as goal

abbrev pub invariant-loop-k : goal.invariant-loop-k
invariant-loop-k l =
    (j : ℕ) → j < l.states
    → Leading (at l.row) (λ (i : ℕ). transition_of l.states l.transition i j) l.k (get_or l.winners j 0) (at l.sums j) l.low
