-- `likelihood::sum_of` meets its contract. The loop's invariant: the first k terms stand at the front of the array.
use Rattle.std.proofs.Common.{◌≡◌, ℕ, ◌<◌, length}
use Rattle.floats.specs.Float.{at}
use Rattle.likelihood.proofs.sum_of.Given as goal

abbrev pub invariant-loop-k : goal.invariant-loop-k
invariant-loop-k g l = (length l.terms ≡ 64) × ((k : ℕ) → k < l.k → goal.F-post g l.term k (at l.terms k))
