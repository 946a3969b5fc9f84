-- `likelihood::walk` meets its contract. The loop's invariant, `Rows`: rows 0 to i stand.
use Rattle.std.proofs.Common.{◌≡◌, ◌+◌, length}
use Rattle.model.specs.Lent.{T, behind}
use Rattle.model.specs.Model.{model_of}
use Rattle.likelihood.proofs.Steps.{Rows}
use Rattle.likelihood.proofs.walk.Given as goal

abbrev pub invariant-loop-i : goal.invariant-loop-i
invariant-loop-i g l =
    let lent = behind l.lent in
    (length l.emissions ≡ 64) × Rows (model_of lent) (T lent) g.W.Way.BACK l.fn.values l.values (l.i + 1)
