-- `likelihood::BetaWay::begin` meets its contract. The loop's invariant, `Laid`: the first j entries stand at the front.
use Rattle.std.proofs.Common.{length}
use Rattle.floats.specs.Float.{at}
use Rattle.lists.proofs.Laid.{Laid}
use Rattle.likelihood.proofs.BetaWay.begin.Given as goal

abbrev pub invariant-loop-j : goal.invariant-loop-j
invariant-loop-j l = Laid (length l.end) 0 (at l.end) l.initial.values l.values l.j
