use Rattle.std.proofs.Common.{sym, zero-add, arith}
use Rattle.floats.specs.Float.{minus_infinity}
use Rattle.lists.proofs.Over.{tab_own}
use Rattle.lists.proofs.Laid.{laid_none, laid_more, laid_done}
use Rattle.likelihood.proofs.BetaWay.begin.Goals as goal

pub loop-j-init : goal.loop-j-init
loop-j-init c = laid_none _ _ _ _

pub loop-j-preserved : goal.loop-j-preserved
loop-j-preserved c =
    laid_more _ _ _ _ _ _ _ _ c.loop-j.invariant c.loop-j-test.true (omega (arith, c.requires.backward)) (sym (zero-add _)) c.entry.ensures

pub returns : goal.returns
returns c = rw (tab_own _ minus_infinity) at (laid_done _ _ _ _ _ _ c.loop-j.invariant c.loop-j-test.false)
