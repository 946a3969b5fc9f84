use Rattle.std.proofs.Common.{not, refl, ap, arith}
use Rattle.std.proofs.lemmas.Grind.{common_steps}
use Rattle.file_layout.specs.Checks.{sum_tests}
use Rattle.file_layout.proofs.Accepting.{cleared_all, cleared_stop}
use Rattle.file_layout.proofs.Within.{sum_test_lem}
use Rattle.file_layout.proofs.inspect.check_sums.Goals as goal

pub returns-then-not-is_summed : goal.returns-then-not-is_summed
unfolding sum_tests
returns-then-not-is_summed c =
    cleared_stop _ _ _ _ c.loop-i.invariant (grind (arith, common_steps))
    (sum_test_lem _ _ c.requires.own _ _ _ c.is_summed.ensures (ap not c.if-not-is_summed.true)) refl c.refused.ensures

pub returns : goal.returns
unfolding sum_tests
returns c = cleared_all _ _ _ c.loop-i.invariant (grind (arith, common_steps))
