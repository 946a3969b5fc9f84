-- `checks::check_count` meets its contract: its two tests in order.
use mathlib.Core.Path.{sym, ◌∙◌}
use borrow.Author.Tests.{lt-ltb, le-ltb}
use Rattle.answer.proofs.Checks.{faulty, faultless, unfaulted}
use Rattle.checks.specs.Checks.{count_tests}
use Rattle.checks.proofs.check_count.Goals as goal

pub returns-then-samples-gt4096 : goal.returns-then-samples-gt4096
unfolding count_tests
returns-then-samples-gt4096 c = faulty _ _ _ _ (lt-ltb _ _ c.if-samples-gt4096.true) c.refused.ensures

pub returns-then-is_without_sample : goal.returns-then-is_without_sample
unfolding count_tests
returns-then-is_without_sample c =
    faultless _ _ _ _ (le-ltb _ _ c.if-samples-gt4096.false)
    (faulty _ _ _ _ (sym c.is_without_sample.ensures ∙ c.if-is_without_sample.true) c.refused-then-is_without_sample.ensures)

pub returns : goal.returns
unfolding count_tests
returns c =
    faultless _ _ _ _ (le-ltb _ _ c.if-samples-gt4096.false)
    (faultless _ _ _ _ (sym c.is_without_sample.ensures ∙ c.if-is_without_sample.false) unfaulted)
