-- `checks::check_shape` meets its contract: its two tests in order.
use mathlib.Core.Path.{sym, ◌∙◌}
use Rattle.answer.proofs.Checks.{faulty, faultless, unfaulted}
use Rattle.checks.specs.Checks.{shape_tests}
use Rattle.checks.proofs.check_shape.Goals as goal

pub returns-then-is_out_of_range : goal.returns-then-is_out_of_range
unfolding shape_tests
returns-then-is_out_of_range c = faulty _ _ _ _ (sym c.is_out_of_range.ensures ∙ c.if-is_out_of_range.true) c.refused.ensures

pub returns-then-is_out_of_range-2 : goal.returns-then-is_out_of_range-2
unfolding shape_tests
returns-then-is_out_of_range-2 c =
    faultless _ _ _ _ (sym c.is_out_of_range.ensures ∙ c.if-is_out_of_range.false)
    (faulty _ _ _ _ (sym c.is_out_of_range-2.ensures ∙ c.if-is_out_of_range-2.true) c.refused-then-is_out_of_range-2.ensures)

pub returns : goal.returns
unfolding shape_tests
returns c =
    faultless _ _ _ _ (sym c.is_out_of_range.ensures ∙ c.if-is_out_of_range.false)
    (faultless _ _ _ _ (sym c.is_out_of_range-2.ensures ∙ c.if-is_out_of_range-2.false) unfaulted)
