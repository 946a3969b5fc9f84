use Rattle.std.proofs.Common.{◌≡◌, ℕ, ◌+◌, ◌-◌, refl, ◌∙◌, arith}
use Rattle.lists.proofs.Laid.{laid_none, laid_more}
use Rattle.sums.proofs.Loops.{closed_done}
use Rattle.likelihood.proofs.next_row.Goals as goal

-- the row before, as `open_row` is passed it, is as long as there are states
whole : (at states : ℕ) → at + states - at ≡ states
whole at states = omega arith

pub loop-j-init : goal.loop-j-init
loop-j-init g c = laid_none _ _ _ _

pub loop-j-preserved : goal.loop-j-preserved
loop-j-preserved g c =
    laid_more _ _ _ _ _ _ _ _ c.loop-j.invariant c.loop-j-test.true (omega (arith, c.requires.states_in_bounds)) refl
    (c.close_sum.ensures ∙ closed_done _ _ _ (((rw (whole c.args.at c.args.states) at c.open_row-sums.ensures) _).is _ c.loop-j-test.true))
