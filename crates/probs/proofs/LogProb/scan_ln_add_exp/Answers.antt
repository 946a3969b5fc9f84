use Rattle.std.proofs.Common.{◌∙◌, sym, arith, zero-add}
use lib.Ieee.{nan}
use Rattle.floats.specs.Float.{at, minus_infinity}
use Rattle.lists.proofs.Over.{get_d_any, over_tab_none, over_tab_more}
use Rattle.sums.proofs.Loops.{cumsum_none, cumsum_more}
use Rattle.probs.proofs.LogProb.scan_ln_add_exp.Goals as goal

pub loop-i-init : goal.loop-i-init
loop-i-init c = (c.minus_infinity-sum.ensures ∙ cumsum_none _, over_tab_none _ _ _)

pub loop-i-preserved : goal.loop-i-preserved
loop-i-preserved c = let l = c.loop-i in
    let probs = c.args.probs.now in
    let term = get_d_any probs _ nan minus_infinity c.loop-i-test.true in
    let sum = cumsum_more (at probs) l.i _ _ _ l.invariant.0 term c.ln_add-sum.ensures in
    (sum, over_tab_more _ _ _ _ _ _ _ l.invariant.1 (sym (zero-add _)) (omega arith) sum)
