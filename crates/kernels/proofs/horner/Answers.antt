use Rattle.std.proofs.Common.{sym, ◌∙◌}
use lib.Ieee.{of_bits}
use Rattle.kernels.proofs.Series.{turn, turned}
use Rattle.kernels.proofs.horner.Goals as goal

pub loop-k-preserved : goal.loop-k-preserved
unfolding of_bits
loop-k-preserved c = let l = c.loop-k in
    rw c.from.ensures (sym (turn c.args.q l.h l.k c.loop-k-test.true) ∙ l.invariant)

pub returns : goal.returns
returns c = let l = c.loop-k in
    sym (turned c.args.q l.h l.k c.loop-k-test.false) ∙ l.invariant
