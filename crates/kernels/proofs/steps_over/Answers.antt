use Rattle.std.proofs.Common.{◌∙◌, ◌+◌, ℕ, ◌≡◌, sym, ap, arith}
use Rattle.kernels.specs.Roots.{constants}
use Rattle.kernels.specs.Exp.{steps}
use Rattle.kernels.proofs.Steps.{part, first_step, none_left, constant_lt}
use Rattle.kernels.proofs.steps_over.Goals as goal

pub stepped-r-requires : goal.stepped-r-requires
unfolding constants
stepped-r-requires c = (c.loop-i.invariant.0, constant_lt c.loop-i.i (omega arith))

pub loop-i-preserved : goal.loop-i-preserved
unfolding constants
loop-i-preserved c = let l = c.loop-i in
    let p = c.args in
    let next = ap (steps (part constants (l.i + 1) p.to) p.g) c.stepped-r.ensures.0 ∙ sym (first_step constants l.i p.to p.g l.r c.loop-i-test.true c.requires.2) in
    (c.stepped-r.ensures.1, next ∙ l.invariant.1)

pub returns : goal.returns
returns c = let l = c.loop-i in
    let p = c.args in
    let end : p.to ≡ l.i = omega arith in
    (sym (none_left constants p.to p.g l.r) ∙ ap (λ (k : ℕ). steps (part constants k p.to) p.g l.r) end ∙ l.invariant.1, l.invariant.0)
