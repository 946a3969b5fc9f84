use Rattle.std.proofs.Common.{◌≡◌, ◌∙◌, ◌-◌, ◌^◌, ◌<◌, ℕ, sym, ap, subst, arith}
use Rattle.kernels.specs.Ln.{log_bits}
use Rattle.kernels.proofs.Squares.{one_kept, zero_kept, log_done}
use Rattle.kernels.proofs.log_bits.Goals.{then-b-ge4294967296, else-b-ge4294967296}
use Rattle.kernels.proofs.log_bits.Goals as goal

pub loop-preserved : goal.loop-preserved
loop-preserved c = let l = c.loop in
    elim c.if-b-ge4294967296.branch [
      | then-b-ge4294967296 w ↦ rw (w.a-is, w.f-is) (one_kept _ _ _ _ l.invariant c.loop-test.true w.if-b-ge4294967296.true)
      | else-b-ge4294967296 w ↦ rw (w.a-is, w.f-is) (zero_kept _ _ _ _ l.invariant c.loop-test.true w.if-b-ge4294967296.false)
    ]

pub returns : goal.returns
returns c = let l = c.loop in
    let e : l.counter ≡ 30 = omega arith in
    (sym (log_done l.a l.f) ∙ ap (λ (k : ℕ). log_bits (30 - k) l.a l.f) (sym e) ∙ l.invariant.3, subst (λ (k : ℕ). l.f < 2 ^ k) e l.invariant.2)
