-- `kernels::ln_1m_of` meets its contract: the definition, by its test.
use mathlib.Core.Path.{◌≡◌, refl, sym, ap, ◌∙◌}
use mathlib.Core.Bool.{Bool, true, false, cond}
use lib.Ieee.{Float, binary64, of_bits, neg, lt, mul, round, size}
use Rattle.std.proofs.lemmas.Float.{one_f64_is}
use Rattle.floats.specs.Float.{one, ◌⊖◌}
use Rattle.kernels.specs.Exp.{depth, exp_of}
use Rattle.kernels.specs.Ln.{ln_of}
use Rattle.kernels.specs.Ln1m.{series, border, ln1m_of}
use Rattle.kernels.proofs.ln_1m_of.Goals as goal

border_bits : of_bits binary64 0x3fe6_2d0e_5604_1893 ≡ border
unfolding of_bits border round size
border_bits = refl

by_test : (p : Float) (t : Bool) → lt p (neg (of_bits binary64 0x3fe6_2d0e_5604_1893)) ≡ t → ln1m_of p ≡ cond t (ln_of (one ⊖ exp_of p)) (ln_of (series (depth p)))
unfolding ln1m_of
by_test p t h = ap (λ (b : Bool). cond b (ln_of (one ⊖ exp_of p)) (ln_of (series (depth p)))) (ap (λ (b : Float). lt p (neg b)) (sym border_bits) ∙ h)

pub returns-then-p : goal.returns-then-p
returns-then-p c = let e = c.before in
    let t = e.before in
    c.ln_of.ensures
    ∙ ap (λ (u : Float). ln_of (u ⊖ e.exp_of.result)) one_f64_is
    ∙ ap (λ (v : Float). ln_of (one ⊖ v)) e.exp_of.ensures
    ∙ sym (by_test t.args.p true t.if-p.true)

pub returns : goal.returns
returns c = let h = c.before in
    let m = h.before in
    let t = m.before in
    c.ln_of-2.ensures
    ∙ ap (λ (v : Float). ln_of (mul binary64 m.depth-q.result v)) h.horner.ensures
    ∙ ap (λ (q : Float). ln_of (series q)) m.depth-q.ensures
    ∙ sym (by_test t.args.p false t.if-p.false)
