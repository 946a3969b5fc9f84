-- `kernels::exp_of` meets its contract: y, Y, I, G and A are what the definition says, step by step.
use mathlib.Core.Path.{◌≡◌, sym, ap, ◌∙◌, subst}
use mathlib.Core.Bool.{Bool, true, false, cond}
use Prim.Native.Nat.{ℕ, ◌+◌, ◌/◌, ◌^◌}
use lib.Dec.{T}
use lib.IntN.{pos}
use lib.Bits.{and_mask}
use lib.Ieee.{Float, binary64, of_bits, le, mul}
use lib.Ieee.Fits.{mul-fits}
use lib.Ieee.Bits.{of_bits-to_bits}
use Rattle.floats.specs.Float.{nought}
use Rattle.floats.specs.inner.Sign.{nonneg}
use Rattle.floats.proofs.Sign.{sign_num}
use Rattle.kernels.specs.Binary.{dyadic}
use Rattle.kernels.specs.Exp.{depth, power, log2e, exp_arg, floor30, exp_from, exp_end, exp_of}
use Rattle.kernels.proofs.ExpParts.{log2e_bits, arg_nonneg, small_pattern}
use Rattle.kernels.proofs.exp_of.Goals as goal

-- y as the code has it, of what depth gives
abbrev y_of : Float → Float
y_of r = mul binary64 r (of_bits binary64 0x3ff7_1547_652b_82fe)

y_is : (d r : Float) → r ≡ depth d → y_of r ≡ exp_arg d
y_is d r h = ap (mul binary64 r) log2e_bits ∙ ap (λ (a : Float). mul binary64 a log2e) h

y_nonneg : (d r : Float) → r ≡ depth d → T (nonneg (y_of r))
y_nonneg d r h = subst (λ (y : Float). T (nonneg y)) (sym (y_is d r h)) (arg_nonneg d)

-- the definition, by its test
by_test : (d r : Float) → r ≡ depth d → (t : Bool) → le exp_end (y_of r) ≡ t
    → exp_of d ≡ cond t nought (exp_from (floor30 (exp_arg d)))
unfolding exp_of
by_test d r e t h = let y = exp_arg d in ap (λ (b : Bool). cond b nought (exp_from (floor30 y))) (sym (ap (le exp_end) (y_is d r e)) ∙ h)

pub returns-then-y : goal.returns-then-y
unfolding of_bits
returns-then-y c = sym (by_test c.args.d c.depth-y.result c.depth-y.ensures true c.if-y.true)

pub float_to_bits-y : goal.float_to_bits-y
float_to_bits-y c = sign_num false (y_of c.depth-y.result) (y_nonneg c.args.d c.depth-y.result c.depth-y.ensures)

pub floor30-fixed-requires : goal.floor30-fixed-requires
unfolding of_bits
floor30-fixed-requires c = small_pattern (y_of c.depth-y.result) (y_nonneg c.args.d c.depth-y.result c.depth-y.ensures) c.if-y.false

pub returns : goal.returns
unfolding exp_from
returns c = let r = c.depth-y.result in
    let Y = c.floor30-fixed.result in
    let same : Y ≡ floor30 (exp_arg c.args.d) = c.floor30-fixed.ensures.0 ∙ ap floor30 (of_bits-to_bits binary64 (y_of r)
    (mul-fits binary64 r (of_bits binary64 0x3ff7_1547_652b_82fe)) ∙ y_is c.args.d r c.depth-y.ensures) in
    c.scaled.ensures
    ∙ ap (λ (a : ℕ). dyadic (pos a) (31 + Y / 2 ^ 30)) (c.power.ensures.0 ∙ ap power (and_mask Y 30))
    ∙ ap exp_from same
    ∙ sym (by_test c.args.d r c.depth-y.ensures false (unfold of_bits in c.if-y.false))
