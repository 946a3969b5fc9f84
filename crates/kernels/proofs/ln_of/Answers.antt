-- `kernels::ln_of` meets its contract: the definition, by the tests on x and its bits.
use mathlib.Core.Path.{◌≡◌, sym, ap, ◌∙◌, subst}
use mathlib.Core.Bool.{true, false}
use lib.Dec.{T}
use lib.IntN.{ℤ, negsuc}
use lib.Ieee.{Float, fin, binary64, fits, of_bits, mul, of_int}
use lib.Ieee.Bits.{of_bits-to_bits}
use mir.Syntax.{w64}
use mir.ValLaws.{to_z-of_z}
use Rattle.kernels.specs.Binary.{units_of, dyadic}
use Rattle.kernels.specs.Ln.{ln2, ln_fixed, ln_from}
use Rattle.kernels.proofs.LnParts.{ln2_bits, above_ln, other_ln, infinite_ln, not_infinite, pattern_in, pattern_pos, signed_scaled}
use Rattle.kernels.proofs.ln_of.Goals as goal

-- an f64 parameter is a value of the format
held : (x : Float) → fits binary64 x ≡ true → T (fits binary64 x)
held x e = subst T (sym e) tt

pub returns-then-x-2 : goal.returns-then-x-2
unfolding of_bits
returns-then-x-2 c = infinite_ln c.args.x c.if-x-2.true

pub ln_fixed-n-requires : goal.ln_fixed-n-requires
unfolding of_bits
ln_fixed-n-requires c = let x = c.args.x in
    let h = c.if-x.true in
    (pattern_pos x (held x c.well_formed.0.1) h, pattern_in x (held x c.well_formed.0.1) h (not_infinite x c.if-x-2.false))

pub returns-else-x-2 : goal.returns-else-x-2
unfolding ln_from of_bits
returns-else-x-2 c = let x = c.args.x in
    let z = c.ln_fixed-n.result in
    let back = to_z-of_z w64 z (record { sfits = c.ln_fixed-n.type_inv }) in
    let same : z ≡ ln_fixed (units_of x) = c.ln_fixed-n.ensures.0 ∙ ap (λ (y : Float). ln_fixed (units_of y)) (of_bits-to_bits binary64 x (held x c.well_formed.0.1)) in
    ap (mul binary64 (mul binary64 (of_int binary64 _) (fin false 1 (negsuc 29)))) ln2_bits
    ∙ ap (λ (a : ℤ). mul binary64 (mul binary64 (of_int binary64 a) (fin false 1 (negsuc 29))) ln2) back
    ∙ ap (λ (a : Float). mul binary64 a ln2) (signed_scaled z c.ln_fixed-n.ensures.1)
    ∙ ap (λ (a : ℤ). mul binary64 (dyadic a 30) ln2) same
    ∙ sym (above_ln x c.if-x.true (not_infinite x c.if-x-2.false))

pub returns-else-x : goal.returns-else-x
unfolding of_bits
returns-else-x c = c.minus_infinity.ensures ∙ other_ln c.args.x c.if-x.false
