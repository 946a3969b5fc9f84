-- Laws of ln(1 - exp p): what it hands to ln is from +0.0 to 1.0, in ln's domain, so it never refuses for p at most 0; and so its value is
-- at most 0 and no NaN. Minus infinity at either zero.
use mathlib.Core.Path.{◌≡◌, refl, sym, ap, ◌∙◌, subst}
use mathlib.Core.Bool.{Bool, true, false, cond, true≢false}
use Prim.Native.Nat.{ℕ, zero, suc, ◌+◌, ◌*◌, ◌^◌, ◌≤◌}
use native.Mathlib.Nat.{zero-mul}
use native.Mathlib.Omega.{arith}
use borrow.Author.Tests.{ltb-false, le-ltb}
use lib.Dec.{T, ltb, le→leb}
use lib.IntN.{pos, negsuc}
use lib.Ieee.{Float, nan, inf, fin, binary64, up, down, mul, sub, add, sum, div, neg, lt, le, of_int, round, size, fits}
use lib.Ieee.Back.{round_whole}
use Rattle.floats.specs.Float.{nought, one, minus_infinity, is_number, ◌⊖◌}
use Rattle.floats.specs.inner.Sign.{unit}
use Rattle.floats.proofs.Fraction.{unit_domain, zero_is}
use Rattle.floats.proofs.Unit.{unit_mul, unit_complement, unit_whole}
use Rattle.kernels.specs.Exp.{depth, exp_of}
use Rattle.kernels.specs.Ln.{ln_of}
use Rattle.kernels.specs.Ln1m.{horner_step, horner, series, border, ln1m_of}
use Rattle.kernels.proofs.ExpLaws.{exp_unit}
use Rattle.kernels.proofs.LnLaws.{ln_nonpos, ln_number}

-- ---- every h, and q·h, is from +0.0 to 1.0 where q is
step_unit : (q h : Float) (k : ℕ) → T (unit q) → T (unit h) → 1 ≤ k → k ≤ 2 ^ 53 → T (unit (horner_step q k h))
unfolding of_int
step_unit q h k uq uh lo hi =
    unit_complement (mul binary64 (div binary64 q (of_int binary64 (pos k))) h)
    (unit_mul (div binary64 q (of_int binary64 (pos k))) h (unit_whole q (of_int binary64 (pos k)) k uq (round_whole binary64 false k hi) lo) uh)

horner_unit : (k : ℕ) (q h : Float) → k ≤ 2 ^ 53 → T (unit q) → T (unit h) → T (unit (horner k q h))
unfolding horner
horner_unit zero q h b u v = v
horner_unit (suc zero) q h b u v = v
horner_unit (suc (suc n)) q h b u v = horner_unit (suc n) q (horner_step q (suc (suc n)) h) (omega arith) u (step_unit q h (suc (suc n)) u v (omega arith) b)

pub series_unit : (q : Float) → T (unit q) → T (unit (series q))
series_unit q u = unit_mul q (horner 12 q one) u (horner_unit 12 q one (omega arith) u tt)

-- ---- |p| is there where p is not below -0.693
border_is : neg border ≡ fin true 6241989083535507 (negsuc 52)
unfolding neg border round size
border_is = refl

near_border : (p : Float) → lt p (fin true 6241989083535507 (negsuc 52)) ≡ false → T (unit (depth p))
unfolding lt neg
near_border nan k = tt
near_border (inf true) k = absurd (true≢false k)
near_border (inf false) k = tt
near_border (fin true m e) k = go (ltb 0 (m * up e * 1 + 0 * down e))
  where
    small : (n d : ℕ) → n * 9007199254740992 ≤ 6241989083535507 * d → n ≤ d
    small n d a = omega arith

    go : (t : Bool) → T (unit (cond t (fin false m e) nought))
    go true = le→leb (m * up e) (down e) (small (m * up e) (down e) (ltb-false (6241989083535507 * down e) (m * up e * 2 ^ 53) k))
    go false = tt
near_border (fin false m e) k =
    subst (λ (t : Bool). T (unit (cond t (fin true m e) nought))) (sym (le-ltb (m * up e * 1) (0 * down e) (none (down e) (m * up e * 1)))) tt
  where
    none : (d n : ℕ) → 0 * d ≤ n
    none d n = omega (arith, zero-mul d)

pub near_unit : (p : Float) → lt p (neg border) ≡ false → T (unit (depth p))
near_unit p k = near_border p (ap (lt p) (sym border_is) ∙ k)

-- ---- so both of ln's arguments are in its domain
pub far_domain : (p : Float) → T (le nought (one ⊖ exp_of p))
far_domain p = unit_domain (one ⊖ exp_of p) (unit_complement (exp_of p) (exp_unit p))

pub near_domain : (p : Float) → lt p (neg border) ≡ false → T (le nought (series (depth p)))
near_domain p k = unit_domain (series (depth p)) (series_unit (depth p) (near_unit p k))

-- ---- the value
module _ (P : Float → Type 0) (far : (p : Float) → P (ln_of (one ⊖ exp_of p)))
    (near : (p : Float) → lt p (neg border) ≡ false → P (ln_of (series (depth p)))) where
  either : (p : Float) → P (ln1m_of p)
  unfolding ln1m_of
  either p = go (lt p (neg border)) refl
    where
      go : (t : Bool) → lt p (neg border) ≡ t → P (cond t (ln_of (one ⊖ exp_of p)) (ln_of (series (depth p))))
      go true e = far p
      go false e = near p e

pub ln1m_nonpos : (p : Float) → T (le (ln1m_of p) nought)
ln1m_nonpos =
    either (λ (y : Float). T (le y nought)) (λ p. ln_nonpos (one ⊖ exp_of p) (unit_complement (exp_of p) (exp_unit p)))
    (λ p k. ln_nonpos (series (depth p)) (series_unit (depth p) (near_unit p k)))

pub ln1m_number : (p : Float) → T (is_number (ln1m_of p))
ln1m_number = either (λ (y : Float). T (is_number y)) (λ p. ln_number (one ⊖ exp_of p)) (λ p k. ln_number (series (depth p)))

-- ---- q = -p: the definition takes the depth of p, which is -p but at p = +0.0, where it makes no difference
zero_alike : (s : Bool) → ln_of (series nought) ≡ ln_of (series (neg (fin s 0 (pos 0))))
unfolding horner ln_of mul div sub add sum neg round size of_int
zero_alike true = refl
zero_alike false = refl

pub minus_p : (p : Float) → T (fits binary64 p) → T (le p nought) → ln_of (series (depth p)) ≡ ln_of (series (neg p))
minus_p p f h = go (lt p nought) refl
  where
    go : (t : Bool) → lt p nought ≡ t → ln_of (series (cond t (neg p) nought)) ≡ ln_of (series (neg p))
    go true e = refl
    go false e = let z = zero_is binary64 p f h e in zero_alike z.0 ∙ ap (λ (x : Float). ln_of (series (neg x))) (sym z.1)

-- minus infinity at either zero, and outside of the domain, at a NaN and above 0
pub ln1m_bottom : (p : Float) → lt p nought ≡ false → lt p (neg border) ≡ false → ln1m_of p ≡ minus_infinity
unfolding ln1m_of horner ln_of mul div sub add sum neg round size of_int
ln1m_bottom p h k =
    ap (λ (t : Bool). cond t (ln_of (one ⊖ exp_of p)) (ln_of (series (depth p)))) k
    ∙ ap (λ (t : Bool). ln_of (series (cond t (neg p) nought))) h

pub ln1m_zero : (s : Bool) → ln1m_of (fin s 0 (pos 0)) ≡ minus_infinity
ln1m_zero true = ln1m_bottom (fin true 0 (pos 0)) (unfold lt in refl) (unfold lt neg border round size in refl)
ln1m_zero false = ln1m_bottom nought (unfold lt in refl) (unfold lt neg border round size in refl)
