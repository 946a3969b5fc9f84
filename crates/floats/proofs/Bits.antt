-- A value by the bits that it is read from: its sign is the top bit, and of those without it +0.0 alone is at most 0.
use Prim.Native.Nat.{ℕ, zero, suc, ◌+◌, ◌-◌, ◌*◌, ◌/◌, ◌%◌, ◌^◌}
use mathlib.Core.Path.{◌≡◌, refl, ap, ◌∙◌}
use mathlib.Core.Bool.{Bool, true, false, not, cond}
use native.Mathlib.Nat.{zero-mul, zero-div, mul-pos}
use native.Mathlib.Omega.{arith}
use lib.Dec.{T, eqb, leb}
use lib.IntN.{ℤ, pos}
use lib.Ieee.{Float, nan, inf, fin, Format, prec, low, up, down, hid, ones, top, odd, size, of_fields, of_bits, to_bits, is_nan, le, lt, eq}
use lib.Ieee.Fits.{up_pos}
use Rattle.floats.specs.Float.{nought}
use Rattle.floats.specs.inner.Sign.{has_sign, nonneg}
use Rattle.floats.proofs.Sign.{own, odd_sign}
use Rattle.floats.proofs.Fraction.{le→cross}

-- ---- the sign
fields_sign : (f : Format) (s : Bool) (x t : ℕ) → T (not (is_nan (of_fields f s x t))) → T (has_sign s (of_fields f s x t))
unfolding of_fields
fields_sign f s zero t h = odd_sign s (prec f) t 0 (low f)
fields_sign f s (suc x) t h = go (eqb (suc x) (ones f)) (eqb t 0) h
  where
    finite : Float
    finite = odd (prec f) s (hid f + t) x (low f)

    go : (a b : Bool) → T (not (is_nan (cond a (cond b (inf s) nan) finite))) → T (has_sign s (cond a (cond b (inf s) nan) finite))
    go true true h = own s
    go true false h = absurd (unfold is_nan in h)
    go false b h = odd_sign s (prec f) (hid f + t) x (low f)

pub bits_sign : (f : Format) (w : ℕ) → T (not (is_nan (of_bits f w))) → T (has_sign (leb (top f) w) (of_bits f w))
unfolding of_bits
bits_sign f w h = fields_sign f (leb (top f) w) (w % top f / hid f) (w % hid f) h

-- ---- what is not negative, and at most 0
no_step : (m : ℕ) (e : ℤ) → T (le (fin false m e) nought) → m ≡ 0
no_step zero e h = refl
no_step (suc m) e h =
    let l = le→cross (suc m) e 0 (pos 0) h in
    let p = mul-pos {m = suc m} {n = up e} (omega arith) (up_pos e) in
    absurd (omega (arith, l, p, zero-mul (down e)))

zero_bits : (f : Format) (e : ℤ) → to_bits f (fin false 0 e) ≡ 0
unfolding to_bits size
zero_bits f e = let n : 0 * up e * 2 ^ low f / down e ≡ 0 = rw (zero-mul, zero-mul, zero-div) in rw n (clear (prec f) (hid f))
  where
    clear : (p h : ℕ) → 0 + (0 - p) * h + 0 / 2 ^ (0 - p) ≡ 0
    clear p h = let z : 0 - p ≡ 0 = omega arith in rw (z, zero-mul)

pub low_clear : (f : Format) (x : Float) → T (nonneg x) → T (le x nought) → to_bits f x ≡ 0
low_clear f nan s h = absurd s
low_clear f (inf true) s h = absurd s
low_clear f (inf false) s h = absurd (unfold le lt eq in h)
low_clear f (fin true m e) s h = absurd s
low_clear f (fin false m e) s h = ap (λ (n : ℕ). to_bits f (fin false n e)) (no_step m e h) ∙ zero_bits f e

-- ---- what is at most 0 is not NaN
pub low_number : (x : Float) → T (le x nought) → T (not (is_nan x))
low_number nan h = absurd (unfold le lt eq in h)
low_number (inf s) h = unfold is_nan in tt
low_number (fin s m e) h = unfold is_nan in tt
