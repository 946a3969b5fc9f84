-- Bits whose sign is clear and whose exponent's field is not all ones stand for digits_of·2^place_of units of 2^-1074; and 2^-k, put together from
-- its field, by which a whole number is scaled.
use mathlib.Core.Path.{◌≡◌, sym, ap, ◌∙◌, subst}
use mathlib.Core.Bool.{Bool, true, false, not, cond}
use Prim.Native.Nat.{ℕ, zero, suc, ◌+◌, ◌-◌, ◌*◌, ◌/◌, ◌%◌, ◌^◌, ◌≤◌, ◌<◌}
use native.Mathlib.Nat.{mod-eq_of_lt, mod-lt, mul-one, one-mul, mul_right_comm, mul-div_cancel, mul-mod_left, eq_of_mul-eq-mul_right}
use native.Mathlib.Omega.{arith}
use borrow.Author.Tests.{ne_eqb, lt-leb}
use lib.Dec.{T, eqb, eqb-suc-zero}
use lib.Pow.{pow-add, pow_pos}
use lib.IntN.{pos}
use lib.Ieee.{Float, nan, inf, fin, binary64, up, down, odd, of_fields, of_bits, is_nan, nan_bits, round, of_int, mul}
use lib.Ieee.Exact.{HasValue, odd_sign}
use lib.Ieee.Fits.{down_pos}
use lib.Ieee.Bits.{nan_bits_is}
use lib.Ieee.Back.{round_whole}
use Rattle.floats.proofs.Fraction.{mul_value}
use Rattle.kernels.specs.Binary.{units_of, dyadic}
use Rattle.kernels.specs.inner.Pattern.{field_of, digits_of, place_of}

-- ---- what the fields stand for
fields_value : (x t : ℕ) → x < 2047 → HasValue (of_fields binary64 false x t) false (cond (eqb x 0) t (2 ^ 52 + t) * 2 ^ (x - 1)) (2 ^ 1074)
unfolding of_fields
fields_value zero t h = odd_sign 53 false t 0 1074
fields_value (suc j) t h =
    let less : suc j - 1 ≡ j = omega arith in
    subst (λ (z : Bool). HasValue (cond z (cond (eqb t 0) (inf false) nan) (odd 53 false (2 ^ 52 + t) j 1074)) false
    (cond (eqb (suc j) 0) t (2 ^ 52 + t) * 2 ^ (suc j - 1)) (2 ^ 1074)) (sym (ne_eqb (suc j) 2047 (λ (e : suc j ≡ 2047). omega arith)))
    (subst (λ (z : Bool). HasValue (odd 53 false (2 ^ 52 + t) j 1074) false (cond z t (2 ^ 52 + t) * 2 ^ (suc j - 1)) (2 ^ 1074)) (sym (eqb-suc-zero j))
    (subst (λ (z : ℕ). HasValue (odd 53 false (2 ^ 52 + t) j 1074) false ((2 ^ 52 + t) * 2 ^ z) (2 ^ 1074)) (sym less)
    (odd_sign 53 false (2 ^ 52 + t) j 1074)))

split : (b : ℕ) → b < 2 ^ 63 → of_bits binary64 b ≡ of_fields binary64 false (field_of b) (b % 2 ^ 52)
unfolding of_bits
split b h =
    ap (λ (z : Bool). of_fields binary64 z (b % 2 ^ 63 / 2 ^ 52) (b % 2 ^ 52)) (lt-leb (2 ^ 63) b h)
    ∙ ap (λ (z : ℕ). of_fields binary64 false (z / 2 ^ 52) (b % 2 ^ 52)) (mod-eq_of_lt h)

pub pattern_value : (b : ℕ) → field_of b < 2047 → HasValue (of_bits binary64 b) false (digits_of b * 2 ^ place_of b) (2 ^ 1074)
pattern_value b h =
    subst (λ (x : Float). HasValue x false (digits_of b * 2 ^ place_of b) (2 ^ 1074)) (sym (split b (omega arith))) (fields_value (field_of b) (b % 2 ^ 52) h)

units_of_value : (x : Float) (s : Bool) (a : ℕ) → HasValue x s a (2 ^ 1074) → units_of x ≡ a
units_of_value nan s a h = absurd h
units_of_value (inf t) s a h = absurd h
units_of_value (fin t m e) s a h = ap (λ (z : ℕ). z / down e) h.1 ∙ mul-div_cancel a (down_pos e)

pub pattern_units : (b : ℕ) → field_of b < 2047 → units_of (of_bits binary64 b) ≡ digits_of b * 2 ^ place_of b
pattern_units b h = units_of_value (of_bits binary64 b) false (digits_of b * 2 ^ place_of b) (pattern_value b h)

pub digits_lt : (b : ℕ) → digits_of b < 2 ^ 53
digits_lt b = go (eqb (field_of b) 0) (b % 2 ^ 52) (mod-lt b (pow_pos 52))
  where
    go : (z : Bool) (t : ℕ) → t < 2 ^ 52 → cond z t (2 ^ 52 + t) < 2 ^ 53
    go true t h = omega arith
    go false t h = omega arith

value_number : (x : Float) (s : Bool) (a c : ℕ) → HasValue x s a c → T (not (is_nan x))
unfolding is_nan
value_number nan s a c h = absurd h
value_number (inf t) s a c h = tt
value_number (fin t m e) s a c h = tt

pub pattern_number : (b : ℕ) → field_of b < 2047 → T (not (nan_bits binary64 b))
pattern_number b h =
    subst (λ (z : Bool). T (not z)) (sym (nan_bits_is binary64 b))
    (value_number (of_bits binary64 b) false (digits_of b * 2 ^ place_of b) (2 ^ 1074) (pattern_value b h))

-- from one fraction to another of the same size
rescale : (x : Float) (s : Bool) (w l n d : ℕ) → 0 < l → n * l ≡ w * d → HasValue x s w l → HasValue x s n d
rescale nan s w l n d p h v = v
rescale (inf t) s w l n d p h v = v
rescale (fin t m e) s w l n d p h v = (
  v.0,
  eq_of_mul-eq-mul_right l p (m * up e * d) (n * down e)
      (mul_right_comm (m * up e) d l
      ∙ ap (λ (x : ℕ). x * d) v.1
      ∙ mul_right_comm w (down e) d
      ∙ ap (λ (x : ℕ). x * down e) (sym h)
      ∙ mul_right_comm n l (down e)),
)

-- ---- 2^-k, put together
module _ (k : ℕ) (h : k ≤ 1000) where
  abbrev pub assembled : ℕ
  assembled = (1023 - k) * 2 ^ 52 % 2 ^ 64

  is : assembled ≡ (1023 - k) * 2 ^ 52
  is = mod-eq_of_lt (go k)
    where
      go : (n : ℕ) → (1023 - n) * 4503599627370496 < 18446744073709551616
      go n = omega arith

  field : field_of assembled ≡ 1023 - k
  field = ap (λ (z : ℕ). z / 2 ^ 52) is ∙ mul-div_cancel (1023 - k) (pow_pos 52)

  empty : assembled % 2 ^ 52 ≡ 0
  empty = ap (λ (z : ℕ). z % 2 ^ 52) is ∙ mul-mod_left (1023 - k) (2 ^ 52)

  pub assembled_lt : field_of assembled < 2047
  assembled_lt = omega (arith, field)

  full : 52 + (1023 - k - 1) + k ≡ 1074
  full = omega arith

  digits_is : digits_of assembled ≡ 2 ^ 52
  digits_is =
      ap (λ (z : ℕ). cond (eqb z 0) (assembled % 2 ^ 52) (2 ^ 52 + assembled % 2 ^ 52)) field
      ∙ ap (λ (z : Bool). cond z (assembled % 2 ^ 52) (2 ^ 52 + assembled % 2 ^ 52)) (ne_eqb (1023 - k) 0 (λ (e : 1023 - k ≡ 0). omega arith))
      ∙ ap (λ (z : ℕ). 2 ^ 52 + z) empty

  assembled_value : HasValue (of_bits binary64 assembled) false 1 (2 ^ k)
  assembled_value =
      rescale (of_bits binary64 assembled) false (digits_of assembled * 2 ^ place_of assembled) (2 ^ 1074) 1 (2 ^ k) (pow_pos 1074)
      (one-mul (2 ^ 1074)
      ∙ ap (λ (z : ℕ). 2 ^ z) (sym full)
      ∙ pow-add 2 (52 + (1023 - k - 1)) k
      ∙ ap (λ (z : ℕ). z * 2 ^ k) (pow-add 2 52 (1023 - k - 1))
      ∙ ap (λ (z : ℕ). z * 2 ^ (1023 - k - 1) * 2 ^ k) (sym digits_is)
      ∙ ap (λ (z : ℕ). digits_of assembled * 2 ^ (z - 1) * 2 ^ k) (sym field))
      (pattern_value assembled assembled_lt)

  pub scaled_is : (a : ℕ) → a ≤ 2 ^ 53 → mul binary64 (of_int binary64 (pos a)) (of_bits binary64 assembled) ≡ dyadic (pos a) k
  unfolding of_int
  scaled_is a b =
      mul_value binary64 (of_int binary64 (pos a)) (of_bits binary64 assembled) false false a 1 1 (2 ^ k) (omega arith) (pow_pos k)
      (round_whole binary64 false a b) assembled_value
      ∙ ap (λ (z : ℕ). round binary64 false z (1 * 2 ^ k)) (mul-one a)
      ∙ ap (λ (z : ℕ). round binary64 false a z) (one-mul (2 ^ k))
