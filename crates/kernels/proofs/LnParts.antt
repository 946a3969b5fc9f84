-- ln's e·2^30 + F, from the parts that the code works out; and what ln's tests tell of x.
use mathlib.Core.Path.{◌≡◌, refl, sym, ap, ◌∙◌}
use mathlib.Core.Bool.{Bool, true, false, not, cond, true≢false, false≢true}
use mathlib.Core.Logic.{inl, inr}
use Prim.Native.Nat.{ℕ, zero, suc, ◌+◌, ◌-◌, ◌*◌, ◌/◌, ◌%◌, ◌^◌, ◌≤◌, ◌<◌}
use native.Mathlib.Nat.{zero-mul, mul-one, div-lt_iff_lt-mul, mul-lt-mul_of_pos_right, mul-pos, lt_of_lt_of_le, le_of_eq, mul_right_comm, eq-zero-or-pos}
use native.Mathlib.Omega.{arith}
use borrow.Author.Tests.{eqb-true, ltb-true, ltb-false}
use lib.IntN.{ℤ, pos, negsuc, ◌-ℤ◌}
use lib.Dec.{T, eqb, leb→le, ltb→lt}
use lib.Pow.{pow_pos}
use lib.Ieee.{Float, nan, inf, fin, binary64, up, down, size, of_bits, to_bits, fits, is_nan, lt, eq, mul, of_int, in_float, round}
use lib.Ieee.Fits.{down_pos, up_pos, kept-lt}
use lib.Ieee.Digits.{size-le}
use lib.Ieee.Bits.{of_bits-to_bits}
use lib.Ieee.Back.{round_whole}
use Rattle.floats.specs.Float.{nought, minus_infinity}
use Rattle.floats.proofs.Fraction.{mul_value}
use Rattle.floats.proofs.Round.{fit_of}
use Rattle.kernels.specs.Binary.{units_of, dyadic}
use Rattle.kernels.specs.inner.Pattern.{field_of, digits_of, place_of}
use Rattle.kernels.specs.Ln.{log_bits, joined, mantissa, ln_fixed, ln2, ln_from, ln_of}
use Rattle.kernels.proofs.Pattern.{pattern_units, digits_lt}
use Rattle.kernels.proofs.Size.{size_shifted, mantissa_is}

-- ---- the literal of the source
pub ln2_is : ln2 ≡ fin false 6243314768165359 (negsuc 52)
unfolding ln2 round size
ln2_is = refl

pub ln2_bits : of_bits binary64 0x3fe6_2e42_fefa_39ef ≡ ln2
unfolding of_bits
ln2_bits = sym ln2_is

-- ---- the parts
pub digits_pos : (b : ℕ) → 0 < b → 0 < digits_of b
digits_pos b h = go (eqb (field_of b) 0) refl
  where
    go : (z : Bool) → eqb (field_of b) 0 ≡ z → 0 < cond z (b % 2 ^ 52) (2 ^ 52 + b % 2 ^ 52)
    go true e = let p : b / 4503599627370496 ≡ 0 = eqb-true (b / 2 ^ 52) 0 e in omega arith
    go false e = omega arith

pub digits_size : (b : ℕ) → size (digits_of b) ≤ 53
digits_size b = size-le (digits_of b) 53 (digits_lt b)

module _ (b : ℕ) (h : 0 < b) (k : field_of b < 2047) where
  whole : joined (pos (place_of b + size (digits_of b)) -ℤ pos 1075)
      (log_bits 30 (digits_of b * 2 ^ (64 - size (digits_of b)) % 2 ^ 64 / 2 ^ 32) 0) ≡ ln_fixed (units_of (of_bits binary64 b))
  whole =
      let Q = digits_of b in
      let P = place_of b in
      ap (λ (m : ℕ). joined (pos (P + size Q) -ℤ pos 1075) (log_bits 30 m 0)) (mantissa_is Q P (digits_pos b h) (omega (arith, digits_size b)))
      ∙ ap (λ (s : ℕ). joined (pos s -ℤ pos 1075) (log_bits 30 (mantissa (Q * 2 ^ P)) 0)) (sym (size_shifted Q P (digits_pos b h)))
      ∙ ap ln_fixed (sym (pattern_units b k))

  pub parts : (q s p f : ℕ) → q ≡ digits_of b → s ≡ size q → p ≡ place_of b → f ≡ log_bits 30 (q * 2 ^ (64 - s) % 2 ^ 64 / 2 ^ 32) 0
      → joined (pos (p + s) -ℤ pos 1075) f ≡ ln_fixed (units_of (of_bits binary64 b))
  parts q s p f hq hs hp hf =
      ap (λ (x : ℕ). joined (pos (p + s) -ℤ pos 1075) x) hf
      ∙ ap (λ (x : ℕ). joined (pos (p + x) -ℤ pos 1075) (log_bits 30 (q * 2 ^ (64 - x) % 2 ^ 64 / 2 ^ 32) 0)) hs
      ∙ ap (λ (x : ℕ). joined (pos (p + size x) -ℤ pos 1075) (log_bits 30 (x * 2 ^ (64 - size x) % 2 ^ 64 / 2 ^ 32) 0)) hq
      ∙ ap (λ (x : ℕ). joined (pos (x + size (digits_of b)) -ℤ pos 1075) (log_bits 30 (digits_of b * 2 ^ (64 - size (digits_of b)) % 2 ^ 64 / 2 ^ 32) 0)) hp
      ∙ whole

-- ---- what the tests tell of x
pub above_number : (x : Float) → lt nought x ≡ true → T (not (is_nan x))
unfolding lt is_nan
above_number nan h = absurd (false≢true h)
above_number (inf s) h = tt
above_number (fin s m e) h = tt

pub not_above : (u d : ℕ) → 0 * d < 0 * u * 1 → ⊥
not_above u d h = omega (arith, zero-mul d, zero-mul u)

above : (m u d : ℕ) → 0 < u → suc m * u * 1 ≤ 0 * d → ⊥
above m u d h k =
    let p : 0 < suc m * u = mul-pos (omega arith) h in
    omega (arith, zero-mul d, mul-one (suc m * u))

-- x is above 0 and finite
pub above_ln : (x : Float) → lt nought x ≡ true → (x ≡ inf false → ⊥) → ln_of x ≡ ln_from (units_of x)
unfolding lt ln_of
above_ln nan h i = absurd (false≢true h)
above_ln (inf true) h i = absurd (false≢true h)
above_ln (inf false) h i = absurd (i refl)
above_ln (fin true m e) h i = absurd (false≢true h)
above_ln (fin false zero e) h i = absurd (not_above (up e) (down e) (ltb-true (0 * down e) (0 * up e * 1) h))
above_ln (fin false (suc m) e) h i = refl

-- x is a zero, below 0, or a NaN
pub other_ln : (x : Float) → lt nought x ≡ false → minus_infinity ≡ ln_of x
unfolding lt ln_of
other_ln nan h = refl
other_ln (inf true) h = refl
other_ln (inf false) h = absurd (true≢false h)
other_ln (fin true m e) h = refl
other_ln (fin false zero e) h = refl
other_ln (fin false (suc m) e) h = absurd (above m (up e) (down e) (up_pos e) (ltb-false (0 * down e) (suc m * up e * 1) h))

-- x is plus infinity, by the code's test
pub infinite_ln : (x : Float) → eq x (inf false) ≡ true → x ≡ ln_of x
unfolding eq ln_of
infinite_ln nan h = absurd (false≢true h)
infinite_ln (inf true) h = absurd (false≢true h)
infinite_ln (inf false) h = refl
infinite_ln (fin s m e) h = absurd (false≢true h)

pub not_infinite : (x : Float) → eq x (inf false) ≡ false → x ≡ inf false → ⊥
unfolding eq
not_infinite x h e = true≢false (ap (λ (y : Float). eq y (inf false)) (sym e) ∙ h)

-- ---- x's bits
pattern_under : (n : ℕ) → n < 2 ^ 2098 → (0 + (size n - 53) * 2 ^ 52 + n / 2 ^ (size n - 53)) / 2 ^ 52 < 2047
pattern_under n h = go (size n) (n / 2 ^ (size n - 53)) (size-le n 2098 h) (kept-lt 53 n)
  where
    go : (z q : ℕ) → z ≤ 2098 → q < 9007199254740992 → (0 + (z - 53) * 4503599627370496 + q) / 4503599627370496 < 2047
    go z q a b = omega arith

units_under : (n d : ℕ) → 0 < d → n < 2 ^ 1024 * d → n * 2 ^ 1074 / d < 2 ^ 2098
units_under n d D h =
    (div-lt_iff_lt-mul D).1
    (lt_of_lt_of_le (mul-lt-mul_of_pos_right h (pow_pos 1074)) (le_of_eq (mul_right_comm (2 ^ 1024) d (2 ^ 1074))))

-- what an f64 above 0 is in units
pub units_lt : (m : ℕ) (e : ℤ) → T (fits binary64 (fin false (suc m) e)) → units_of (fin false (suc m) e) < 2 ^ 2098
units_lt m e f = units_under (suc m * up e) (down e) (down_pos e) (fit_of binary64 false m e f).high

pub pattern_in : (x : Float) → T (fits binary64 x) → lt nought x ≡ true → (x ≡ inf false → ⊥) → field_of (to_bits binary64 x) < 2047
unfolding lt to_bits
pattern_in nan f h i = absurd (false≢true h)
pattern_in (inf true) f h i = absurd (false≢true h)
pattern_in (inf false) f h i = absurd (i refl)
pattern_in (fin true m e) f h i = absurd (false≢true h)
pattern_in (fin false zero e) f h i = absurd (not_above (up e) (down e) (ltb-true (0 * down e) (0 * up e * 1) h))
pattern_in (fin false (suc m) e) f h i = pattern_under (units_of (fin false (suc m) e)) (units_lt m e f)

nought_not_above : lt nought nought ≡ false
unfolding lt
nought_not_above = refl

pub pattern_pos : (x : Float) → T (fits binary64 x) → lt nought x ≡ true → 0 < to_bits binary64 x
unfolding of_bits
pattern_pos x f k =
    elim (eq-zero-or-pos (to_bits binary64 x)) [
      | inl z ↦ let e = sym (ap (of_bits binary64) z) ∙ of_bits-to_bits binary64 x f in
          absurd (false≢true (sym nought_not_above ∙ ap (lt nought) e ∙ k))
      | inr p ↦ p
    ]

-- ---- the answer: a whole number that an f64 holds, times 2^-30
pub signed_scaled : (z : ℤ) → T (in_float binary64 z) → mul binary64 (of_int binary64 z) (fin false 1 (negsuc 29)) ≡ dyadic z 30
unfolding of_int in_float
signed_scaled (pos n) h =
    mul_value binary64 (round binary64 false n 1) (fin false 1 (negsuc 29)) false false n 1 1 (2 ^ 30) (omega arith) (pow_pos 30)
    (round_whole binary64 false n (leb→le n (2 ^ 53) h)) (refl, refl)
    ∙ ap (λ (a : ℕ). round binary64 false a (2 ^ 30)) (mul-one n)
signed_scaled (negsuc n) h =
    mul_value binary64 (round binary64 true (suc n) 1) (fin false 1 (negsuc 29)) true false (suc n) 1 1 (2 ^ 30) (omega arith)
    (pow_pos 30) (round_whole binary64 true (suc n) (ltb→lt n (2 ^ 53) h)) (refl, refl)
    ∙ ap (λ (a : ℕ). round binary64 true a (2 ^ 30)) (mul-one (suc n))
