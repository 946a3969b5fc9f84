-- floor(y·2^30) by y's bits: the digits shifted down, or 0 where they would all go.
use mathlib.Core.Path.{◌≡◌, sym, ap, ◌∙◌}
use Prim.Native.Nat.{ℕ, ◌+◌, ◌-◌, ◌*◌, ◌/◌, ◌^◌, ◌≤◌, ◌<◌}
use mathlib.Core.Bool.{Bool}
use native.Mathlib.Nat.{mul_assoc, mul_right_comm, mul-div-mul_right, sub-add_cancel, div-eq_of_lt, lt_of_lt_of_le}
use native.Mathlib.Omega.{arith}
use lib.Pow.{pow-add, pow_pos, pow_mono, shl_lt, shr_lt}
use lib.Ieee.{Float, nan, inf, fin, binary64, up, down, of_bits}
use lib.Ieee.Fits.{down_pos}
use lib.Ieee.Exact.{HasValue}
use lib.Ieee.Nearest.{div_same}
use Rattle.kernels.specs.inner.Pattern.{field_of, digits_of, place_of}
use Rattle.kernels.specs.Exp.{floor30}
use Rattle.kernels.proofs.Pattern.{pattern_value, digits_lt}

floor_of_value : (x : Float) (s : Bool) (a c : ℕ) → 0 < c → HasValue x s a c → floor30 x ≡ a * 2 ^ 30 / c
floor_of_value nan s a c C h = absurd h
floor_of_value (inf t) s a c C h = absurd h
floor_of_value (fin t m e) s a c C h =
    div_same (m * up e * 2 ^ 30) (down e) (a * 2 ^ 30) c (down_pos e) C
    (mul_right_comm (m * up e) (2 ^ 30) c ∙ ap (λ (z : ℕ). z * 2 ^ 30) h.1 ∙ mul_right_comm a (down e) (2 ^ 30))

-- a shift up and then further down is one shift down
shift_down : (a i j : ℕ) → i ≤ j → a * 2 ^ i / 2 ^ j ≡ a / 2 ^ (j - i)
shift_down a i j h =
    ap (λ (z : ℕ). a * 2 ^ i / z) (ap (λ (z : ℕ). 2 ^ z) (sym (sub-add_cancel h)) ∙ pow-add 2 (j - i) i) ∙ mul-div-mul_right a (2 ^ (j - i)) (pow_pos i)

module _ (b : ℕ) (h : field_of b ≤ 1028) where
  by_digits : floor30 (of_bits binary64 b) ≡ digits_of b * 2 ^ (place_of b + 30) / 2 ^ 1074
  by_digits =
      floor_of_value (of_bits binary64 b) _ (digits_of b * 2 ^ place_of b) (2 ^ 1074) (pow_pos 1074) (pattern_value b (omega arith))
      ∙ ap (λ (z : ℕ). z / 2 ^ 1074) (mul_assoc (digits_of b) (2 ^ place_of b) (2 ^ 30) ∙ ap (λ (z : ℕ). digits_of b * z) (sym (pow-add 2 (place_of b) 30)))

  pub floor_zero : field_of b < 993 → 0 ≡ floor30 (of_bits binary64 b)
  floor_zero k =
      let r : 53 + (place_of b + 30) ≤ 1074 = omega arith in
      sym (by_digits ∙ div-eq_of_lt (lt_of_lt_of_le (shl_lt 53 (place_of b + 30) (digits_lt b)) (pow_mono r)))

  pub floor_shifted : 993 ≤ field_of b → digits_of b / 2 ^ (1045 - field_of b) ≡ floor30 (of_bits binary64 b)
  floor_shifted k =
      let r : 1074 - (place_of b + 30) ≡ 1045 - field_of b = omega arith in
      sym (by_digits ∙ shift_down (digits_of b) (place_of b + 30) 1074 (omega arith) ∙ ap (λ (z : ℕ). digits_of b / 2 ^ z) r)

  pub floor_lt : digits_of b / 2 ^ (1045 - field_of b) < 2 ^ 36
  floor_lt =
      let r : 53 ≤ 36 + (1045 - field_of b) = omega arith in
      shr_lt 36 (1045 - field_of b) (lt_of_lt_of_le (digits_lt b) (pow_mono r))
