-- What has clear bits, and so passes for +0.0, is from 0 to 1: a float that no f64 holds may have them too.
use Prim.Native.Nat.{ℕ, ◌+◌, ◌-◌, ◌*◌, ◌/◌, ◌^◌, ◌≤◌, ◌<◌}
use native.Mathlib.Nat.{le_trans, one-mul, div-lt_iff_lt-mul, eq-zero-or-pos, mul-pos, le-mul_of_pos_right}
use native.Mathlib.Omega.{arith}
use mathlib.Core.Path.{◌≡◌}
use mathlib.Core.Logic.{⊎_elim}
use mathlib.Core.Bool.{true, false, not}
use lib.Dec.{T, eqb, eqb→eq}
use lib.IntN.{ℤ, pos}
use lib.Pow.{pow_pos}
use lib.Ieee.{Float, Format, nan, inf, fin, binary64, le, is_nan, to_bits, size, up, down, prec, low, hid, top}
use lib.Ieee.Fits.{and_r, down_pos}
use Rattle.floats.specs.Float.{nought, one, is_plus_zero}
use Rattle.floats.proofs.Fraction.{cross→le, nonneg_ge}

-- of n steps, k of whose digits are dropped
clear_steps : (n k h : ℕ) → 0 < h → 0 + k * h + n / 2 ^ k ≡ 0 → n ≡ 0
clear_steps n k h p e = ⊎_elim none some (eq-zero-or-pos k)
  where
    none : k ≡ 0 → n ≡ 0
    none z =
        let few : n / 2 ^ k < 1 = omega arith in
        let below : n < 1 * 2 ^ k = (div-lt_iff_lt-mul {k = 2 ^ k} {x = n} {y = 1} (pow_pos k)).0 few in
        let lone : n < 1 * 1 = rw z at below in
        omega arith

    some : 0 < k → n ≡ 0
    some z = let l = mul-pos z p in omega arith

-- a magnitude of no step is below 1
clear_small : (f : Format) (m : ℕ) (e : ℤ) → to_bits f (fin false m e) ≡ 0 → m * up e ≤ down e
unfolding to_bits
clear_small f m e z =
    let n = m * up e * 2 ^ low f / down e in
    let none : n ≡ 0 = clear_steps n (size n - prec f) (hid f) (pow_pos (prec f - 1)) z in
    let few : n < 1 = omega arith in
    let below : m * up e * 2 ^ low f < 1 * down e = (div-lt_iff_lt-mul {k = down e} {x = m * up e * 2 ^ low f} {y = 1} (down_pos e)).0 few in
    le_trans (le-mul_of_pos_right (m * up e) (pow_pos (low f))) (omega (arith, one-mul (down e)))

-- a sign that is set is a bit
signed : (f : Format) (m : ℕ) (e : ℤ) → to_bits f (fin true m e) ≡ 0 → ⊥
unfolding to_bits
signed f m e z = some (top f) _ _ (mul-pos (pow_pos (prec f - 1)) (omega arith)) z
  where
    some : (a b c : ℕ) → 0 < a → a + b + c ≡ 0 → ⊥
    some a b c p q = omega arith

-- ---- what passes for +0.0
clear : (x : Float) → T (is_plus_zero x) → to_bits binary64 x ≡ 0
unfolding is_plus_zero
clear x h = eqb→eq (to_bits binary64 x) 0 (and_r (not (is_nan x)) (eqb (to_bits binary64 x) 0) h)

pub plus_zero_bounds : (x : Float) → T (is_plus_zero x) → T (le nought x) × T (le x one)
plus_zero_bounds nan h = absurd (unfold is_plus_zero is_nan in h)
plus_zero_bounds (inf true) h = absurd (unfold is_plus_zero is_nan to_bits in h)
plus_zero_bounds (inf false) h = absurd (unfold is_plus_zero is_nan to_bits in h)
plus_zero_bounds (fin true m e) h = absurd (signed binary64 m e (clear (fin true m e) h))
plus_zero_bounds (fin false m e) h =
    let small = clear_small binary64 m e (clear (fin false m e) h) in
    (nonneg_ge (fin false m e) tt, cross→le m e 1 (pos 0) (omega (arith, small, one-mul (down e))))
