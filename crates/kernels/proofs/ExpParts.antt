-- What exp's tests tell of y: its sign is clear, and below 62 its bits are small enough for the shift. And its literals.
use mathlib.Core.Path.{◌≡◌, refl, sym, subst}
use mathlib.Core.Bool.{Bool, true, false, cond, true≢false}
use Prim.Native.Nat.{ℕ, ◌+◌, ◌-◌, ◌*◌, ◌/◌, ◌^◌, ◌≤◌, ◌<◌}
use native.Mathlib.Nat.{mul-one, zero-mul, div-lt_iff_lt-mul, lt_of_le_of_lt, mul_right_comm, mul-le-mul_right, mul-lt-mul_of_pos_right, le_of_eq, le_trans}
use native.Mathlib.Omega.{arith}
use borrow.Author.Tests.{ltb-false, le-ltb}
use lib.IntN.{ℤ, negsuc}
use lib.Dec.{T, ltb, lit<}
use lib.Ieee.{Float, nan, inf, fin, binary64, up, down, of_bits, to_bits, lt, eq, le, neg, mul, round, size}
use lib.Ieee.Fits.{down_pos, kept-lt}
use lib.Ieee.Digits.{size-le}
use Rattle.floats.specs.Float.{nought}
use Rattle.floats.specs.inner.Sign.{nonneg}
use Rattle.std.proofs.lemmas.Bool.{or_parts}
use Rattle.floats.proofs.Fraction.{times_sign}
use Rattle.kernels.specs.Exp.{depth, log2e, exp_arg, exp_end}

-- ---- the literals of the source
pub log2e_is : log2e ≡ fin false 3248660424278399 (negsuc 50)
unfolding log2e round size
log2e_is = refl

pub log2e_bits : of_bits binary64 0x3ff7_1547_652b_82fe ≡ log2e
unfolding of_bits
log2e_bits = sym log2e_is

-- ---- y has a clear sign
pub depth_nonneg : (d : Float) → T (nonneg (depth d))
unfolding lt neg
depth_nonneg nan = tt
depth_nonneg (inf true) = tt
depth_nonneg (inf false) = tt
depth_nonneg (fin true m e) = go (ltb 0 (m * up e * 1 + 0 * down e))
  where
    go : (t : Bool) → T (nonneg (cond t (fin false m e) nought))
    go true = tt
    go false = tt
depth_nonneg (fin false m e) =
    subst (λ (t : Bool). T (nonneg (cond t (fin true m e) nought))) (sym (le-ltb (m * up e * 1) (0 * down e) (none (down e) (m * up e * 1)))) tt
  where
    none : (d n : ℕ) → 0 * d ≤ n
    none d n = omega (arith, zero-mul d)

pub arg_nonneg : (d : Float) → T (nonneg (exp_arg d))
arg_nonneg d =
    subst (λ (c : Float). T (nonneg (mul binary64 (depth d) c))) (sym log2e_is)
    (times_sign binary64 false (depth d) 3248660424278398 (negsuc 50) (depth_nonneg d))

-- ---- y below 62
pub under_end : (m : ℕ) (e : ℤ) → le exp_end (fin false m e) ≡ false → m * up e ≤ 62 * down e
unfolding le lt
under_end m e h =
    let below = (or_parts (ltb (62 * down e) (m * up e * 1)) (eq exp_end (fin false m e)) h).0 in
    let k : m * up e * 1 ≤ 62 * down e = ltb-false (62 * down e) (m * up e * 1) below in
    omega (arith, mul-one (m * up e))

units_under : (n d : ℕ) → 0 < d → n ≤ 62 * d → n * 2 ^ 1074 / d < 2 ^ 1080
units_under n d D h =
    let a : n * 2 ^ 1074 ≤ 62 * d * 2 ^ 1074 = mul-le-mul_right (2 ^ 1074) h in
    let b : 62 * d * 2 ^ 1074 ≡ 62 * 2 ^ 1074 * d = mul_right_comm 62 d (2 ^ 1074) in
    (div-lt_iff_lt-mul D).1 (lt_of_le_of_lt (le_trans a (le_of_eq b)) (mul-lt-mul_of_pos_right (lit< tt) D))

pattern_small : (n : ℕ) → n < 2 ^ 1080 → (0 + (size n - 53) * 2 ^ 52 + n / 2 ^ (size n - 53)) / 2 ^ 52 ≤ 1028
pattern_small n h = go (size n) (n / 2 ^ (size n - 53)) (size-le n 1080 h) (kept-lt 53 n)
  where
    go : (z q : ℕ) → z ≤ 1080 → q < 9007199254740992 → (0 + (z - 53) * 4503599627370496 + q) / 4503599627370496 ≤ 1028
    go z q a b = omega arith

pub small_pattern : (y : Float) → T (nonneg y) → le exp_end y ≡ false → to_bits binary64 y / 2 ^ 52 ≤ 1028
unfolding le lt to_bits
small_pattern nan n h = absurd n
small_pattern (inf true) n h = absurd n
small_pattern (inf false) n h = absurd (true≢false h)
small_pattern (fin true m e) n h = absurd n
small_pattern (fin false m e) n h =
    pattern_small (m * up e * 2 ^ 1074 / down e) (units_under (m * up e) (down e) (down_pos e) (under_end m e h))
