-- Laws of exp: its value is from +0.0 to 1.0, whatever d; exp(0) = 1 at either zero, exp(-inf) = 0, and A·2^-(31+I) is exact.
-- There is no law that exp rises with d: `exp_not_monotone`, below, is a place where it falls.
use mathlib.Core.Path.{◌≡◌, refl, sym, ap, ◌∙◌, subst}
use mathlib.Core.Bool.{Bool, true, false, cond}
use Prim.Native.Nat.{ℕ, ◌+◌, ◌-◌, ◌*◌, ◌/◌, ◌%◌, ◌^◌, ◌≤◌, ◌<◌}
use native.Mathlib.Nat.{le_trans, le_of_eq, lt_of_le_of_lt, mul_assoc, mul_comm, mul-le-mul_right, div-le_of_le-mul}
use native.Mathlib.Omega.{arith}
use lib.Dec.{T, lit<}
use lib.IntN.{pos}
use lib.Pow.{pow_pos, pow_mono, pow-lt, pow-add}
use lib.Ieee.{Float, nan, inf, fin, up, down, binary64, round, size, le, lt, eq, neg, mul, of_bits}
use lib.Ieee.Exact.{HasValue, round_exact}
use Rattle.floats.specs.Float.{nought, one, minus_infinity}
use Rattle.floats.specs.inner.Sign.{nonneg, unit}
use Rattle.floats.proofs.Unit.{round_unit}
use Rattle.floats.proofs.Fraction.{unit_nonneg, unit_le_one}
use Rattle.kernels.specs.Roots.{constants}
use Rattle.kernels.specs.Exp.{steps, power, log2e, exp_arg, exp_end, floor30, exp_from, exp_of}
use Rattle.kernels.proofs.Steps.{power_le}
use Rattle.kernels.proofs.ExpParts.{arg_nonneg, under_end}

-- ---- from +0.0 to 1.0
from_unit : (Y : ℕ) → T (unit (exp_from Y))
unfolding exp_from
from_unit Y =
    let k : 31 ≤ 31 + Y / 2 ^ 30 = omega arith in
    round_unit (power (Y % 2 ^ 30)) (2 ^ (31 + Y / 2 ^ 30)) (pow_pos (31 + Y / 2 ^ 30)) (le_trans (power_le (Y % 2 ^ 30)) (pow_mono k))

pub exp_unit : (d : Float) → T (unit (exp_of d))
unfolding exp_of
exp_unit d = go (le exp_end (exp_arg d))
  where
    go : (t : Bool) → T (unit (cond t nought (exp_from (floor30 (exp_arg d)))))
    go true = tt
    go false = from_unit (floor30 (exp_arg d))

pub exp_nonneg : (d : Float) → T (nonneg (exp_of d))
exp_nonneg d = unit_nonneg (exp_of d) (exp_unit d)

pub exp_le_one : (d : Float) → T (le (exp_of d) one)
exp_le_one d = unit_le_one (exp_of d) (exp_unit d)

-- ---- the value A·2^-(31+I) is exact
from_exact : (Y : ℕ) → Y < 2 ^ 36 → HasValue (exp_from Y) false (power (Y % 2 ^ 30)) (2 ^ (31 + Y / 2 ^ 30))
unfolding exp_from
from_exact Y h =
    let A = power (Y % 2 ^ 30) in
    let k = 31 + Y / 2 ^ 30 in
    let l : A ≤ 2 ^ 31 = power_le (Y % 2 ^ 30) in
    let j : 1074 - k + k ≡ 1074 = omega arith in
    let m : 31 + (1074 - k) < 2098 = omega arith in
    round_exact binary64 false A (2 ^ k) A (1074 - k) (pow_pos k) (lt_of_le_of_lt l (lit< tt))
    (lt_of_le_of_lt (le_trans (mul-le-mul_right (2 ^ (1074 - k)) l) (le_of_eq (sym (pow-add 2 31 (1074 - k))))) (pow-lt m))
    (ap (λ (n : ℕ). A * 2 ^ n) (sym j) ∙ ap (λ (n : ℕ). A * n) (pow-add 2 (1074 - k) k) ∙ sym (mul_assoc A (2 ^ (1074 - k)) (2 ^ k)))

floor_under : (y : Float) → T (nonneg y) → le exp_end y ≡ false → floor30 y < 2 ^ 36
unfolding le lt
floor_under nan n h = absurd n
floor_under (inf s) n h = lit< tt
floor_under (fin true m e) n h = absurd n
floor_under (fin false m e) n h =
    let l = under_end m e h in
    let u = le_of_eq (mul_comm (62 * down e) (2 ^ 30) ∙ swap (2 ^ 30) (down e)) in
    let t : m * up e * 2 ^ 30 / down e ≤ 62 * 2 ^ 30 = div-le_of_le-mul (down e) (le_trans (mul-le-mul_right (2 ^ 30) l) u) in
    lt_of_le_of_lt t (lit< tt)
  where
    swap : (p d : ℕ) → p * (62 * d) ≡ d * (62 * p)
    swap p d = sym (mul_assoc p 62 d) ∙ mul_comm (p * 62) d ∙ ap (λ (n : ℕ). d * n) (mul_comm p 62)

-- where y is below 62, exp(d) is A·2^-(31+I) itself
pub exp_exact : (d : Float) → le exp_end (exp_arg d) ≡ false
    → HasValue (exp_of d) false (power (floor30 (exp_arg d) % 2 ^ 30)) (2 ^ (31 + floor30 (exp_arg d) / 2 ^ 30))
unfolding exp_of
exp_exact d h =
    let Y = floor30 (exp_arg d) in
    subst (λ (t : Bool). HasValue (cond t nought (exp_from Y)) false (power (Y % 2 ^ 30)) (2 ^ (31 + Y / 2 ^ 30))) (sym h)
    (from_exact Y (floor_under (exp_arg d) (arg_nonneg d) h))

-- ---- at the ends
-- 1 at either zero, and outside of the domain, at a NaN and above 0
pub exp_one : (d : Float) → lt d nought ≡ false → exp_of d ≡ one
unfolding exp_of exp_from constants steps log2e round size mul le lt eq
exp_one d h = ap (λ (t : Bool). let y = mul binary64 (cond t (neg d) nought) log2e in cond (le exp_end y) nought (exp_from (floor30 y))) h

pub exp_zero : (s : Bool) → exp_of (fin s 0 (pos 0)) ≡ one
exp_zero true = exp_one (fin true 0 (pos 0)) (unfold lt in refl)
exp_zero false = exp_one nought (unfold lt in refl)

pub exp_minus_infinity : exp_of minus_infinity ≡ nought
unfolding exp_of log2e round size mul le lt neg
exp_minus_infinity = refl

-- ---- exp is not monotone: of these two neighbours, the smaller argument has the larger value
pub exp_not_monotone : T (lt (of_bits binary64 0xbfd62e42fefa39ef) (of_bits binary64 0xbfd62e42fefa39ee))
    × T (lt (exp_of (of_bits binary64 0xbfd62e42fefa39ee)) (exp_of (of_bits binary64 0xbfd62e42fefa39ef)))
unfolding exp_of exp_from constants steps log2e round size mul le lt eq neg of_bits
exp_not_monotone = (tt, tt)
