-- exp(d) for d at most 0 (RULES 4.1). Outside of its domain, at a NaN and above 0, it is as at 0.
use Rattle.std.specs.Prelude.{ℕ, ◌+◌, ◌*◌, ◌/◌, ◌%◌, ◌^◌, false, cond, List, [], ◌∷◌, eqb, length, pos, Float}
use Rattle.std.specs.Float.{nan, inf, fin, binary64}
use Rattle.std.specs.Float.Ieee.{up, down, mul, neg, lt, le}
use Rattle.floats.specs.Float.{nought}
use Rattle.kernels.specs.Binary.{dyadic, decimal}
use Rattle.kernels.specs.Roots.{constants}

-- how far d is below 0, so |d| where d is at most 0; 0 where it is not below
abbrev pub depth : Float → Float
depth d = cond (lt d nought) (neg d) nought

unfoldable pub log2e : Float
log2e = decimal 14426950408889634 16

-- RULES 4.1, step 1: y is |d| times 1.4426950408889634, in one product
abbrev pub exp_arg : Float → Float
exp_arg d = mul binary64 (depth d) log2e

-- RULES 4.1, step 2: Y is y·2^30, cut to a whole number
abbrev pub floor30 : Float → ℕ
floor30 nan = 0
floor30 (inf s) = 0
floor30 (fin s m e) = m * up e * 2 ^ 30 / down e

-- RULES 4.1, step 3, for one constant and its bit of G: where the bit is set, A becomes A·c / 2^31, cut
abbrev pub step : ℕ → ℕ → ℕ → ℕ
step c bit a = cond (eqb bit 1) (a * c / 2 ^ 31) a

-- a step for each constant in turn, the last one with G's lowest bit: of thirty, the i-th has the bit that is worth 2^(30-i)
unfoldable pub steps : List ℕ → ℕ → ℕ → ℕ
steps [] g a = a
steps (c ∷ cs) g a = steps cs g (step c (g / 2 ^ length cs % 2) a)

-- A from G, starting at 2^31
abbrev pub power : ℕ → ℕ
power g = steps constants g (2 ^ 31)

-- RULES 4.1, step 4: A·2^-(31+I), exactly. I and G are the quotient and the remainder of Y by 2^30
unfoldable pub exp_from : ℕ → Float
exp_from Y = dyadic (pos (power (Y % 2 ^ 30))) (31 + Y / 2 ^ 30)

-- 62
abbrev pub exp_end : Float
exp_end = fin false 31 (pos 1)

-- where y is 62 or more it is 0
unfoldable pub exp_of : Float → Float
exp_of d = let y = exp_arg d in cond (le exp_end y) nought (exp_from (floor30 y))
