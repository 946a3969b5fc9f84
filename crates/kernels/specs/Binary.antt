-- What the kernels share: an f64 as a whole number of units, a whole number times a power of two as an f64, and a decimal literal.
use Rattle.std.specs.Prelude.{ℕ, suc, ◌*◌, ◌/◌, ◌^◌, true, false, ℤ, pos, negsuc, Float}
use Rattle.std.specs.Float.{nan, inf, fin, binary64}
use Rattle.std.specs.Float.Ieee.{up, down, round}

-- how many units of 2^-1074 a finite f64 is in size: a whole number, subnormals included
abbrev pub units_of : Float → ℕ
units_of nan = 0
units_of (inf s) = 0
units_of (fin s m e) = m * up e * 2 ^ 1074 / down e

-- z·2^-k. Where the kernels use it, it is exact: no digit is lost to rounding
abbrev pub dyadic : ℤ → ℕ → Float
dyadic (pos n) k = round binary64 false n (2 ^ k)
dyadic (negsuc n) k = round binary64 true (suc n) (2 ^ k)

-- the f64 nearest to n / 10^k: what a decimal literal means
abbrev pub decimal : ℕ → ℕ → Float
decimal n k = round binary64 false n (10 ^ k)
