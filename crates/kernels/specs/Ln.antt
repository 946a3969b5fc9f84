-- ln(x) for x at least 0 (RULES 4.2). Outside of its domain, at a NaN and below 0, it is minus infinity, as at 0.
use Rattle.std.specs.Prelude.{ℕ, zero, suc, ◌+◌, ◌-◌, ◌*◌, ◌/◌, ◌^◌, true, false, cond, leb, ℤ, pos, ◌+ℤ◌, ◌*ℤ◌, ◌-ℤ◌, Float}
use Rattle.std.specs.Float.{nan, inf, fin, binary64}
use Rattle.std.specs.Float.Ieee.{mul, size}
use Rattle.floats.specs.Float.{minus_infinity}
use Rattle.kernels.specs.Binary.{units_of, dyadic, decimal}

-- RULES 4.2, step 1: x > 0 is n units of 2^-1074, and n has `size n` binary digits. So x = m·2^e where m = n / 2^(size n - 1) is at least 1
-- and below 2, and e = size n - 1075, which may be negative
abbrev pub exponent : ℕ → ℤ
exponent n = pos (size n) -ℤ pos 1075

-- RULES 4.2, step 2: A is m·2^31, cut to a whole number
abbrev pub mantissa : ℕ → ℕ
mantissa n = n * 2 ^ 31 / 2 ^ (size n - 1)

-- RULES 4.2, step 3: A becomes A·A / 2^31, cut
abbrev pub squared : ℕ → ℕ
squared a = a * a / 2 ^ 31

-- where that is 2^32 or more the next bit is 1 and A is halved downward, else the bit is 0
abbrev pub bit_of : ℕ → ℕ
bit_of b = cond (leb (2 ^ 32) b) 1 0

abbrev pub halved : ℕ → ℕ
halved b = cond (leb (2 ^ 32) b) (b / 2) b

-- RULES 4.2, step 4: k squarings from a on, their bits put after those of f, so that the first one is highest
unfoldable pub log_bits : ℕ → ℕ → ℕ → ℕ
log_bits zero a f = f
log_bits (suc k) a f = log_bits k (halved (squared a)) (f * 2 + bit_of (squared a))

-- e·2^30 + F
abbrev pub joined : ℤ → ℕ → ℤ
joined e f = e *ℤ pos (2 ^ 30) +ℤ pos f

abbrev pub ln_fixed : ℕ → ℤ
ln_fixed n = joined (exponent n) (log_bits 30 (mantissa n) 0)

unfoldable pub ln2 : Float
ln2 = decimal 6931471805599453 16

-- RULES 4.2, step 5: (e·2^30 + F)·2^-30, exactly, times 0.6931471805599453, in one product
unfoldable pub ln_from : ℕ → Float
ln_from n = mul binary64 (dyadic (ln_fixed n) 30) ln2

-- either zero gives minus infinity, and plus infinity gives itself
unfoldable pub ln_of : Float → Float
ln_of nan = minus_infinity
ln_of (inf s) = inf s
ln_of (fin true m e) = minus_infinity
ln_of (fin false zero e) = minus_infinity
ln_of (fin false (suc m) e) = ln_from (units_of (fin false (suc m) e))
