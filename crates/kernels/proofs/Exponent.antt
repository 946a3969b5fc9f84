-- The signed part of ln: how large e·2^30 + f is.
use Rattle.std.proofs.Common.{ℕ, ◌+◌, ◌-◌, ◌^◌, ◌≤◌, ◌<◌, ℤ, pos, negsuc, ◌-ℤ◌, ◌<ℤ◌, arith}
use Rattle.std.proofs.lemmas.Int.{ints}
use lib.Signed.{mag}
use Rattle.kernels.specs.Ln.{joined}

mag_lt : (z : ℤ) (k : ℕ) → negsuc k <ℤ z → z <ℤ pos (k + 1) → mag z < k + 1
mag_lt (pos n) k low high = omega (arith, ints)
mag_lt (negsuc n) k low high = omega (arith, ints)

pub joined_small : (size f : ℕ) → size ≤ 2098 → f < 2 ^ 30 → mag (joined (pos size -ℤ pos 1075) f) < 2 ^ 52
joined_small size f h k = mag_lt (joined (pos size -ℤ pos 1075) f) (2 ^ 52 - 1) (omega (arith, ints)) (omega (arith, ints))
