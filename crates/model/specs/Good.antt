-- Which entries are good (RULES 2.5), as values and by their bits.
use Rattle.std.specs.Prelude.{ℕ, Bool, cond, ◌&&◌, ◌||◌, ◌==◌, nat_le, Float}
use Rattle.std.specs.Float.Ieee.{le}
use Rattle.floats.specs.Float.{nought, is_plus_zero}

-- not NaN, and at most 0: -0.0 and minus infinity are good
unfoldable pub good : Float → Bool
good x = le x nought

-- an entry of the end table: without an end state it must be +0.0
unfoldable pub good_end : Bool → Float → Bool
good_end ends x = cond ends (good x) (is_plus_zero x)

-- the same of an entry's 64 bits as a whole number: +0.0, or from -0.0 to minus infinity, past which the bits are those of a NaN
unfoldable pub good_bits : ℕ → Bool
good_bits w = w == 0 || (nat_le 0x8000000000000000 w && nat_le w 0xfff0000000000000)

-- of an entry of the end table: without an end state no bit may be set
unfoldable pub good_end_bits : Bool → ℕ → Bool
good_end_bits ends w = cond ends (good_bits w) (w == 0)
