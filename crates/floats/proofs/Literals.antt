-- A value in the code is read as its bits: those of the infinities and of 0.0 give the values that the definitions name.
use Rattle.std.proofs.Common.{◌≡◌, refl, false}
use lib.Ieee.{inf, binary64, of_bits}
use Rattle.floats.specs.Float.{minus_infinity, nought}

pub minus_infinity_bits : of_bits binary64 0xfff0000000000000 ≡ minus_infinity
unfolding of_bits
minus_infinity_bits = refl

pub plus_infinity_bits : of_bits binary64 0x7ff0000000000000 ≡ inf false
unfolding of_bits
plus_infinity_bits = refl

pub nought_bits : of_bits binary64 0 ≡ nought
unfolding of_bits
nought_bits = refl
