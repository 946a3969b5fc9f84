-- `kernels::scaled` meets its contract: the bits are those of 2^-k, and the product is one rounding.
use Rattle.kernels.proofs.Pattern.{pattern_number, assembled, assembled_lt, scaled_is}
use Rattle.kernels.proofs.scaled.Goals as goal

pub float_from_bits-result : goal.float_from_bits-result
float_from_bits-result c = let k = c.args.k in pattern_number (assembled k c.requires.1) (assembled_lt k c.requires.1)

pub returns : goal.returns
returns c = scaled_is c.args.k c.requires.1 c.args.a c.requires.0
