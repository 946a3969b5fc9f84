-- `model::mark_of_bits` meets its contract: w - 1 has its top bit set where w has one further, or where it wraps.
use Rattle.std.proofs.Common.{rules}
use native.Mathlib.Omega.{arith}
use Rattle.model.proofs.Marks.{set_or_zero}
use Rattle.model.proofs.mark_of_bits.Goals as goal

pub returns : goal.returns
returns c = set_or_zero _ _ (omega arith) (search rules) (omega (arith, c.ranges.w.fits))
