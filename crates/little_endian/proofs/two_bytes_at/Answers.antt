-- `little_endian::two_bytes_at` meets its contract.
use Rattle.std.proofs.Common.{arith, ◌∙◌}
use Rattle.little_endian.proofs.Library.{two_value}
use Rattle.little_endian.proofs.two_bytes_at.Goals as goal

pub returns : goal.returns
returns c = (c.from.ensures ∙ c.from_le_bytes.ensures ∙ two_value _ _ c.requires, omega arith)
