-- `little_endian::put` meets its contract.
use Rattle.little_endian.proofs.Library.{over_little}
use Rattle.little_endian.proofs.put.Goals as goal

pub returns : goal.returns
returns c = over_little _ _ _ _ _ c.requires.1 (rw c.to_le_bytes.ensures at c.copy_from_slice.ensures.after)
