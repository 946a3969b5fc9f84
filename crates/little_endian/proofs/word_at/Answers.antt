-- `little_endian::word_at` meets its contract.
use Rattle.std.proofs.Common.{◌∙◌}
use Rattle.little_endian.proofs.Library.{first_word}
use Rattle.little_endian.proofs.word_at.Goals as goal

pub returns : goal.returns
returns c = c.from_le_bytes.ensures ∙ first_word _ _ _ c.requires c.as_chunks.ensures.front
