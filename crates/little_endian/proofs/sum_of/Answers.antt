-- `little_endian::sum_of` meets its contract: each part is read as a word, and `fold` adds word after word.
use Rattle.std.proofs.Common.{rules, ◌≡◌, ◌∙◌, map, w64, take}
use Rattle.std.specs.List.{fold}
use Rattle.std.specs.Int.{from_le_bytes}
use Rattle.std.proofs.iter.runs.Made.{chains}
use Rattle.little_endian.proofs.Library.{with_word, sum_words}
use Rattle.little_endian.proofs.sum_of.Goals as goal

pub returns : goal.returns
returns c =
    let e : c.fold.result ≡ fold with_word 0 (map (from_le_bytes w64) (take c.args.n c.as_chunks.result.0.now)) = search (rules, chains) in
    e ∙ sum_words _ _ _ _ c.requires c.as_chunks.ensures.front
