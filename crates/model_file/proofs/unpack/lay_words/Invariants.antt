-- `model_file::unpack::lay_words` meets its contract. The loop's invariant, `Laid`: the first i floats stand at the front. No word is a
-- NaN's, since each is good.
use Rattle.lists.proofs.Laid.{Laid}
use Rattle.model_file.proofs.LaidWords.{float_at}
use Rattle.model_file.proofs.unpack.lay_words.Given as goal

abbrev pub invariant-loop-i : goal.invariant-loop-i
invariant-loop-i l = Laid l.n 0 (float_at l.file l.at) l.initial.table l.table l.i
