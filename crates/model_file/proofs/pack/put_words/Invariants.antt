-- `model_file::pack::put_words` meets its contract. The loop's invariant, `PutTable`: the first i words are laid.
use Rattle.model_file.proofs.Putting.{PutTable}
use Rattle.model_file.proofs.pack.put_words.Given as goal

abbrev pub invariant-loop-i : goal.invariant-loop-i
invariant-loop-i l = PutTable l.table l.at l.initial.file l.file l.i
