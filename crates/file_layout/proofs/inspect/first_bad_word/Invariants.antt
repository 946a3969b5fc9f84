-- `file_layout::inspect::first_bad_word` meets its contract. The loop's invariant: no word below i is bad.
use Rattle.file_layout.proofs.Words.{GoodBelow}
use Rattle.file_layout.proofs.inspect.first_bad_word.Given as goal

abbrev pub invariant-loop-i : goal.invariant-loop-i
invariant-loop-i l = GoodBelow l.file l.at l.n l.i
