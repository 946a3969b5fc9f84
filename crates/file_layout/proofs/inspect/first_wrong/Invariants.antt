-- `file_layout::inspect::first_wrong` meets its contract. The loop's invariant, `Met`: every byte below p is right; past the contents only
-- the length can be wrong.
use Rattle.file_layout.proofs.Scanned.{Met}
use Rattle.file_layout.proofs.inspect.first_wrong.Given as goal

abbrev pub invariant-loop-p : goal.invariant-loop-p
invariant-loop-p l = Met l.shape l.file l.p
