-- `model_file::pack::sum_of_table` meets its contract. The loop's invariant, `SummedTable`: the sum of the first i words.
use Rattle.model_file.proofs.Putting.{SummedTable}
use Rattle.model_file.proofs.pack.sum_of_table.Given as goal

abbrev pub invariant-loop-entry : goal.invariant-loop-entry
invariant-loop-entry l = SummedTable l.table l.total l.entry-index
