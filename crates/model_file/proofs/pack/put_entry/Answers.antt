-- `model_file::pack::put_entry` meets its contract: three numbers, one after the other.
use Rattle.model_file.proofs.Putting.{entry_put}
use Rattle.model_file.proofs.pack.put_entry.Goals as goal

pub returns : goal.returns
returns c =
    entry_put _ _ c.args.table.now _ _ _ _ _ _ c.requires.2 c.put.ensures c.offset.ensures c.put-2.ensures c.sum_of_table.ensures c.put-3.ensures
