-- `model_file::pack::put_first` meets its contract: four numbers, one after the other.
use Rattle.model_file.proofs.Putting.{first_put}
use Rattle.model_file.proofs.pack.put_first.Goals as goal

pub returns : goal.returns
returns c =
    first_put _ _ _ _ _ _ _ _ c.requires c.put.ensures c.put-2.ensures c.flag.ensures c.put-3.ensures c.count.ensures c.put-4.ensures
