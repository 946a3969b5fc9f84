-- `model::is_good` meets its contract: the top bit of the entry's mark.
use Rattle.std.proofs.Common.{◌∙◌}
use Rattle.model.proofs.is_good.Goals as goal

pub returns : goal.returns
returns c = c.is_set.ensures ∙ c.mark.ensures
