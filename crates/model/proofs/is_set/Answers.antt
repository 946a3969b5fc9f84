-- `model::is_set` meets its contract: it is the definition.
use Rattle.std.proofs.Common.{refl}
use Rattle.model.specs.inner.Marks.{is_set}
use Rattle.model.proofs.is_set.Goals as goal

pub returns : goal.returns
unfolding is_set
returns c = refl
