-- `model::is_good_end` meets its contract: the rule is picked by the flag.
use Rattle.model.specs.Good.{good_end}
use Rattle.model.proofs.is_good_end.Goals as goal

pub returns-then-ends : goal.returns-then-ends
unfolding good_end
returns-then-ends c = rw c.if-ends.true c.is_good.ensures

pub returns : goal.returns
unfolding good_end
returns c = rw c.if-ends.false c.is_plus_zero.ensures
