-- `model::entry` meets its contract: below the length, what is read past the end does not matter.
use lib.Ieee.{nan}
use Rattle.floats.specs.Float.{minus_infinity}
use Rattle.lists.proofs.Over.{get_d_any}
use Rattle.model.proofs.entry.Goals as goal

pub returns : goal.returns
returns c = let s = c.before in get_d_any s.args.table.now s.args.i nan minus_infinity s.requires
