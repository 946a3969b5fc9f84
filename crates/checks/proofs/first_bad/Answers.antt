-- `checks::first_bad` meets its contract: what is searched after the good blocks is the whole table's.
use Rattle.std.specs.Prelude.{Some, None}
use Rattle.checks.proofs.Blocks.{after_blocks}
use Rattle.checks.proofs.first_bad.Goals as goal

pub returns-in_err-place : goal.returns-in_err-place
returns-in_err-place c = rw c.from_residual.ensures (after_blocks _ _ c.good_blocks-start.ensures None c.in_err-place.ensures)

pub returns : goal.returns
returns c = after_blocks _ _ c.good_blocks-start.ensures (Some c.in_ok-place.place) c.in_ok-place.ensures
