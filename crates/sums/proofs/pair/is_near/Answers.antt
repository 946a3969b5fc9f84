-- `sums::pair::is_near` meets its contract, by its two tests.
use lib.Ieee.{of_bits}
use Rattle.sums.specs.Pair.{is_near}
use Rattle.sums.proofs.pair.is_near.Goals as goal

pub returns-then-distance : goal.returns-then-distance
unfolding is_near of_bits
returns-then-distance c = rw (← c.magnitude-distance.ensures, c.if-distance.true)

pub returns-else-distance : goal.returns-else-distance
unfolding is_near of_bits
returns-else-distance c = rw (← c.magnitude-distance.ensures, c.if-distance.false, ← c.larger.ensures)
