-- `occupancy::arc::arc_sums` meets its contract. The loop's invariant: the sums to the states below j stand.
use mathlib.Core.Path.{◌≡◌}
use lib.ListN.{length}
use Rattle.occupancy.specs.inner.Rows.{arc_sum_of, Holds}
use Rattle.occupancy.proofs.arc.arc_sums.Given as goal

abbrev pub invariant-loop-j : goal.invariant-loop-j
invariant-loop-j l = (length l.sums ≡ 64) × Holds l.j (arc_sum_of l.pass l.i) l.sums
