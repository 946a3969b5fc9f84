-- `baum_welch::mass::weigh` meets its contract. The loop's invariant: the masses of the states below i stand, and none of these is without.
use mathlib.Core.Path.{◌≡◌}
use lib.ListN.{length}
use Rattle.lists.specs.First.{first}
use Rattle.occupancy.specs.Occupancy.{massless}
use Rattle.occupancy.specs.inner.Rows.{rows_of}
use Rattle.baum_welch.specs.inner.Tables.{shape_of, Masses}
use Rattle.baum_welch.proofs.mass.weigh.Given as goal

abbrev pub invariant-loop-i : goal.invariant-loop-i
invariant-loop-i l =
    (length l.masses ≡ 64)
    × Masses l.i l.pass l.masses
    × (first (massless (shape_of l.pass).ends (rows_of l.pass)) l.i ≡ l.i)
