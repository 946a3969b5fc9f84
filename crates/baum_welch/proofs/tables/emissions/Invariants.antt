-- `baum_welch::tables::emissions` meets its contract. The loop's invariant: the rows of the states below i stand.
use mathlib.Core.Path.{◌≡◌}
use Rattle.lists.specs.Lists.{table, over}
use Rattle.occupancy.specs.inner.Rows.{lent_of, rows_of}
use Rattle.baum_welch.specs.Pass.{new_emission}
use Rattle.baum_welch.proofs.tables.emissions.Given as goal

abbrev pub invariant-loop-i : goal.invariant-loop-i
invariant-loop-i l = l.out ≡ over 0 (table l.i l.symbols (new_emission (rows_of l.pass) (lent_of l.pass).samples)) l.initial.out
