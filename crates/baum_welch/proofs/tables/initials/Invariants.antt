-- `baum_welch::tables::initials` meets its contract. The loop's invariant: those of the states below i stand.
use mathlib.Core.Path.{◌≡◌}
use Rattle.lists.specs.Lists.{tab, over}
use Rattle.occupancy.specs.inner.Rows.{rows_of}
use Rattle.baum_welch.specs.Pass as Spec
use Rattle.baum_welch.proofs.tables.initials.Given as goal

abbrev pub invariant-loop-i : goal.invariant-loop-i
invariant-loop-i l = l.out ≡ over 0 (tab l.i (Spec.new_initial (rows_of l.pass))) l.initial.out
