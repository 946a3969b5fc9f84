-- `baum_welch::tables::transitions` meets its contract. The loop's invariant: the rows of the states below i stand.
use mathlib.Core.Path.{◌≡◌}
use Rattle.lists.specs.Lists.{table, over}
use Rattle.baum_welch.specs.inner.Tables.{transitions_of}
use Rattle.baum_welch.proofs.tables.transitions.Given as goal

abbrev pub invariant-loop-i : goal.invariant-loop-i
invariant-loop-i l =
    l.out ≡ over 0 (table l.i l.states (transitions_of l.pass)) l.initial.out
