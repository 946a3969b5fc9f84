-- `checks::are_good` meets its contract. The loop's invariant: the gathered marks are set where no entry so far is bad.
use Prim.Native.Nat.{◌≤◌, ◌<◌, ◌^◌}
use mathlib.Core.Path.{◌≡◌}
use lib.Dec.{leb}
use lib.ListN.{length}
use Rattle.lists.specs.Lists.{first_bad}
use Rattle.model.specs.Good.{good}
use Rattle.model.specs.inner.Marks.{is_set}
use Rattle.checks.proofs.are_good.Given as goal

abbrev pub invariant-loop-entry : goal.invariant-loop-entry
invariant-loop-entry l =
    (l.marks < 2 ^ 64) × (l.entry-index ≤ length l.table) × (is_set l.marks ≡ leb l.entry-index (first_bad good l.table))
