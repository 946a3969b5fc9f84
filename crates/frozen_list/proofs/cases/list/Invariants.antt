-- `frozen_list::cases::list` meets its contract. The loop's invariant: the list of the turns so far is found.
use Rattle.std.proofs.Common.{◌≡◌, ◌≤◌, Some, length}
use Rattle.frozen_list.specs.Cases.{span_of}
use Rattle.frozen_list.proofs.cases.list.Given as goal

abbrev pub invariant-loop : goal.invariant-loop
invariant-loop l = (span_of l.case l.counter ≡ Some l.found) × (l.found.start ≤ l.found.end) × (l.found.end ≤ length l.case)
