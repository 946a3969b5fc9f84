-- `file_layout::layout::offset` meets its contract. The loop's invariant: `at` is where body k starts.
use Rattle.std.proofs.Common.{◌≡◌}
use Rattle.file_layout.specs.Layout.{offset}
use Rattle.file_layout.proofs.layout.offset.Given as goal

abbrev pub invariant-loop-k : goal.invariant-loop-k
invariant-loop-k l = l.at ≡ offset l.shape l.k
