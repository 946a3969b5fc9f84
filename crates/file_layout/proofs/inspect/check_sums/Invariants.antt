-- `file_layout::inspect::check_sums` meets its contract. The loop's invariant, `Cleared`: no test below i found fault.
use Rattle.file_layout.specs.Checks.{sum_test}
use Rattle.file_layout.specs.Layout.{count}
use Rattle.file_layout.specs.Reading.{shape_of}
use Rattle.file_layout.proofs.Accepting.{Cleared}
use Rattle.file_layout.proofs.inspect.check_sums.Given as goal

abbrev pub invariant-loop-i : goal.invariant-loop-i
invariant-loop-i l = Cleared (count (shape_of l.file)) (sum_test l.file) l.i
