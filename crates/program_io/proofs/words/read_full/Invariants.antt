-- `program_io::words::read_full` meets its contract: n is at most the length, which it nears.
use Rattle.std.proofs.Common.{length, ◌-◌, ◌≤◌}
use Rattle.program_io.proofs.words.read_full.Given as goal

abbrev pub invariant-loop-n : goal.invariant-loop-n
invariant-loop-n g l = l.n ≤ length l.buf

abbrev pub decreases-loop-n : goal.decreases-loop-n
decreases-loop-n g l = length l.initial.buf - l.n
