-- `checks::check_rooms` meets its contract. The loop's invariant: what is left to ask from buffer i on says what all buffers do.
use Prim.Native.Nat.{◌+◌}
use mathlib.Core.Path.{◌≡◌}
use lib.ListN.{drop}
use Rattle.answer.specs.Checks.{first_fault}
use Rattle.checks.specs.Checks.{room_tests}
use Rattle.checks.proofs.check_rooms.Given as goal

abbrev pub invariant-loop-i : goal.invariant-loop-i
invariant-loop-i l = first_fault (room_tests l.exact (l.first + l.i) (drop l.i l.rooms)) ≡ first_fault (room_tests l.exact l.first l.rooms)
