-- `checks::check_room` meets its contract: one test, by whether the length must be exact.
use borrow.Author.Tests.{lt-ltb, le-ltb}
use Rattle.answer.proofs.Checks.{faulty, faultless, unfaulted}
use Rattle.checks.proofs.Tests.{differ, agree}
use Rattle.checks.proofs.check_room.Goals as goal

pub returns-then-room : goal.returns-then-room
returns-then-room c = rw c.if-exact.true (faulty _ _ _ _ (differ _ _ c.if-room.true) c.refused.ensures)

pub returns-then-exact : goal.returns-then-exact
returns-then-exact c = rw c.if-exact.true (faultless _ _ _ _ (agree _ _ c.if-room.false) unfaulted)

pub returns-then-room-2 : goal.returns-then-room-2
returns-then-room-2 c = rw c.if-exact.false (faulty _ _ _ _ (lt-ltb _ _ c.if-room-2.true) c.refused-then-room-2.ensures)

pub returns : goal.returns
returns c = rw c.if-exact.false (faultless _ _ _ _ (le-ltb _ _ c.if-room-2.false) unfaulted)
