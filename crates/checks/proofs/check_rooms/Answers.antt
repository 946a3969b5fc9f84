use Rattle.std.proofs.lemmas.Result.{err_from_is_err_and}
use Rattle.checks.proofs.Rooms.{asked_none, asked_stop, asked_more, asked_all}
use Rattle.checks.proofs.check_rooms.Goals as goal

pub loop-i-init : goal.loop-i-init
loop-i-init c = asked_none _ _ _

pub returns-in_err-check_room : goal.returns-in_err-check_room
returns-in_err-check_room c =
    let p = err_from_is_err_and c.from_residual.result c.from_residual.ensures.1 in
    rw (p.1, p.2) (asked_stop _ _ _ _ _ c.loop-i.invariant c.loop-i-test.true _ c.in_err-check_room.ensures)

pub loop-i-preserved : goal.loop-i-preserved
loop-i-preserved c = asked_more _ _ _ _ _ c.loop-i.invariant c.loop-i-test.true _ c.in_ok-check_room.ensures

pub returns : goal.returns
returns c = asked_all _ _ _ _ c.loop-i.invariant c.loop-i-test.false
