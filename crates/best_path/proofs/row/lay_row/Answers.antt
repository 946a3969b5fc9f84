-- `best_path::row::lay_row` meets its contract: the first row by the initial entries, any other by the row before.
use Rattle.std.proofs.Common.{arith}
use Rattle.best_path.proofs.Steps.{first_stored, next_stored}
use Rattle.best_path.proofs.row.lay_row.Goals as goal

pub returns-then-t-eq0 : goal.returns-then-t-eq0
returns-then-t-eq0 c =
    let first = c.if-t-eq0.true in
    first_stored _ _ _ _ _ _ _ _ _ _ _ first (c.requires.first_at_front first) c.requires.initial_length
    c.first_row.ensures c.first_from.ensures

pub returns-else-t-eq0 : goal.returns-else-t-eq0
returns-else-t-eq0 c = next_stored _ _ _ _ _ _ _ _ _ _ _ (omega (arith, c.if-t-eq0.false)) c.requires.some_state c.next_row.ensures
