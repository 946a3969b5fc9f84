-- `model_file::check_write` meets its contract: the tests in their order, each made where those before it found no fault.
use Rattle.std.proofs.Common.{arith, []}
use Rattle.std.proofs.lemmas.Result.{err_from_is_err_and}
use Rattle.model.specs.Lent.{tables_behind}
use Rattle.checks.proofs.Unsampled.{sizes_stop, sizes_in_range, outputs_stop, entries_go_on}
use Rattle.file_layout.proofs.Bounds.{count_high}
use Rattle.model_file.proofs.Writes.{needs_room}
use Rattle.model_file.proofs.check_write.Goals as goal

pub returns-in_err-check_sizes : goal.returns-in_err-check_sizes
returns-in_err-check_sizes c =
    let p = err_from_is_err_and c.from_residual.result c.from_residual.ensures.1 in
    rw (p.1, p.2) (sizes_stop _ (tables_behind c.args.tables.now) c.in_err-check_sizes.ensures)

pub offset-needed-requires : goal.offset-needed-requires
offset-needed-requires c =
    (sizes_in_range [] (tables_behind c.args.tables.now) c.in_ok-check_sizes.ensures, omega (arith, c.count.ensures, count_high c.args.tables.now.shape))

pub returns-in_err-check_rooms : goal.returns-in_err-check_rooms
returns-in_err-check_rooms c =
    let p = err_from_is_err_and c.from_residual-in_err-check_rooms.result c.from_residual-in_err-check_rooms.ensures.1 in
    let room = rw c.of.ensures at c.in_err-check_rooms.ensures in
    rw (p.1, p.2) (outputs_stop _ (tables_behind c.args.tables.now) c.in_ok-check_sizes.ensures
    (needs_room _ _ _ _ _ c.count.ensures c.offset-needed.ensures room))

pub returns : goal.returns
returns c =
    let room = rw c.of.ensures at c.in_ok-check_rooms.ensures in
    entries_go_on _ (tables_behind c.args.tables.now) c.in_ok-check_sizes.ensures
    (needs_room _ _ _ _ _ c.count.ensures c.offset-needed.ensures room) c.check_entries.ensures
