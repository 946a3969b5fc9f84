-- `model_file::check_read` meets its contract: the tests in their order, each made where those before it found no fault.
use Rattle.std.proofs.Common.{arith}
use Rattle.std.proofs.lemmas.Result.{err_from_is_err_and}
use Rattle.file_layout.proofs.Bounds.{square_small, product_small}
use Rattle.model_file.proofs.ReadChecks.{clear_whole, clear_enough, read_file, passed_file, read_rooms_lem, read_words}
use Rattle.model_file.proofs.check_read.Goals as goal

pub returns-in_err-check_file : goal.returns-in_err-check_file
returns-in_err-check_file c =
    let p = err_from_is_err_and c.from_residual.result c.from_residual.ensures.1 in
    rw (p.1, p.2) (read_file _ _ _ _ _ c.in_err-check_file.ensures)

pub shape_of-shape-requires : goal.shape_of-shape-requires
shape_of-shape-requires c = clear_enough _ (passed_file _ c.in_ok-check_file.ensures)

pub returns-in_err-check_rooms : goal.returns-in_err-check_rooms
returns-in_err-check_rooms c =
    let p = err_from_is_err_and c.from_residual-in_err-check_rooms.result c.from_residual-in_err-check_rooms.ensures.1 in
    let rooms = rw (c.of.ensures, c.of-2.ensures, c.of-3.ensures, c.of-4.ensures) at c.in_err-check_rooms.ensures in
    rw (p.1, p.2) (read_rooms_lem _ _ _ _ _ _ c.shape_of-shape.ensures c.in_ok-check_file.ensures rooms)

pub overflow_mul-states : goal.overflow_mul-states
overflow_mul-states c =
    let whole = clear_whole _ _ c.shape_of-shape.ensures (passed_file _ c.in_ok-check_file.ensures) in
    omega (arith, square_small c.shape_of-shape.result whole.in_range)

pub overflow_mul-states-2 : goal.overflow_mul-states-2
overflow_mul-states-2 c =
    let whole = clear_whole _ _ c.shape_of-shape.ensures (passed_file _ c.in_ok-check_file.ensures) in
    omega (arith, product_small c.shape_of-shape.result whole.in_range)

pub check_words-requires : goal.check_words-requires
check_words-requires c = clear_whole _ _ c.shape_of-shape.ensures (passed_file _ c.in_ok-check_file.ensures)

pub returns : goal.returns
returns c =
    let rooms = rw (c.of.ensures, c.of-2.ensures, c.of-3.ensures, c.of-4.ensures) at c.in_ok-check_rooms.ensures in
    read_words _ _ _ _ _ _ c.shape_of-shape.ensures c.in_ok-check_file.ensures rooms c.check_words.ensures
