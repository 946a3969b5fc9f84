-- `file_layout::inspect::check_file` meets its contract: the tests in their order, each made where those before it found no fault.
use Rattle.std.proofs.lemmas.Result.{err_from_is_err_and}
use Rattle.answer.specs.Answer.{refuse}
use Rattle.answer.specs.declared.Refusal.TheVariants.{BadLayout}
use Rattle.file_layout.proofs.FileChecks.{file_short, file_shape, file_range, file_layout, file_whole, file_sums}
use Rattle.file_layout.proofs.inspect.check_file.Goals as goal

pub returns-then-len-lt8 : goal.returns-then-len-lt8
returns-then-len-lt8 c = file_short _ _ c.if-len-lt8.true c.refused.ensures

pub returns-in_err-check_shape : goal.returns-in_err-check_shape
returns-in_err-check_shape c =
    let p = err_from_is_err_and c.from_residual.result c.from_residual.ensures.1 in
    rw (p.1, p.2) (file_shape _ _ _ c.shape_of-shape.ensures c.if-len-lt8.false c.in_err-check_shape.ensures)

pub first_wrong-requires : goal.first_wrong-requires
first_wrong-requires c = file_range _ c.in_ok-check_shape.ensures

pub returns-in-Some : goal.returns-in-Some
returns-in-Some c =
    file_layout _ _ _ c.shape_of-shape.ensures c.if-len-lt8.false (file_range _ c.in_ok-check_shape.ensures) _ c.in-Some.ensures.0 c.in-Some.ensures.1
    c.refused-in-Some.ensures

pub check_sums-requires : goal.check_sums-requires
check_sums-requires c =
    file_whole _ (refuse BadLayout 0 0) _ c.shape_of-shape.ensures c.if-len-lt8.false (file_range _ c.in_ok-check_shape.ensures) c.in_default.ensures

pub returns : goal.returns
returns c =
    file_sums _ (refuse BadLayout 0 0) _ c.shape_of-shape.ensures c.if-len-lt8.false (file_range _ c.in_ok-check_shape.ensures) c.in_default.ensures
    c.check_sums.ensures
