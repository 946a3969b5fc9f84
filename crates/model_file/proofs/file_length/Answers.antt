-- `model_file::file_length` meets its contract: whether a shape has a file is what its check says.
use Rattle.std.proofs.Common.{sym, ap, ◌∙◌, arith}
use Rattle.answer.proofs.Checks.{err_is_not_done, ok_is_done}
use Rattle.checks.proofs.Slots.{shape_refuses}
use Rattle.file_layout.specs.Layout.{offset}
use Rattle.model_file.specs.Call.{length_of}
use Rattle.file_layout.proofs.Bounds.{count_high}
use Rattle.file_layout.proofs.FileChecks.{range_by}
use Rattle.model_file.proofs.file_length.Goals as goal

pub returns-then-is_err : goal.returns-then-is_err
unfolding length_of
returns-then-is_err c =
    rw (err_is_not_done _ (shape_refuses c.args.shape) _ c.check_shape.ensures (sym c.is_err.ensures.value ∙ c.if-is_err.true))

pub offset-requires : goal.offset-requires
offset-requires c = (range_by _ _ c.check_shape.ensures (sym c.is_err.ensures.value ∙ c.if-is_err.false), omega (arith, c.count.ensures, count_high c.args.shape))

pub returns : goal.returns
unfolding length_of
returns c =
    rw (ok_is_done _ _ c.check_shape.ensures (sym c.is_err.ensures.value ∙ c.if-is_err.false))
    (c.offset.ensures ∙ ap (offset c.args.shape) c.count.ensures)
