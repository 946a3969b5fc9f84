-- `model_file::read_model` meets its contract: refused, all memory stays; else each table is laid by the shape that was read.
use Rattle.std.proofs.Common.{refl}
use lib.Ieee.{of_bits}
use Rattle.model_file.specs.Call.{outputs, no_shape}
use Rattle.model_file.proofs.ReadChecks.{is_refused, is_read, read_passed}
use Rattle.model_file.proofs.read_model.Goals as goal

pub returns-in-Err : goal.returns-in-Err
returns-in-Err c =
    let a = c.args in
    is_refused a.file.now (outputs a.transition.now a.emission.now a.initial.now a.end.now) no_shape c.in-Err.ensures refl

pub returns : goal.returns
unfolding of_bits
returns c =
    let a = c.args in
    is_read a.file.now (outputs a.transition.now a.emission.now a.initial.now a.end.now) _ _ _ (read_passed _ _ _ _ _ c.in_default.ensures)
    c.done.ensures c.shape_of-shape.ensures c.lay_table.ensures c.lay_table-2.ensures c.lay_table-3.ensures c.lay_end.ensures
