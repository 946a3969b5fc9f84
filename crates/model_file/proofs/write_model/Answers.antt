-- `model_file::write_model` meets its contract: where the checks are passed there is room, and the file is laid over the output's front.
use Rattle.std.proofs.Common.{refl, ◌∙◌}
use lib.Ieee.{of_bits}
use Rattle.model.specs.Lent.{tables_behind}
use Rattle.checks.proofs.Unsampled.{is_passed}
use Rattle.model_file.proofs.Writes.{file_put, first_room, is_refused, is_written, puttable, same_room}
use Rattle.model_file.proofs.write_model.Goals as goal

pub returns-in-Err : goal.returns-in-Err
returns-in-Err c = is_refused (tables_behind c.args.tables.now) c.args.file.now c.in-Err.ensures

pub put_first-requires : goal.put_first-requires
put_first-requires c =
    let m = tables_behind c.args.tables.now in
    first_room m _ (puttable m _ (is_passed _ m c.in_default.ensures))

pub put_contents-requires : goal.put_contents-requires
put_contents-requires c =
    let m = tables_behind c.args.tables.now in
    same_room m _ _ (puttable m _ (is_passed _ m c.in_default.ensures)) c.put_first.auto.file

pub put_bodies-requires : goal.put_bodies-requires
put_bodies-requires c =
    let m = tables_behind c.args.tables.now in
    same_room m _ _ (puttable m _ (is_passed _ m c.in_default.ensures)) (c.put_contents.auto.file ∙ c.put_first.auto.file)

pub returns : goal.returns
unfolding of_bits
returns c =
    let m = tables_behind c.args.tables.now in
    let ok = is_passed _ m c.in_default.ensures in
    is_written m _ _ _ ok c.done.ensures
    (file_put m _ (puttable m _ ok) _ _ _ _ refl c.put_first.ensures c.put_contents.ensures c.put_bodies.ensures)
