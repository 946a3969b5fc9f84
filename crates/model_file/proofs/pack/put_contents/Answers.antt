-- `model_file::pack::put_contents` meets its contract: three entries one after the other, and the fourth where there is an end state.
use Rattle.std.proofs.Common.{refl, arith}
use Rattle.file_layout.proofs.Bounds.{count_low}
use Rattle.model_file.proofs.Writes.{contents_3, contents_4, entries_room, entry_room_1, entry_room_2, entry_room_3}
use Rattle.model_file.proofs.pack.put_contents.Goals as goal

pub put_entry-requires : goal.put_entry-requires
put_entry-requires c =
    (c.requires.in_range, omega arith, entries_room _ _ c.requires 0 (omega (arith, count_low c.args.tables.now.shape)), c.requires.numbers 0)

pub put_entry-requires-2 : goal.put_entry-requires-2
put_entry-requires-2 c = (c.requires.in_range, omega arith, entry_room_1 _ _ c.requires c.args.file.now refl _ c.put_entry.ensures, c.requires.numbers 1)

pub put_entry-requires-3 : goal.put_entry-requires-3
put_entry-requires-3 c = (c.requires.in_range, omega arith, entry_room_2 _ _ c.requires c.args.file.now refl _ c.put_entry.ensures _ c.put_entry-2.ensures, c.requires.numbers 2)

pub put_entry-requires-then-shape : goal.put_entry-requires-then-shape
put_entry-requires-then-shape c =
    (c.requires.in_range, omega arith, entry_room_3 _ _ c.requires c.args.file.now refl _ c.put_entry.ensures _ c.put_entry-2.ensures _ c.put_entry-3.ensures c.if-shape.true, c.requires.numbers 3)

pub returns-then-shape : goal.returns-then-shape
returns-then-shape c = contents_4 _ _ c.requires c.args.file.now refl _ c.put_entry.ensures _ c.put_entry-2.ensures _ c.put_entry-3.ensures c.if-shape.true _ c.put_entry-then-shape.ensures

pub returns-else-shape : goal.returns-else-shape
returns-else-shape c = contents_3 _ _ c.requires c.args.file.now refl _ c.put_entry.ensures _ c.put_entry-2.ensures _ c.put_entry-3.ensures c.if-shape.false
