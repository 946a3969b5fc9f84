-- `model_file::pack::put_bodies` meets its contract: three bodies one after the other, and the fourth where there is an end state.
use Rattle.std.proofs.Common.{refl}
use Rattle.model_file.proofs.Writes.{bodies_3, bodies_4, body_room_0, body_room_1, body_room_2, body_room_3}
use Rattle.model_file.proofs.pack.put_bodies.Goals as goal

pub put_words-requires : goal.put_words-requires
put_words-requires c = (body_room_0 _ _ c.requires c.args.file.now refl _ c.offset.ensures, c.requires.numbers 0)

pub put_words-requires-2 : goal.put_words-requires-2
put_words-requires-2 c = (body_room_1 _ _ c.requires c.args.file.now refl _ c.offset.ensures _ c.put_words.ensures _ c.offset-2.ensures, c.requires.numbers 1)

pub put_words-requires-3 : goal.put_words-requires-3
put_words-requires-3 c = (
  body_room_2 _ _ c.requires c.args.file.now refl _ c.offset.ensures _ c.put_words.ensures _ c.offset-2.ensures _
      c.put_words-2.ensures _ c.offset-3.ensures,
  c.requires.numbers 2,
)

pub put_words-requires-then-shape : goal.put_words-requires-then-shape
put_words-requires-then-shape c = (
  body_room_3 _ _ c.requires c.args.file.now refl _ c.offset.ensures _ c.put_words.ensures _ c.offset-2.ensures _
      c.put_words-2.ensures _ c.offset-3.ensures _ c.put_words-3.ensures c.if-shape.true _ c.offset-then-shape.ensures,
  c.requires.numbers 3,
)

pub returns-then-shape : goal.returns-then-shape
returns-then-shape c =
    bodies_4 _ _ c.requires c.args.file.now refl _ c.offset.ensures _ c.put_words.ensures _ c.offset-2.ensures _
    c.put_words-2.ensures _ c.offset-3.ensures _ c.put_words-3.ensures c.if-shape.true _ c.offset-then-shape.ensures _
    c.put_words-then-shape.ensures

pub returns-else-shape : goal.returns-else-shape
returns-else-shape c =
    bodies_3 _ _ c.requires c.args.file.now refl _ c.offset.ensures _ c.put_words.ensures _ c.offset-2.ensures _
    c.put_words-2.ensures _ c.offset-3.ensures _ c.put_words-3.ensures c.if-shape.false
