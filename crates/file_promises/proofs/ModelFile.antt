-- What reader and writer promise together holds of their calls.
use Prim.Native.Nat.{ℕ, ◌<◌}
use mathlib.Core.Path.{◌≡◌, refl, sym, ap, ◌∙◌, subst}
use mathlib.Core.Bool.{true, false}
use mathlib.Core.List.{List, ◌++◌}
use native.Mathlib.Omega.{arith}
use lib.ListN.{length, take}
use lib.Ieee.{Float}
use Rattle.floats.specs.Float.{nought}
use Rattle.lists.specs.Lists.{over, after}
use Rattle.little_endian.specs.Bytes.{Below}
use Rattle.answer.specs.Answer.{done, is_done, refuse, answered}
use Rattle.answer.specs.declared.Answer.{Answer}
use Rattle.answer.specs.declared.Refusal.TheVariants.{BadLayout}
use Rattle.answer.proofs.Checks.{no_fault}
use Rattle.model.specs.declared.Shape.{Shape}
use Rattle.model.specs.Lent.{Tables, tables_of}
use Rattle.model.specs.Accepted.{HeldTables, AcceptedTables}
use Rattle.checks.proofs.Unsampled.{tables_let_through, are_let_through}
use Rattle.model_file.specs.declared.Reading.{Reading}
use Rattle.file_layout.specs.Layout.{count, size, file_length, model_file}
use Rattle.file_layout.specs.Reading.{shape_of, body_of, floats, end_of, model_in}
use Rattle.file_layout.specs.Checks.{file_tests, write_rooms}
use Rattle.model_file.specs.Call.{Outputs, outputs, read_check, Read, write_check}
use Rattle.file_laws.specs.Flip.{flipped, Told}
use Rattle.file_layout.specs.inner.Whole.{FileAccepted}
use Rattle.model_file.proofs.ReadChecks.{Readable, read_done}
use Rattle.file_laws.proofs.Back.{file_accepted, shape_back, table_back, end_back, read_is_done, length_file, flip_read, flip_stops}
use Rattle.file_laws.proofs.Back.{cut_read, more_read, write_back, read_accepted, length_table, end_length_lem}
use Rattle.file_layout.proofs.Bounds.{count_low}
use Rattle.file_promises.specs.ModelFile.{HasRoom, WriterIsDone, model_read, Untouched, GivenBack, ReadingGivesBack, Of}
use Rattle.file_promises.specs.ModelFile.{ModelFileHolds}
use Rattle.checks.proofs.Left.{checks_done, front_is}

-- ---- a reader that is refused
not_done : (checks answer : Answer) → answer ≡ answered checks nought → is_done checks ≡ false → answer ≡ checks
not_done checks answer e refused = rw refused at e

module _ (file : List ℕ) (o e : Outputs) (r : Reading) (p : Read file o r e) (no : is_done (read_check file o) ≡ false) where
  answer_is_lem : r.answer ≡ read_check file o
  answer_is_lem = not_done (read_check file o) r.answer p.answer no

  untouched : Untouched o r e
  untouched =
      let transition : e.transition ≡ o.transition = rw no at p.transition in
      let emission : e.emission ≡ o.emission = rw no at p.emission in
      let initial : e.initial ≡ o.initial = rw no at p.initial in
      let end : e.end ≡ o.end = rw no at p.end in
      record { refused = ap is_done answer_is_lem ∙ no; stays = λ i. outputs (transition i) (emission i) (initial i) (end i) }

-- ---- the file of an accepted model, changed
module _ (m : Tables) (o e : Outputs) (r : Reading) where
  flip_told : (p k : ℕ) → p < length (model_file m) → k < 8 → Of m (flipped p k (model_file m)) o e r (Told m.shape p r.answer)
  flip_told p k lp lk a h q =
      let f = model_file m in
      let own = file_accepted m a h in
      let no : is_done (read_check (flipped p k f) o) ≡ false = flip_stops f own _ _ _ _ p k lp lk in
      let told : Told (shape_of f) p (read_check (flipped p k f) o) = flip_read f own _ _ _ _ p k lp lk in
      let shaped : Told m.shape p (read_check (flipped p k f) o) =
      subst (λ (s : Shape). Told s p (read_check (flipped p k f) o)) (shape_back m a h) told in
      (untouched (flipped p k f) o e r q no, subst (Told m.shape p) (sym (answer_is_lem (flipped p k f) o e r q no)) shaped)

  cut_told : (k : ℕ) → k < length (model_file m) → Of m (take k (model_file m)) o e r (r.answer ≡ refuse BadLayout 0 k)
  cut_told k l a h q =
      let f = take k (model_file m) in
      let found : read_check f o ≡ refuse BadLayout 0 k = cut_read (model_file m) (file_accepted m a h) _ _ _ _ k l in
      let no : is_done (read_check f o) ≡ false = ap is_done found in
      (untouched f o e r q no, answer_is_lem f o e r q no ∙ found)

  more_told : (rest : List ℕ) → 0 < length rest
      → Of m (model_file m ++ rest) o e r (r.answer ≡ refuse BadLayout 0 (file_length m.shape))
  more_told rest l a h q =
      let f = model_file m ++ rest in
      let found : read_check f o ≡ refuse BadLayout 0 (length (model_file m)) = more_read (model_file m) (file_accepted m a h) _ _ _ _ rest l in
      let no : is_done (read_check f o) ≡ false = ap is_done found in
      (untouched f o e r q no, answer_is_lem f o e r q no ∙ found ∙ ap (refuse BadLayout 0) (length_file m a))

-- ---- writing what is accepted
writer_is_done_lem : WriterIsDone
writer_is_done_lem m o e w a room p =
    let ok : is_done (write_check m o) ≡ true = are_let_through (write_rooms m.shape (length o)) m (record { accepted = a; roomy = (room, tt) }) in
    rw (p.answer, ok) refl

-- ---- reading what was written
module _ (m : Tables) (a : AcceptedTables m) (h : HeldTables m) (o e : Outputs) (r : Reading) (room : HasRoom m o) where
  own_read : Read (model_file m) o r e → GivenBack m o r e
  own_read p =
      let ok : is_done (read_check (model_file m) o) ≡ true = read_is_done m a h _ _ _ _ room in
      let has : (i : ℕ) → i < 3 → i < count m.shape = λ (i : ℕ) l. omega (arith, count_low m.shape) in
      let transition : e.transition ≡ over 0 m.transition o.transition =
      (rw ok at p.transition) ∙ ap (λ (xs : List Float). over 0 xs o.transition) (table_back m a h 0 (has 0 (omega arith))) in
      let emission : e.emission ≡ over 0 m.emission o.emission =
      (rw ok at p.emission) ∙ ap (λ (xs : List Float). over 0 xs o.emission) (table_back m a h 1 (has 1 (omega arith))) in
      let initial : e.initial ≡ over 0 m.initial o.initial =
      (rw ok at p.initial) ∙ ap (λ (xs : List Float). over 0 xs o.initial) (table_back m a h 2 (has 2 (omega arith))) in
      let end : e.end ≡ over 0 m.end o.end =
      (rw ok at p.end) ∙ ap (λ (xs : List Float). over 0 xs o.end) (end_back m a h) in
      record {
        done = rw (p.answer, ok) refl;
        shape = (rw ok at p.shape) ∙ shape_back m a h;
        tables = λ i. outputs (transition i) (emission i) (initial i) (end i);
      }

reading_gives_back_lem : ReadingGivesBack
reading_gives_back_lem m before after w h p d o e r room q =
    let ok = (checks_done (write_check m before) (done nought) w p.answer d).0 in
    let a = (tables_let_through (write_rooms m.shape (length before)) m ok).accepted in
    let file : take (file_length m.shape) after ≡ model_file m =
    front_is _ (model_file m) before after (file_length m.shape) p.file ok (length_file m a) in
    own_read m a h o e r room (subst (λ (f : List ℕ). Read f o r e) file q)

-- ---- writing what was read
module _ (file : List ℕ) (o e : Outputs) (r : Reading) (small : Below 256 file) (p : Read file o r e) (d : is_done r.answer ≡ true) where
  ok : is_done (read_check file o) ≡ true
  ok = (checks_done (read_check file o) (done nought) r.answer p.answer d).0

  readable : Readable file (length o.transition) (length o.emission) (length o.initial) (length o.end)
  readable = read_done file _ _ _ _ ok

  accepted : FileAccepted file
  accepted = record { small = small; done = no_fault (file_tests file) readable.file }

  shape_is : r.shape ≡ shape_of file
  shape_is = rw ok at p.shape

  model_is : model_read r e ≡ model_in file
  model_is =
      let n : (i : ℕ) → length (floats (body_of file i)) ≡ size r.shape i =
      λ (i : ℕ). length_table file accepted readable.word i ∙ ap (λ (s : Shape). size s i) (sym shape_is) in
      let last : length (end_of file) ≡ size r.shape 3 =
      end_length_lem file accepted readable.word ∙ (unfold size in ap (λ (s : Shape). s.states) (sym shape_is)) in
      let transition = front_is _ (floats (body_of file 0)) o.transition e.transition _ p.transition ok (n 0) in
      let emission = front_is _ (floats (body_of file 1)) o.emission e.emission _ p.emission ok (n 1) in
      let initial = front_is _ (floats (body_of file 2)) o.initial e.initial _ p.initial ok (n 2) in
      let end = front_is _ (end_of file) o.end e.end _ p.end ok last in
      λ i. tables_of (shape_is i) (transition i) (emission i) (initial i) (end i)

  pub own_file_lem : file ≡ model_file (model_read r e)
  own_file_lem = sym (write_back file accepted readable.word) ∙ ap model_file (sym model_is)

  pub model_accepted : AcceptedTables (model_read r e)
  model_accepted = subst AcceptedTables (sym model_is) (read_accepted file accepted readable.word)

pub model_file_holds : ModelFileHolds
model_file_holds =
    record {
      writer_is_done = writer_is_done_lem;
      reading_gives_back = reading_gives_back_lem;
      own_file = λ file o e r small p d. own_file_lem file o e r small p d;
      accepted = λ file o e r small p d. model_accepted file o e r small p d;
      one_file = λ file file' o o' e e' r r' small small' p d p' d' same.
          own_file_lem file o e r small p d ∙ ap model_file same ∙ sym (own_file_lem file' o' e' r' small' p' d');
      flip_is_refused = λ m p k lp lk o e r. flip_told m o e r p k lp lk;
      cut_is_refused = λ m k l o e r. cut_told m o e r k l;
      more_is_refused = λ m rest l o e r. more_told m o e r rest l;
      length_is_file_length = λ m a. length_file m a;
    }
