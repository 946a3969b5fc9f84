-- The checks of a reader in their order, and what is known once none finds fault.
use Rattle.std.proofs.Common.{sym, ◌≡◌, ℕ, ◌*◌, ◌<◌, ◌≤◌, true, false, List, [], ◌∷◌, ◌++◌, length, ap, ◌∙◌, arith, ltb-false}
use lib.Ieee.{Float}
use Rattle.std.specs.Prelude.{Result, Ok, Err}
use Rattle.floats.specs.Float.{nought}
use Rattle.lists.specs.Lists.{first_bad, over}
use Rattle.answer.specs.Answer.{done, is_done}
use Rattle.answer.specs.Checks.{Tests, first_of, first_fault}
use Rattle.answer.proofs.Checks.{Clear, Refuses, refuse_both, clear, clear_left, clear_right, passed, found, fault_stops, fault_goes_on, refuses_too, passes_too}
use Rattle.checks.specs.declared.Room.{Room}
use Rattle.checks.specs.Rooms.{room, Roomy}
use Rattle.checks.specs.Checks.{room_tests}
use Rattle.checks.proofs.Rooms.{rooms_refuse}
use Rattle.checks.proofs.Done.{is_roomy}
use Rattle.model.specs.Good.{good_bits}
use Rattle.file_layout.specs.Checks.{file_tests, layout_tests, read_rooms, read_tests, sum_tests, word_test, word_tests}
use Rattle.file_layout.specs.Layout.{count, size}
use Rattle.file_layout.specs.Reading.{body_at, body_of, end_at, end_of, floats, shape_of}
use Rattle.model_file.specs.Call.{Outputs, no_shape, read_check, Read}
use Rattle.model_file.specs.inner.Laying.{Laying, LayingEnd}
use Rattle.file_layout.specs.inner.Whole.{Whole}
use Rattle.file_layout.proofs.Accepting.{file_refuses, laid, tab_clear, tab_refuses}
use Rattle.file_layout.proofs.Bounds.{count_low}
use Rattle.file_layout.proofs.Fits.{fits_length}
use Rattle.file_layout.proofs.Whole.{length_pattern}
use Rattle.file_layout.proofs.Within.{length_body}
use Rattle.answer.specs.declared.Answer.{Answer}
use Rattle.model.specs.declared.Shape.{Shape}

-- a file that passes 13 has the layout of its shape
pub clear_whole : (f : List ℕ) (sh : Shape) → sh ≡ shape_of f → Clear (file_tests f) → Whole sh f
clear_whole f sh own c =
    let l = laid f (clear_left (layout_tests f) (sum_tests f) c) in
    record {
      own = own;
      in_range = rw own l.in_range;
      long = rw own (fits_length _ f l.fits ∙ length_pattern (shape_of f));
    }

pub passed_file : (f : List ℕ) {u : Unit} → Ok u ≡ first_fault (file_tests f) → Clear (file_tests f)
passed_file f {u} e = passed (file_tests f) u (sym e)

pub clear_enough : (f : List ℕ) → Clear (file_tests f) → 8 ≤ length f
clear_enough f c = (laid f (clear_left (layout_tests f) (sum_tests f) c)).enough

module _ (f : List ℕ) (a b c d : ℕ) where
  words_refuse : Refuses (word_tests f)
  unfolding word_tests
  words_refuse = tab_refuses (count (shape_of f)) (word_test f) (λ (i : ℕ). (tt, tt))

  abbrev needed : List Room
  needed = read_rooms (shape_of f) a b c d

  abbrev rooms : Tests
  rooms = room_tests false 6 needed

  -- the code's check
  pub read_file : {x : Answer} → Err x ≡ first_fault (file_tests f) → Err x ≡ first_fault (read_tests f a b c d)
  unfolding read_tests
  read_file {x} e = fault_stops (file_tests f) (rooms ++ word_tests f) x (sym e)

  -- what the code needs of each table, worked out of the shape that it read
  module _ (sh : Shape) (own : sh ≡ shape_of f) where
    abbrev worked_out : Result Unit Answer
    worked_out =
        first_fault (room_tests false 6 (room (sh.states * sh.states) a ∷ room (sh.states * sh.symbols) b ∷ room sh.states c ∷ room sh.states d ∷ []))

    own_rooms : worked_out ≡ first_fault rooms
    unfolding size
    own_rooms =
        ap (λ (s : Shape). first_fault (room_tests false 6
        (room (s.states * s.states) a ∷ room (s.states * s.symbols) b ∷ room s.states c ∷ room s.states d ∷ []))) own

    pub read_rooms_lem : {u : Unit} {x : Answer} → Ok u ≡ first_fault (file_tests f) → Err x ≡ worked_out → Err x ≡ first_fault (read_tests f a b c d)
    unfolding read_tests
    read_rooms_lem {u} {x} e g =
        fault_goes_on (file_tests f) (rooms ++ word_tests f) u (Err x) (sym e) (fault_stops rooms (word_tests f) x (sym (g ∙ own_rooms)))

    pub read_words : {u v : Unit} {q : Result Unit Answer} → Ok u ≡ first_fault (file_tests f) → Ok v ≡ worked_out
        → q ≡ first_fault (word_tests f) → q ≡ first_fault (read_tests f a b c d)
    unfolding read_tests
    read_words {u} {v} {q} e g w =
        fault_goes_on (file_tests f) (rooms ++ word_tests f) u q (sym e) (fault_goes_on rooms (word_tests f) v q (sym (g ∙ own_rooms)) w)

  -- ---- a reader that is done
  pub record Readable : Type 0 where
    pub file : Clear (file_tests f)
    pub roomy : Roomy needed
    pub word : Clear (word_tests f)

  read_refuses : Refuses (read_tests f a b c d)
  unfolding read_tests
  read_refuses =
      refuse_both (file_tests f) (rooms ++ word_tests f) (file_refuses f)
      (refuse_both rooms (word_tests f) (rooms_refuse false 6 needed) words_refuse)

  -- what the code's check says of the list's answer
  pub read_passed : {u : Unit} → Ok u ≡ first_fault (read_tests f a b c d) → is_done (first_of (read_tests f a b c d)) ≡ true
  read_passed {u} e = passes_too (read_tests f a b c d) u (sym e)

  pub read_refused : {x : Answer} → Err x ≡ first_fault (read_tests f a b c d) → is_done (first_of (read_tests f a b c d)) ≡ false
  read_refused {x} e = refuses_too (read_tests f a b c d) read_refuses x (sym e)

  pub read_refusal : {x : Answer} → Err x ≡ first_fault (read_tests f a b c d) → x ≡ first_of (read_tests f a b c d)
  read_refusal {x} e = found (read_tests f a b c d) x (sym e)

  pub read_done : is_done (first_of (read_tests f a b c d)) ≡ true → Readable
  unfolding read_tests
  read_done h =
      let all = clear (file_tests f ++ (rooms ++ word_tests f)) read_refuses h in
      let rest = clear_right (file_tests f) (rooms ++ word_tests f) all in
      record {
        file = clear_left (file_tests f) (rooms ++ word_tests f) all;
        roomy = is_roomy 6 needed (clear_left rooms (word_tests f) rest);
        word = clear_right rooms (word_tests f) rest;
      }

  pub all_good : Readable → (i : ℕ) → i < count (shape_of f) → size (shape_of f) i ≤ first_bad good_bits (body_of f i)
  unfolding word_tests
  all_good r i l =
      let k = ltb-false (first_bad good_bits (body_of f i)) (length (body_of f i)) (tab_clear (count (shape_of f)) (word_test f) r.word i l) in
      omega (arith, k, length_body (shape_of f) f i)

  module _ (sh : Shape) (own : sh ≡ shape_of f) (r : Readable) where
    laying : (i places : ℕ) → i < count sh → size (shape_of f) i ≤ places → Laying sh f i places
    laying i places l h =
        record {
          whole = clear_whole f sh own r.file;
          table = l;
          roomy = rw own h;
          good = rw own (all_good r i (rw own at l));
        }

    laying_end_lem : (places : ℕ) → size (shape_of f) 3 ≤ places → LayingEnd sh f places
    laying_end_lem places h =
        record {
          roomy = rw own (three h);
          given = λ (e : sh.ends ≡ true). laying 3 places (rw e (omega arith)) h;
        }
      where
        three : size (shape_of f) 3 ≤ places → (shape_of f).states ≤ places
        three h = unfold size in h

  -- once the checks are done, the shape can be read
  pub done_enough : is_done (first_of (read_tests f a b c d)) ≡ true → 8 ≤ length f
  done_enough ok = clear_enough f (read_done ok).file

  -- and each table can be laid
  module _ (sh : Shape) (own : sh ≡ shape_of f) (ok : is_done (first_of (read_tests f a b c d)) ≡ true) where
    readable : Readable
    readable = read_done ok

    pub laying_transition : Laying sh f 0 a
    laying_transition = laying sh own readable 0 a (omega (arith, count_low sh)) readable.roomy.0

    pub laying_emission : Laying sh f 1 b
    laying_emission = laying sh own readable 1 b (omega (arith, count_low sh)) readable.roomy.1.0

    pub laying_initial : Laying sh f 2 c
    laying_initial = laying sh own readable 2 c (omega (arith, count_low sh)) readable.roomy.1.1.0

    pub laying_end : LayingEnd sh f d
    laying_end = laying_end_lem sh own readable d readable.roomy.1.1.1.0

-- what `read_model` owes where it reads the shape and lays the tables
pub ruleset laying_steps = (laying_transition, laying_emission, laying_initial, laying_end, done_enough, read_passed)

-- ---- what the lent tables hold at the end: a table of the file, by the shape that was read
own_table : (sh : Shape) (f : List ℕ) → sh ≡ shape_of f → (i : ℕ) (l cur : List Float) → cur ≡ over 0 (floats (body_at sh f i)) l
    → cur ≡ over 0 (floats (body_of f i)) l
own_table sh f own i l cur e = e ∙ ap (λ (s : Shape). over 0 (floats (body_at s f i)) l) own

own_end : (sh : Shape) (f : List ℕ) → sh ≡ shape_of f → (l cur : List Float) → cur ≡ over 0 (end_at sh f) l → cur ≡ over 0 (end_of f) l
own_end sh f own l cur e = e ∙ ap (λ (s : Shape). over 0 (end_at s f) l) own

-- ---- the two ways in which a reader ends
-- it refuses: it gives the first fault and the shape of no model, and all memory stays
pub is_refused : (f : List ℕ) (o : Outputs) {x : Answer} (sh : Shape)
    → Err x ≡ first_fault (read_tests f (length o.transition) (length o.emission) (length o.initial) (length o.end)) → sh ≡ no_shape
    → Read f o (record { answer = x; shape = sh }) o
is_refused f o sh e s =
    let stopped : is_done (read_check f o) ≡ false = read_refused f _ _ _ _ e in
    record {
      answer = rw stopped (read_refusal f _ _ _ _ e);
      shape = rw stopped s;
      transition = rw stopped;
      emission = rw stopped;
      initial = rw stopped;
      end = rw stopped;
    }

-- it is done: it answers +0.0 and the file's shape, and each table lies over the front of its output
pub is_read : (f : List ℕ) (o : Outputs) (r : Answer) (sh : Shape) (e : Outputs) → is_done (read_check f o) ≡ true → r ≡ done nought
    → sh ≡ shape_of f → e.transition ≡ over 0 (floats (body_at sh f 0)) o.transition → e.emission ≡ over 0 (floats (body_at sh f 1)) o.emission
    → e.initial ≡ over 0 (floats (body_at sh f 2)) o.initial → e.end ≡ over 0 (end_at sh f) o.end
    → Read f o (record { answer = r; shape = sh }) e
is_read f o r sh e ok d own t m n x =
    record {
      answer = rw ok d;
      shape = rw ok own;
      transition = rw ok (own_table sh f own 0 _ _ t);
      emission = rw ok (own_table sh f own 1 _ _ m);
      initial = rw ok (own_table sh f own 2 _ _ n);
      end = rw ok (own_end sh f own _ _ x);
    }
