-- The parts of a file, written one after the other, and what the writer's checks let through.
use Rattle.std.proofs.Common.{◌≡◌, ℕ, zero, suc, ◌+◌, ◌*◌, ◌<◌, ◌≤◌, Bool, true, false, cond, not, T, List, [], ◌∷◌, ◌++◌, length, sym, refl, ap, ◌∙◌, subst, true≢false, append_assoc, arith, length-append}
use lib.ListN.{length-map}
use lib.Ieee.{Float, binary64, to_bits, is_nan, nan}
use Rattle.floats.specs.Float.{nought, at, minus_infinity}
use Rattle.lists.specs.Lists.{flat, over}
use Rattle.lists.proofs.Over.{get_d_any, length_over, over_next, over_none}
use Rattle.lists.proofs.Rows.{length_flat}
use Rattle.little_endian.specs.Bytes.{bytes}
use Rattle.little_endian.proofs.Bytes.{length_bytes, length_little}
use Rattle.answer.specs.Answer.{done, is_done}
use Rattle.std.specs.Prelude.{Result, Err}
use Rattle.answer.specs.Checks.{first_fault}
use Rattle.answer.specs.declared.Answer.{Answer}
use Rattle.model.specs.declared.Shape.{Shape}
use Rattle.model.specs.Lent.{Tables}
use Rattle.model.specs.Good.{good, good_end}
use Rattle.model.specs.Accepted.{Every, AcceptedTables}
use Rattle.model.proofs.Entries.{good_number, end_number}
use Rattle.checks.specs.Rooms.{room}
use Rattle.checks.specs.Checks.{room_tests, tables_fault}
use Rattle.checks.proofs.Unsampled as Unsampled
use Rattle.checks.proofs.Unsampled.{tables_let_through}
use Rattle.file_layout.specs.Layout.{count, size, offset, file_length, first, layout, file_of, bits, table_of, model_file}
use Rattle.file_layout.specs.Checks.{write_rooms}
use Rattle.model_file.specs.Call.{write_check, Written}
use Rattle.model_file.specs.inner.Putting.{Numbers, Puttable, entry_of, contents_of, bodies_of}
use Rattle.file_layout.proofs.Bounds.{count_low, offset_none}
use Rattle.file_layout.proofs.Whole.{length_first, length_label, offset_next, offset_up}

-- ---- a part after the other
flat_next : (s j n : ℕ) (F : ℕ → List ℕ) (l cur next : List ℕ) → cur ≡ over s (flat n F) l → j ≡ s + length (flat n F)
    → j + length (F n) ≤ length l → next ≡ over j (F n) cur → next ≡ over s (flat (suc n) F) l
unfolding flat
flat_next s j n F l cur next e h room q = q ∙ over_next s j (flat n F) (F n) l cur e h room

pub count_3 : (sh : Shape) → not sh.ends ≡ true → count sh ≡ 3
count_3 sh h = go sh.ends h
  where
    go : (b : Bool) → not b ≡ true → ◌≡◌ {A = ℕ} (cond b 4 3) 3
    go true e = absurd (true≢false (sym e))
    go false e = refl

count_4 : (sh : Shape) → sh.ends ≡ true → count sh ≡ 4
count_4 sh h = rw h

module _ (m : Tables) where
  abbrev sh : Shape
  sh = m.shape

  abbrev E : ℕ → List ℕ
  E i = entry_of sh i (table_of m i)

  abbrev B : ℕ → List ℕ
  B i = bytes (bits (table_of m i))

  length_entry : (i : ℕ) → length (E i) ≡ 16
  length_entry i = rw (length-append, length_label sh i, length_little)

  -- the contents
  entry_none : (l : List ℕ) → l ≡ over 8 (flat 0 E) l
  unfolding flat
  entry_none l = sym (over_none 8 l)

  entry_next : (i : ℕ) (l cur next : List ℕ) → cur ≡ over 8 (flat i E) l → 24 + i * 16 ≤ length l → next ≡ over (8 + i * 16) (E i) cur
      → next ≡ over 8 (flat (suc i) E) l
  entry_next i l cur next h room q =
      flat_next 8 (8 + i * 16) i E l cur next h (let k = length_flat i E 16 length_entry in omega arith)
      (let k = length_entry i in omega arith) q

  entry_room : (i : ℕ) (l cur : List ℕ) → cur ≡ over 8 (flat i E) l → 24 + i * 16 ≤ length l → 24 + i * 16 ≤ length cur
  entry_room i l cur h room =
      let k = length_flat i E 16 length_entry in
      let w : length cur ≡ length l = ap length h ∙ length_over 8 (flat i E) l (omega arith) in
      omega arith

  contents_done : (k : ℕ) (l cur : List ℕ) → count sh ≡ k → cur ≡ over 8 (flat k E) l → cur ≡ over 8 (contents_of m) l
  unfolding contents_of
  contents_done k l cur c h = h ∙ ap (λ (n : ℕ). over 8 (flat n E) l) (sym c)

  -- the bodies
  body_none : (l : List ℕ) → l ≡ over (offset sh 0) (flat 0 B) l
  unfolding flat
  body_none l = sym (over_none (offset sh 0) l)

  bodies_done : (k : ℕ) (l cur : List ℕ) → count sh ≡ k → cur ≡ over (offset sh 0) (flat k B) l → cur ≡ over (offset sh 0) (bodies_of m) l
  unfolding bodies_of
  bodies_done k l cur c h = h ∙ ap (λ (n : ℕ). over (offset sh 0) (flat n B) l) (sym c)

  module _ (r : ℕ) (p : Puttable m r) where
    length_body : (i : ℕ) → length (B i) ≡ 8 * size sh i
    length_body i =
        length_bytes (bits (table_of m i)) ∙ ap (λ (k : ℕ). 8 * k) (length-map (table_of m i) (to_bits binary64) ∙ p.sized i)

    bodies_at : (i : ℕ) → offset sh 0 + length (flat i B) ≡ offset sh i
    unfolding flat
    bodies_at zero = omega arith
    bodies_at (suc i) = let k = bodies_at i in let b = length_body i in rw length-append (omega (arith, offset_next sh i))

    room_0 : offset sh 0 ≤ r
    room_0 = omega (arith, p.roomy, offset_up sh 0 (count sh) (omega arith))

    pub entries_room : (i : ℕ) → i < count sh → 24 + i * 16 ≤ r
    entries_room i l = omega (arith, room_0, offset_none sh)

    bodies_room : (i : ℕ) → i < count sh → offset sh (suc i) ≤ r
    bodies_room i l = omega (arith, p.roomy, offset_up sh (suc i) (count sh) l)

    body_next : (i o : ℕ) (l cur next : List ℕ) → o ≡ offset sh i → cur ≡ over (offset sh 0) (flat i B) l → offset sh (suc i) ≤ length l
        → next ≡ over o (B i) cur → next ≡ over (offset sh 0) (flat (suc i) B) l
    body_next i o l cur next eo h room q =
        flat_next (offset sh 0) o i B l cur next h (omega (arith, bodies_at i)) (omega (arith, length_body i, offset_next sh i)) q

    body_room : (i o : ℕ) (l cur : List ℕ) → o ≡ offset sh i → cur ≡ over (offset sh 0) (flat i B) l → offset sh (suc i) ≤ length l
        → o + 8 * length (table_of m i) ≤ length cur
    body_room i o l cur eo h room =
        let w : length cur ≡ length l =
        ap length h ∙ length_over (offset sh 0) (flat i B) l (omega (arith, bodies_at i, offset_next sh i)) in
        omega (arith, p.sized i, offset_next sh i)

    -- ---- three entries and bodies, and the fourth
    module _ (l : List ℕ) (rl : r ≡ length l) where
      has : (i : ℕ) → i < 3 → i < count sh
      has i h = omega (arith, count_low sh)

      at_entry : (i : ℕ) → i < count sh → 24 + i * 16 ≤ length l
      at_entry i h = omega (arith, entries_room i h)

      at_body : (i : ℕ) → i < count sh → offset sh (suc i) ≤ length l
      at_body i h = omega (arith, bodies_room i h)

      module _ (x : List ℕ) (q : x ≡ over 8 (E 0) l) where
        one : x ≡ over 8 (flat 1 E) l
        one = entry_next 0 l l x (entry_none l) (at_entry 0 (has 0 (omega arith))) q

        pub entry_room_1 : 40 ≤ length x
        entry_room_1 = entry_room 1 l x one (at_entry 1 (has 1 (omega arith)))

        module _ (y : List ℕ) (q' : y ≡ over 24 (E 1) x) where
          two : y ≡ over 8 (flat 2 E) l
          two = entry_next 1 l x y one (at_entry 1 (has 1 (omega arith))) q'

          pub entry_room_2 : 56 ≤ length y
          entry_room_2 = entry_room 2 l y two (at_entry 2 (has 2 (omega arith)))

          module _ (z : List ℕ) (q'' : z ≡ over 40 (E 2) y) where
            three : z ≡ over 8 (flat 3 E) l
            three = entry_next 2 l y z two (at_entry 2 (has 2 (omega arith))) q''

            pub contents_3 : sh.ends ≡ false → z ≡ over 8 (contents_of m) l
            contents_3 h = contents_done 3 l z (count_3 sh (ap not h)) three

            module _ (h : sh.ends ≡ true) where
              fourth : 24 + 3 * 16 ≤ length l
              fourth = at_entry 3 (omega (arith, count_4 sh h))

              pub entry_room_3 : 72 ≤ length z
              entry_room_3 = entry_room 3 l z three fourth

              pub contents_4 : (w : List ℕ) → w ≡ over 56 (E 3) z → w ≡ over 8 (contents_of m) l
              contents_4 w v = contents_done 4 l w (count_4 sh h) (entry_next 3 l z w three fourth v)

      module _ (o0 : ℕ) (e0 : o0 ≡ offset sh 0) where
        pub body_room_0 : o0 + 8 * length (table_of m 0) ≤ length l
        body_room_0 = body_room 0 o0 l l e0 (body_none l) (at_body 0 (has 0 (omega arith)))

        module _ (x : List ℕ) (q : x ≡ over o0 (B 0) l) (o1 : ℕ) (e1 : o1 ≡ offset sh 1) where
          b_one : x ≡ over (offset sh 0) (flat 1 B) l
          b_one = body_next 0 o0 l l x e0 (body_none l) (at_body 0 (has 0 (omega arith))) q

          pub body_room_1 : o1 + 8 * length (table_of m 1) ≤ length x
          body_room_1 = body_room 1 o1 l x e1 b_one (at_body 1 (has 1 (omega arith)))

          module _ (y : List ℕ) (q' : y ≡ over o1 (B 1) x) (o2 : ℕ) (e2 : o2 ≡ offset sh 2) where
            b_two : y ≡ over (offset sh 0) (flat 2 B) l
            b_two = body_next 1 o1 l x y e1 b_one (at_body 1 (has 1 (omega arith))) q'

            pub body_room_2 : o2 + 8 * length (table_of m 2) ≤ length y
            body_room_2 = body_room 2 o2 l y e2 b_two (at_body 2 (has 2 (omega arith)))

            module _ (z : List ℕ) (q'' : z ≡ over o2 (B 2) y) where
              b_three : z ≡ over (offset sh 0) (flat 3 B) l
              b_three = body_next 2 o2 l y z e2 b_two (at_body 2 (has 2 (omega arith))) q''

              pub bodies_3 : sh.ends ≡ false → z ≡ over (offset sh 0) (bodies_of m) l
              bodies_3 h = bodies_done 3 l z (count_3 sh (ap not h)) b_three

              module _ (h : sh.ends ≡ true) (o3 : ℕ) (e3 : o3 ≡ offset sh 3) where
                last : offset sh 4 ≤ length l
                last = at_body 3 (omega (arith, count_4 sh h))

                pub body_room_3 : o3 + 8 * length (table_of m 3) ≤ length z
                body_room_3 = body_room 3 o3 l z e3 b_three last

                pub bodies_4 : (w : List ℕ) → w ≡ over o3 (B 3) z → w ≡ over (offset sh 0) (bodies_of m) l
                bodies_4 w v = bodies_done 4 l w (count_4 sh h) (body_next 3 o3 l z w e3 b_three last v)

    -- ---- the whole
    length_contents : length (contents_of m) ≡ count sh * 16
    unfolding contents_of
    length_contents = length_flat (count sh) E 16 length_entry

    length_bodies : offset sh 0 + length (bodies_of m) ≡ file_length sh
    unfolding bodies_of
    length_bodies = bodies_at (count sh)

    pub file_put : (l a b c : List ℕ) → r ≡ length l → a ≡ over 0 (first sh) l → b ≡ over 8 (contents_of m) a
        → c ≡ over (offset sh 0) (bodies_of m) b → c ≡ over 0 (model_file m) l
    unfolding model_file file_of layout
    file_put l a b c rl pa pb pc =
        let f = length_first sh in
        let two : b ≡ over 0 (first sh ++ contents_of m) l =
        pb ∙ over_next 0 8 (first sh) (contents_of m) l a pa (omega arith) (omega (arith, length_contents, room_0, offset_none sh)) in
        let long : length (first sh ++ contents_of m) ≡ 8 + count sh * 16 = rw (length-append, length_contents, f) in
        pc ∙ over_next 0 (offset sh 0) (first sh ++ contents_of m) (bodies_of m) l b two
        (omega (arith, offset_none sh, long)) (omega (arith, length_bodies, p.roomy))
        ∙ ap (λ (q : List ℕ). over 0 q l) (append_assoc (first sh) (contents_of m) (bodies_of m) ∙ (unfold contents_of bodies_of in refl))

    length_parts : length (first sh ++ (contents_of m ++ bodies_of m)) ≡ file_length sh
    length_parts =
        let rest : length (contents_of m ++ bodies_of m) ≡ count sh * 16 + length (bodies_of m) = rw (length-append, length_contents) in
        rw (length-append, length_first sh, rest) (omega (arith, length_bodies, offset_none sh))

    pub length_whole : length (model_file m) ≡ file_length sh
    unfolding model_file file_of layout contents_of bodies_of
    length_whole = length_parts

    -- room for the first numbers
    pub first_room : 8 ≤ r
    first_room = omega (arith, room_0, offset_none sh)

  -- an output as long
  pub same_room : (r k : ℕ) → Puttable m r → k ≡ r → Puttable m k
  same_room r k p h = subst (Puttable m) (sym h) p

-- ---- what the checks let through
numbers : (is_good : Float → Bool) → ((x : Float) → T (is_good x) → T (not (is_nan x))) → (xs : List Float) → Every is_good xs → Numbers xs
numbers is_good h xs g i l = subst (λ (x : Float). T (not (is_nan x))) (get_d_any xs i minus_infinity nan l) (h (at xs i) (g i l))

pub table_size : (m : Tables) → AcceptedTables m → (i : ℕ) → length (table_of m i) ≡ size m.shape i
unfolding size
table_size m a zero = a.transition_length
table_size m a (suc zero) = a.emission_length
table_size m a (suc (suc zero)) = a.initial_length
table_size m a (suc (suc (suc i))) = a.end_length

pub table_numbers : (m : Tables) → AcceptedTables m → (i : ℕ) → Numbers (table_of m i)
table_numbers m a zero = numbers good good_number m.transition a.transition_good
table_numbers m a (suc zero) = numbers good good_number m.emission a.emission_good
table_numbers m a (suc (suc zero)) = numbers good good_number m.initial a.initial_good
table_numbers m a (suc (suc (suc i))) = numbers (good_end m.shape.ends) (end_number m.shape.ends) m.end a.end_good

-- the room that the code worked out
pub needs_room : (sh : Shape) (n o r : ℕ) (q : Result Unit Answer) → n ≡ count sh → o ≡ offset sh n
    → q ≡ first_fault (room_tests false 5 (room o r ∷ [])) → q ≡ first_fault (room_tests false 5 (write_rooms sh r))
needs_room sh n o r q en eo e = e ∙ ap (λ (k : ℕ). first_fault (room_tests false 5 (room k r ∷ []))) (eo ∙ ap (offset sh) en)

module _ (m : Tables) (o : List ℕ) where
  pub puttable : is_done (write_check m o) ≡ true → Puttable m (length o)
  puttable h =
      let p = tables_let_through (write_rooms m.shape (length o)) m h in
      let a = p.accepted in
      record { in_range = a.in_range; roomy = p.roomy.0; sized = table_size m a; numbers = table_numbers m a }

  -- a writer that is done
  pub is_written : (r : Answer) (e : List ℕ) → is_done (write_check m o) ≡ true → r ≡ done nought → e ≡ over 0 (model_file m) o → Written m o r e
  is_written r e ok d h = record { answer = rw ok d; file = rw ok h }

  -- a writer that is refused
  pub is_refused : {x : Answer} → Err x ≡ tables_fault (write_rooms m.shape (length o)) m → Written m o x o
  is_refused e =
      let stopped = Unsampled.is_refused (write_rooms m.shape (length o)) m e in
      record { answer = rw stopped (Unsampled.refusal_is (write_rooms m.shape (length o)) m e); file = rw stopped refl }
