-- A file with one byte changed by less than a byte's range, not to itself: what the tests find, by its place.
use Prim.Native.Nat.{ℕ, zero, suc, ◌+◌, ◌-◌, ◌*◌, ◌/◌, ◌%◌, ◌^◌, ◌≤◌, ◌<◌}
use mathlib.Core.Path.{◌≡◌, refl, sym, ap, ◌∙◌, subst}
use mathlib.Core.Bool.{Bool, true, false, not, ◌||◌}
use mathlib.Core.List.{List}
use mathlib.Core.Logic.{⊎_elim}
use native.Mathlib.Omega.{arith}
use lib.Dec.{T, eqb, ltb}
use lib.Pow.{pow_pos, pow-lt}
use lib.ListN.{length, get_or, set, length-set}
use lib.Seq.{get_or-set_same, get_or-set_other}
use borrow.Author.Tests.{eq-eqb, ne_eqb, lt-ltb}
use Rattle.lists.specs.Lists.{part}
use Rattle.lists.proofs.Over.{length_part, part_at}
use Rattle.lists.proofs.Parts.{le_or_lt, part_above, part_below, part_set}
use Rattle.little_endian.specs.Bytes.{sum, value, words}
use Rattle.little_endian.proofs.Bytes.{below_at}
use Rattle.answer.specs.Answer.{is_done, number_of, refuse}
use Rattle.answer.specs.Checks.{first_of}
use Rattle.answer.proofs.Checks.{Clear, clear, give_both, given, goes_on, stops}
use Rattle.model.specs.Accepted.{InRange}
use Rattle.checks.specs.Checks.{shape_tests}
use Rattle.checks.proofs.Shapes.{shape_gives}
use Rattle.file_layout.specs.Checks.{any, file_tests, first_wrong, layout_tests, meets, pattern, some_wrong, sum_test, sum_tests}
use Rattle.file_laws.specs.Flip.{Told, flip, flipped, in_body, in_label, in_numbers, in_sum, is_first_number}
use Rattle.file_layout.specs.Layout.{count, first, label, offset, size}
use Rattle.file_layout.specs.Reading.{body_at, body_of, shape_of, sum_of}
use Rattle.file_layout.specs.inner.Whole.{FileAccepted}
use Rattle.file_layout.proofs.Accepting.{Laid, laid, layout_clear, layout_refuses, tab_first, layout_wrong}
use Rattle.file_laws.proofs.Apart.{Apart, apart_not, flip_apart, step_pos, sum_off, total_off, value_apart}
use Rattle.file_layout.proofs.Bounds.{count_low, shape_same}
use Rattle.file_layout.proofs.Fits.{Fits, fits_length, fits_set, wrong_set}
use Rattle.file_laws.proofs.ShapeOf.{shape_one}
use Rattle.file_layout.proofs.Whole.{body_in, demand_body, demand_label, demand_sum, first_is, label_is, long, offset_next, offset_up}
use Rattle.file_laws.proofs.Written.{known_layout, known_sums}
use Rattle.answer.specs.declared.Answer.{Answer}
use Rattle.answer.specs.declared.Refusal.TheVariants.{BadLayout, BadSum}
use Rattle.model.specs.declared.Shape.{Shape}

-- the tests 1, 2 and 13 give one of these numbers
pub first_number : (g : List ℕ) → is_done (first_of (layout_tests g)) ≡ false → T (is_first_number (number_of (first_of (layout_tests g)).refusal))
unfolding layout_tests
first_number g h =
    given is_first_number (layout_tests g)
    (tt, give_both is_first_number (shape_tests (shape_of g)) _ (shape_gives (shape_of g) is_first_number tt tt) (tt, tt)) h

module _ (f : List ℕ) (a : FileAccepted f) (p y d : ℕ) (lp : p < length f) (z : 0 < d) (s : d < 256) (ap-art : Apart d (get_or f p 0) y) where
  abbrev sh : Shape
  sh = shape_of f

  abbrev g : List ℕ
  g = set f p y

  fit : Fits (pattern sh) f
  fit = (known_layout f a).fits

  changed : get_or f p 0 ≡ y → ⊥
  changed e = apart_not d (get_or f p 0) y z ap-art e

  -- ---- in the first four numbers
  labels : p < 8 → Laid g → (i : ℕ) → i < 3 → label sh i ≡ label (shape_of g) i
  labels h l i k =
      sym (label_is sh f fit i (omega (arith, count_low sh)))
      ∙ sym (part_above (8 + i * 16) 8 f p y (omega arith))
      ∙ label_is (shape_of g) g l.fits i (omega (arith, count_low (shape_of g)))

  not_laid : p < 8 → Laid g → ⊥
  not_laid h l =
      let e : sh ≡ shape_of g = shape_one sh (shape_of g) (known_layout f a).in_range l.in_range (labels h l) in
      let same : part 0 8 f ≡ part 0 8 g = first_is sh f fit ∙ ap first e ∙ sym (first_is (shape_of g) g l.fits) in
      changed
      (sym (part_at 0 8 f p 0 h ∙ ap (λ (i : ℕ). get_or f i 0) (omega arith)) ∙ ap (λ (q : List ℕ). get_or q p 0) same ∙ part_at 0 8 g p 0 h
      ∙ ap (λ (i : ℕ). get_or g i 0) (omega arith) ∙ get_or-set_same f p y 0 lp)

  -- ---- past them the shape stays
  module _ (past : 8 ≤ p) where
    pub shape_stays : shape_of g ≡ sh
    unfolding shape_of
    shape_stays =
        shape_same (shape_of g) (shape_of f) (ap value (part_below 0 2 f p y (omega arith))) (ap value (part_below 2 2 f p y (omega arith)))
        (ap (λ (b : ℕ). eqb b 1) (get_or-set_other f p 4 y 0 (λ e. omega arith)))

    below_0 : offset sh 0 ≡ 8 + count sh * 16
    unfolding offset
    below_0 = refl

    enough : 8 ≤ length g
    enough = rw length-set (omega arith)

    range : InRange (shape_of g)
    range = rw shape_stays (known_layout f a).in_range

    -- ---- in the number or the offset of an entry
    module _ (i j : ℕ) (li : i < count sh) (lj : j < 8) (at : p ≡ 8 + (i * 16 + j)) where
      label_there : get_or (label sh i) j 0 ≡ get_or f p 0
      label_there =
          ap (λ (q : List ℕ). get_or q j 0) (sym (label_is sh f fit i li)) ∙ part_at (8 + i * 16) 8 f j 0 lj
          ∙ ap (λ (k : ℕ). get_or f k 0) {x = 8 + i * 16 + j} {y = p} (omega arith)

      misses : meets (get_or (pattern sh) p any) y ≡ false
      misses = rw (at, demand_label sh i j li lj) (ne_eqb (get_or (label sh i) j 0) y (λ e. changed (sym label_there ∙ e)))

      wrong_there : first_wrong (pattern (shape_of g)) g ≡ p
      wrong_there = rw shape_stays (wrong_set (pattern sh) f p y fit lp misses)

      below : first_wrong (pattern (shape_of g)) g < length (pattern (shape_of g))
      below = rw (wrong_there, shape_stays) (omega (arith, fits_length (pattern sh) f fit))

      some_wrong_lem : some_wrong (pattern (shape_of g)) g ≡ true
      some_wrong_lem = ap (λ (b : Bool). b || ltb (first_wrong (pattern (shape_of g)) g) (length g)) (lt-ltb _ _ below)

      pub in_label_lem : refuse BadLayout 0 p ≡ first_of (file_tests g)
      in_label_lem = layout_wrong g p enough range wrong_there some_wrong_lem

    -- ---- in a hole
    module _ (hole : get_or (pattern sh) p any ≡ any) where
      layout_stays : Clear (layout_tests g)
      layout_stays = layout_clear g enough range (rw shape_stays (fits_set (pattern sh) f p y fit (rw hole)))

      -- the sums of the tables below i are right, and that of table i is wrong
      told : (i : ℕ) → i < count sh → ((j : ℕ) → j < i → sum (body_at sh g j) ≡ sum_of g j) → (sum (body_at sh g i) ≡ sum_of g i → ⊥)
          → refuse BadSum i 0 ≡ first_of (file_tests g)
      unfolding sum_tests
      told i l h w =
          goes_on (layout_tests g) (sum_tests g) (refuse BadSum i 0)
          (tab_first (count (shape_of g)) i (sum_test g) (rw shape_stays l)
          (λ (j : ℕ) k. ap not (eq-eqb (sum (body_of g j)) (sum_of g j) (rw shape_stays (h j k))))
          (ap not (ne_eqb (sum (body_of g i)) (sum_of g i) (rw shape_stays w)))
          refl)
          layout_stays

    body_above : (j : ℕ) → p < offset sh 0 → body_at sh g j ≡ body_at sh f j
    unfolding body_at
    body_above j h = ap (words (size sh j)) (part_above (offset sh j) (8 * size sh j) f p y (omega (arith, offset_up sh 0 j (omega arith))))

    body_below : (j : ℕ) → offset sh j + 8 * size sh j ≤ p → body_at sh g j ≡ body_at sh f j
    unfolding body_at
    body_below j h = ap (words (size sh j)) (part_below (offset sh j) (8 * size sh j) f p y h)

    sum_below : (j : ℕ) → 16 + j * 16 + 8 ≤ p → sum_of g j ≡ sum_of f j
    unfolding sum_of
    sum_below j h = ap value (part_below (16 + j * 16) 8 f p y h)

    -- ---- in a sum
    module _ (i j : ℕ) (li : i < count sh) (lj : j < 8) (at : p ≡ 8 + (i * 16 + (8 + j))) where
      before : p < offset sh 0
      before = omega (arith, below_0)

      sum_moves : sum_of g i ≡ sum_of f i → ⊥
      unfolding sum_of
      sum_moves e =
          let q : p ≡ 16 + i * 16 + j = omega arith in
          let n : length (part (16 + i * 16) 8 f) ≡ 8 = length_part (16 + i * 16) 8 f
          (omega (arith, below_0, offset_up sh 0 (count sh) (omega arith), long sh f fit)) in
          let m : part (16 + i * 16) 8 g ≡ set (part (16 + i * 16) 8 f) j y = ap (λ (k : ℕ). part (16 + i * 16) 8 (set f k y)) q
          ∙ part_set (16 + i * 16) 8 f j y lj in
          let w : get_or (part (16 + i * 16) 8 f) j 0 ≡ get_or f p 0 = part_at (16 + i * 16) 8 f j 0 lj ∙ ap (λ (k : ℕ). get_or f k 0) (sym q) in
          apart_not (256 ^ j * d) (value (part (16 + i * 16) 8 f)) (value (set (part (16 + i * 16) 8 f) j y)) (step_pos j d z)
          (value_apart (part (16 + i * 16) 8 f) j y d (rw n lj) (rw w ap-art))
          (sym e ∙ ap value m)

      pub in_sum_lem : refuse BadSum i 0 ≡ first_of (file_tests g)
      in_sum_lem =
          told (rw at (demand_sum sh i j li lj)) i li
          (λ (k : ℕ) l. ap sum (body_above k before) ∙ known_sums f a k (omega arith) ∙ sym (sum_below k (omega arith)))
          (λ e. sum_moves (sym e ∙ ap sum (body_above i before) ∙ known_sums f a i li))

    -- ---- in a body
    module _ (i j : ℕ) (li : i < count sh) (lj : j < 8 * size sh i) (at : p ≡ offset sh i + j) where
      after : offset sh 0 ≤ p
      after = omega (arith, offset_up sh 0 i (omega arith))

      body_moves : sum (body_at sh g i) ≡ sum (body_at sh f i) → ⊥
      unfolding body_at
      body_moves e =
          let o = offset sh i in
          let n = size sh i in
          let b = part (offset sh i) (8 * size sh i) f in
          let w : length (part (offset sh i) (8 * size sh i) f) ≡ 8 * size sh i = length_part (offset sh i) (8 * size sh i) f
          (body_in sh f fit a.small i li) in
          let m : part (offset sh i) (8 * size sh i) g ≡ set (part (offset sh i) (8 * size sh i) f) j y = ap (λ (k : ℕ). part o (8 * n) (set f k y))
          at ∙ part_set o (8 * n) f j y lj in
          let v : get_or (part (offset sh i) (8 * size sh i) f) j 0 ≡ get_or f p 0 = part_at o (8 * n) f j 0 lj ∙ ap (λ (k : ℕ). get_or f k 0) (sym at) in
          sum_off (words n b) (words n (set b j y)) (total_off n b j y d lj (omega arith) z s (rw v ap-art))
          (sym e ∙ ap (λ (q : List ℕ). sum (words n q)) m)

      pub in_body_lem : refuse BadSum i 0 ≡ first_of (file_tests g)
      in_body_lem =
          let e : p ≡ 8 + (count sh * 16 + (p - offset sh 0)) = omega (arith, below_0, after) in
          told (rw e (demand_body sh (p - offset sh 0))) i li
          (λ (k : ℕ) l. ap sum (body_below k (omega (arith, at, offset_next sh k, offset_up sh (suc k) i l))) ∙ known_sums f a k (omega arith) ∙ sym
          (sum_below k (omega (arith, after, below_0))))
          (λ q. body_moves (q ∙ sum_below i (omega (arith, after, below_0)) ∙ sym (known_sums f a i li)))

offset_0 : (sh : Shape) → offset sh 0 ≡ 8 + count sh * 16
unfolding offset
offset_0 sh = refl

-- ---- in which body a place lies
body_of_lem : (sh : Shape) (p n : ℕ) → offset sh 0 ≤ p → p < offset sh n → (i : ℕ) × (i < n) × (offset sh i ≤ p) × (p < offset sh i + 8 * size sh i)
body_of_lem sh p zero l h = absurd (omega arith)
body_of_lem sh p (suc n) l h =
    ⊎_elim
    (λ (k : offset sh n ≤ p). (n, omega arith, k, omega (arith, offset_next sh n)))
    (λ (k : p < offset sh n). let r = body_of_lem sh p n l k in (r.0, omega (arith, r.1), r.2, r.3))
    (le_or_lt (offset sh n) p)

-- ---- any bit of any byte
module _ (f : List ℕ) (a : FileAccepted f) (p k : ℕ) (lp : p < length f) (lk : k < 8) where
  byte_x : get_or f p 0 < 256
  byte_x = below_at 256 f a.small p lp

  few : 2 ^ k < 256
  few = pow-lt lk

  moved : Apart (2 ^ k) (get_or f p 0) (flip k (get_or f p 0))
  moved = flip_apart k (get_or f p 0) lk byte_x

  in_entry : 8 ≤ p → p < offset (shape_of f) 0 → Told (shape_of f) p (first_of (file_tests (flipped p k f)))
  in_entry past entry =
      let e : p ≡ 8 + ((p - 8) / 16 * 16 + (p - 8) % 16) = omega arith in
      let l : (p - 8) / 16 < count (shape_of f) = omega (arith, offset_0 (shape_of f)) in
      ⊎_elim
      (λ (h : 8 ≤ (p - 8) % 16).
      let e' : p ≡ 8 + ((p - 8) / 16 * 16 + (8 + ((p - 8) % 16 - 8))) = omega arith in
      let l' : (p - 8) % 16 - 8 < 8 = omega arith in
      in_sum ((p - 8) / 16) ((p - 8) % 16 - 8) l l' e'
      (sym (in_sum_lem f a p (flip k (get_or f p 0)) (2 ^ k) lp (pow_pos k) few moved past ((p - 8) / 16) ((p - 8) % 16 - 8) l l' e')))
      (λ (h : (p - 8) % 16 < 8).
      in_label ((p - 8) / 16) ((p - 8) % 16) l h e
      (sym (in_label_lem f a p (flip k (get_or f p 0)) (2 ^ k) lp (pow_pos k) few moved past ((p - 8) / 16) ((p - 8) % 16) l h e)))
      (le_or_lt 8 ((p - 8) % 16))

  not_done : p < 8 → (b : Bool) → is_done (first_of (layout_tests (flipped p k f))) ≡ b → b ≡ false
  not_done h true e =
      absurd
      (not_laid f a p (flip k (get_or f p 0)) (2 ^ k) lp (pow_pos k) few moved h
      (laid (flipped p k f) (clear (layout_tests (flipped p k f)) (layout_refuses (flipped p k f)) e)))
  not_done h false e = refl

  in_numbers_lem : p < 8 → Told (shape_of f) p (first_of (file_tests (flipped p k f)))
  in_numbers_lem h =
      let g = flipped p k f in
      let d : is_done (first_of (layout_tests (flipped p k f))) ≡ false = not_done h (is_done (first_of (layout_tests (flipped p k f)))) refl in
      let e : first_of (layout_tests (flipped p k f)) ≡ first_of (file_tests (flipped p k f)) = stops (layout_tests (flipped p k f))
      (sum_tests (flipped p k f)) _ refl d in
      in_numbers h (subst (λ (r : Answer). T (is_first_number (number_of r.refusal))) e (first_number (flipped p k f) d))

  -- which byte it is decides what is told
  pub flip_told : Told (shape_of f) p (first_of (file_tests (flipped p k f)))
  flip_told =
      ⊎_elim
      (λ (past : 8 ≤ p).
      ⊎_elim
      (λ (body : offset (shape_of f) 0 ≤ p).
      let r = body_of_lem (shape_of f) p (count (shape_of f)) body (omega (arith, long (shape_of f) f (known_layout f a).fits)) in
      let e : p ≡ offset (shape_of f) r.0 + (p - offset (shape_of f) r.0) = omega (arith, r.2) in
      let l : p - offset (shape_of f) r.0 < 8 * size (shape_of f) r.0 = omega (arith, r.2, r.3) in
      in_body r.0 (p - offset (shape_of f) r.0) r.1 l e
      (sym (in_body_lem f a p (flip k (get_or f p 0)) (2 ^ k) lp (pow_pos k) few moved past r.0 (p - offset (shape_of f) r.0) r.1 l e)))
      (λ (entry : p < offset (shape_of f) 0). in_entry past entry)
      (le_or_lt (offset (shape_of f) 0) p))
      (λ (h : p < 8). in_numbers_lem h)
      (le_or_lt 8 p)

-- "a file with any single bit flipped is refused"
told_refused : (sh : Shape) (p : ℕ) (r : Answer) → Told sh p r → is_done r ≡ false
told_refused sh p r (in_numbers h t) = go (number_of r.refusal) t
  where
    go : (n : ℕ) → T (is_first_number n) → eqb n 0 ≡ false
    go zero t = absurd t
    go (suc n) t = ne_eqb (suc n) 0 (λ e. omega arith)
told_refused sh p r (in_label i j li lj at e) = ap is_done e
told_refused sh p r (in_sum i j li lj at e) = ap is_done e
told_refused sh p r (in_body i j li lj at e) = ap is_done e

pub flip_refused : (f : List ℕ) → FileAccepted f → (p k : ℕ) → p < length f → k < 8 → is_done (first_of (file_tests (flipped p k f))) ≡ false
flip_refused f a p k lp lk = told_refused (shape_of f) p _ (flip_told f a p k lp lk)
