-- A file with bytes missing at its end, or left over: refused at the shorter length.
use Prim.Native.Nat.{ℕ, ◌+◌, ◌≤◌, ◌<◌}
use mathlib.Core.Path.{◌≡◌, refl, sym, ap, ◌∙◌}
use mathlib.Core.Bool.{Bool, true, false, ◌||◌}
use mathlib.Core.List.{List, ◌++◌}
use mathlib.Core.Logic.{⊎_elim}
use native.Mathlib.Omega.{arith}
use lib.Dec.{eqb, ltb}
use lib.ListN.{length, take, drop, length-append, length-drop, get_or-append}
use lib.Seq.{length-take-le, get_or-take, take-append-le, drop-append-le}
use borrow.Author.Tests.{lt-ltb}
use Rattle.lists.proofs.Parts.{le_or_lt, part_part}
use Rattle.little_endian.specs.Bytes.{value}
use Rattle.answer.specs.Answer.{refuse}
use Rattle.answer.specs.Checks.{first_of}
use Rattle.answer.proofs.Checks.{finds}
use Rattle.file_layout.specs.Checks.{file_tests, first_wrong, layout_tests, pattern}
use Rattle.file_layout.specs.Reading.{shape_of}
use Rattle.file_layout.specs.inner.Whole.{FileAccepted}
use Rattle.file_layout.proofs.Bounds.{shape_same}
use Rattle.file_layout.proofs.Accepting.{layout_wrong}
use Rattle.file_layout.proofs.Fits.{Fits, fits_length, wrong_more, wrong_take}
use Rattle.file_laws.proofs.Written.{known_layout}
use Rattle.answer.specs.declared.Refusal.TheVariants.{BadLayout}

or_right : (a b : Bool) → b ≡ true → (a || b) ≡ true
or_right true b h = refl
or_right false b h = h

module _ (f : List ℕ) (a : FileAccepted f) where
  fit : Fits (pattern (shape_of f)) f
  fit = (known_layout f a).fits

  -- ---- bytes missing
  module _ (k : ℕ) (lk : k < length f) where
    length_cut : length (take k f) ≡ k
    length_cut = length-take-le k f (omega arith)

    cut_shape : 8 ≤ k → shape_of (take k f) ≡ shape_of f
    unfolding shape_of
    cut_shape h =
        shape_same (shape_of (take k f)) (shape_of f) (ap value (part_part 0 2 0 k f (omega arith))) (ap value (part_part 2 2 0 k f (omega arith)))
        (ap (λ (b : ℕ). eqb b 1) (get_or-take k f 4 0 (omega arith)))

    cut_long : 8 ≤ k → refuse BadLayout 0 k ≡ first_of (file_tests (take k f))
    cut_long h =
        let e : first_wrong (pattern (shape_of (take k f))) (take k f) ≡ k = rw (cut_shape h) (wrong_take (pattern (shape_of f)) f k fit lk) in
        let b : first_wrong (pattern (shape_of (take k f))) (take k f) < length (pattern (shape_of (take k f))) = rw (e, cut_shape h)
        (omega (arith, fits_length (pattern (shape_of f)) f fit)) in
        layout_wrong (take k f) k (omega (arith, length_cut)) (rw (cut_shape h) (known_layout f a).in_range) e
        (ap (λ (t : Bool). t || ltb (first_wrong (pattern (shape_of (take k f))) (take k f)) (length (take k f))) (lt-ltb _ _ b))

    cut_short : k < 8 → refuse BadLayout 0 k ≡ first_of (file_tests (take k f))
    unfolding layout_tests
    cut_short h = finds _ _ _ _ (lt-ltb (length (take k f)) 8 (omega (arith, length_cut))) (ap (refuse BadLayout 0) (sym length_cut))

    pub cut_refused : first_of (file_tests (take k f)) ≡ refuse BadLayout 0 k
    cut_refused = sym (⊎_elim cut_long cut_short (le_or_lt 8 k))

  -- ---- bytes left over
  module _ (e : List ℕ) (le : 0 < length e) where
    more_shape : shape_of (f ++ e) ≡ shape_of f
    unfolding shape_of
    more_shape =
        let n = (known_layout f a).enough in
        shape_same (shape_of (f ++ e)) (shape_of f) (ap value (take-append-le 2 f e (omega arith)))
        (ap value (ap (take 2) (drop-append-le 2 f e (omega arith)) ∙ take-append-le 2 (drop 2 f) e (rw length-drop (omega arith))))
        (ap (λ (b : ℕ). eqb b 1) (get_or-append f e 0 4 (omega arith)))

    pub more_refused : first_of (file_tests (f ++ e)) ≡ refuse BadLayout 0 (length f)
    more_refused =
        let n = (known_layout f a).enough in
        let l : length (f ++ e) ≡ length f + length e = length-append f e in
        let w : first_wrong (pattern (shape_of (f ++ e))) (f ++ e) ≡ length f = rw more_shape (wrong_more (pattern (shape_of f)) f e fit) in
        let b : first_wrong (pattern (shape_of (f ++ e))) (f ++ e) < length (f ++ e) = rw w (omega arith) in
        sym (layout_wrong (f ++ e) (length f) (omega arith) (rw more_shape (known_layout f a).in_range) w
        (or_right (ltb (first_wrong (pattern (shape_of (f ++ e))) (f ++ e)) (length (pattern (shape_of (f ++ e))))) _ (lt-ltb _ _ b)))
