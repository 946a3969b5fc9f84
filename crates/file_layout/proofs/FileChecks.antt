-- The checks of a file in their order, by what the code found of the shape that it read.
use Prim.Native.Nat.{ℕ, ◌≤◌, ◌<◌}
use mathlib.Core.Path.{◌≡◌, sym, ap, ◌∙◌, subst}
use mathlib.Core.Bool.{Bool, true, false, true≢false}
use mathlib.Core.List.{List, append_assoc}
use lib.ListN.{length}
use borrow.Author.Tests.{lt-ltb, le-ltb}
use Rattle.answer.specs.Answer.{is_done, refuse}
use Rattle.std.specs.Prelude.{Result, Ok, Err, is_err}
use Rattle.answer.specs.Checks.{first_fault}
use Rattle.answer.proofs.Checks.{all_clear, as_fault, faulty, faultless, fault_stops, fault_goes_on, passed}
use Rattle.model.specs.Accepted.{InRange}
use Rattle.checks.specs.Checks.{shape_tests}
use Rattle.checks.proofs.Shapes.{shape_in_range}
use Rattle.file_layout.specs.Checks.{file_tests, first_wrong, layout_tests, pattern, some_wrong, sum_tests}
use Rattle.file_layout.specs.Reading.{shape_of}
use Rattle.file_layout.specs.inner.Whole.{Whole}
use Rattle.file_layout.proofs.Accepting.{layout_clear, layout_wrong}
use Rattle.file_layout.proofs.Fits.{fits_length, fits_of}
use Rattle.file_layout.proofs.Whole.{length_pattern}
use Rattle.answer.specs.declared.Answer.{Answer}
use Rattle.answer.specs.declared.Refusal.TheVariants.{BadLayout}
use Rattle.model.specs.declared.Shape.{Shape}

module _ (f : List ℕ) (r : Answer) where
  pub file_short : length f < 8 → r ≡ refuse BadLayout 0 (length f) → Err r ≡ first_fault (file_tests f)
  unfolding layout_tests
  file_short h e = faulty _ _ _ _ (lt-ltb (length f) 8 h) e

  module _ (sh : Shape) (own : sh ≡ shape_of f) (l : 8 ≤ length f) where
    pub file_shape : Err r ≡ first_fault (shape_tests sh) → Err r ≡ first_fault (file_tests f)
    unfolding layout_tests
    file_shape from =
        let own-from : Err r ≡ first_fault (shape_tests (shape_of f)) = from ∙ ap (λ (s : Shape). first_fault (shape_tests s)) own in
        faultless _ _ _ _ (le-ltb _ _ l)
        (fault_stops (shape_tests (shape_of f)) _ r (sym own-from) ∙ ap first_fault (sym (append_assoc (shape_tests (shape_of f)) _ (sum_tests f))))

    -- the layout's test is one of the shape that was read
    wrong_is : (b : Bool) → some_wrong (pattern sh) f ≡ b → some_wrong (pattern (shape_of f)) f ≡ b
    wrong_is b e = ap (λ (s : Shape). some_wrong (pattern s) f) (sym own) ∙ e

    pub file_layout : InRange sh → (place : ℕ) → some_wrong (pattern sh) f ≡ true → place ≡ first_wrong (pattern sh) f
        → r ≡ refuse BadLayout 0 place → Err r ≡ first_fault (file_tests f)
    file_layout i place wrong e q =
        as_fault (file_tests f) r
        (q ∙ layout_wrong f place l (subst InRange own i) (ap (λ (s : Shape). first_wrong (pattern s) f) (sym own) ∙ sym e) (wrong_is true wrong))
        (ap is_done q)

    pub file_whole : InRange sh → some_wrong (pattern sh) f ≡ false → Whole sh f
    file_whole i right =
        record { own = own; in_range = i; long = fits_length (pattern sh) f (fits_of (pattern sh) f right) ∙ length_pattern sh }

    pub file_sums : InRange sh → some_wrong (pattern sh) f ≡ false → {q : Result Unit Answer} → q ≡ first_fault (sum_tests f)
        → q ≡ first_fault (file_tests f)
    file_sums i right {q} e =
        let clear = layout_clear f l (subst InRange own i) (fits_of (pattern (shape_of f)) f (wrong_is false right)) in
        fault_goes_on (layout_tests f) (sum_tests f) tt q (all_clear (layout_tests f) clear) e

-- 1 and 2 are passed
pub file_range : (sh : Shape) {u : Unit} → Ok u ≡ first_fault (shape_tests sh) → InRange sh
file_range sh {u} e = shape_in_range sh (passed (shape_tests sh) u (sym e))

-- the same by whether the code's check is a refusal
pub range_by : (sh : Shape) (r : Result Unit Answer) → r ≡ first_fault (shape_tests sh) → is_err r ≡ false → InRange sh
range_by sh (Ok u) e h = file_range sh e
range_by sh (Err x) e h = absurd (true≢false h)
