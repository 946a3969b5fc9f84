-- What is known of a file in which no test finds fault, and what is to be known for that.
use Prim.Native.Nat.{ℕ, zero, suc, ◌≤◌, ◌<◌}
use mathlib.Core.Path.{◌≡◌, refl, sym, ap, ◌∙◌}
use mathlib.Core.Bool.{Bool, true, false, not}
use mathlib.Core.List.{List, [], ◌∷◌}
use mathlib.Core.Logic.{⊎_elim}
use native.Mathlib.Nat.{not-suc-le-zero, eq-or-lt_of_le, le_of_suc-le-suc, lt-suc_self}
use native.Mathlib.Omega.{arith}
use lib.ListN.{length}
use borrow.Author.Tests.{eqb-true, eq-eqb, ltb-false, le-ltb, not-false}
use Rattle.lists.specs.Lists.{tab}
use Rattle.little_endian.specs.Bytes.{sum}
use Rattle.answer.specs.Answer.{is_done, refuse}
use Rattle.std.specs.Prelude.{Ok, Err}
use Rattle.answer.specs.Checks.{Tests, first_of, first_fault}
use Rattle.answer.proofs.Checks.{Clear, Refuses, clear, clear_both, clear_left, clear_right, all_clear, as_fault, finds, goes_on, refuse_both, stops, passes}
use Rattle.model.specs.Accepted.{InRange}
use Rattle.checks.specs.Checks.{shape_tests}
use Rattle.checks.proofs.Shapes.{shape_clear, shape_in_range}
use Rattle.checks.proofs.Slots.{shape_refuses}
use Rattle.file_layout.specs.Checks.{pattern, first_wrong, some_wrong, layout_tests, sum_test, sum_tests, file_tests}
use Rattle.file_layout.specs.Layout.{count}
use Rattle.file_layout.specs.Reading.{body_of, shape_of, sum_of}
use Rattle.file_layout.specs.inner.Whole.{FileAccepted}
use Rattle.file_layout.proofs.Fits.{Fits, fits_of, of_fits}
use Rattle.answer.specs.declared.Answer.{Answer}
use Rattle.answer.specs.declared.Refusal.TheVariants.{BadLayout}

-- tests by a rule
pub tab_clear : (n : ℕ) (t : ℕ → Bool × Answer) → Clear (tab n t) → (i : ℕ) → i < n → (t i).0 ≡ false
unfolding tab
tab_clear zero t c i l = absurd (not-suc-le-zero l)
tab_clear (suc n) t c i l =
    ⊎_elim
    (λ (e : i ≡ n). rw e (unfold Clear in (clear_right (tab n t) (t n ∷ []) c).0))
    (λ (k : i < n). tab_clear n t (clear_left (tab n t) (t n ∷ []) c) i k)
    (eq-or-lt_of_le (le_of_suc-le-suc l))

pub clear_tab : (n : ℕ) (t : ℕ → Bool × Answer) → ((i : ℕ) → i < n → (t i).0 ≡ false) → Clear (tab n t)
unfolding tab
clear_tab zero t h = unfold Clear in tt
clear_tab (suc n) t h = clear_both (tab n t) (t n ∷ []) (clear_tab n t (λ i l. h i (omega arith))) (unfold Clear in (h n (lt-suc_self n), tt))

-- the first of tests by a rule that finds fault
pub tab_first : (n i : ℕ) (t : ℕ → Bool × Answer) → i < n → ((j : ℕ) → j < i → (t j).0 ≡ false) → (t i).0 ≡ true → is_done (t i).1 ≡ false
    → (t i).1 ≡ first_of (tab n t)
unfolding tab
tab_first zero i t l h b d = absurd (not-suc-le-zero l)
tab_first (suc n) i t l h b d =
    ⊎_elim
    (λ (e : i ≡ n). goes_on (tab n t) (t n ∷ []) (t i).1 (last e) (clear_tab n t (λ (j : ℕ) k. h j (omega arith))))
    (λ (k : i < n). stops (tab n t) (t n ∷ []) (t i).1 (tab_first n i t k h b d) d)
    (eq-or-lt_of_le (le_of_suc-le-suc l))
  where
    last : i ≡ n → (t i).1 ≡ first_of (t n ∷ [])
    last e = rw e (finds (t n).0 (t n).1 [] (t n).1 (rw e at b) refl)

module _ (n : ℕ) (t : ℕ → Bool × Answer) where
  -- a loop over tests by a rule: none below i finds fault
  pub record Cleared (i : ℕ) : Type 0 where
    pub within : i ≤ n
    pub none : (j : ℕ) → j < i → (t j).0 ≡ false

  pub cleared_stop : (i : ℕ) (r : Answer) → Cleared i → i < n → (t i).0 ≡ true → is_done (t i).1 ≡ false → r ≡ (t i).1
      → Err r ≡ first_fault (tab n t)
  cleared_stop i r c l h d e = as_fault (tab n t) r (e ∙ tab_first n i t l c.none h d) (ap is_done e ∙ d)

  pub cleared_all : (i : ℕ) → Cleared i → n ≤ i → Ok tt ≡ first_fault (tab n t)
  cleared_all i c l = sym (all_clear (tab n t) (clear_tab n t (λ (j : ℕ) k. c.none j (omega arith))))

-- each test has a refusal to give
pub layout_refuses : (f : List ℕ) → Refuses (layout_tests f)
unfolding layout_tests
layout_refuses f = (tt, refuse_both (shape_tests (shape_of f)) _ (shape_refuses (shape_of f)) (tt, tt))

pub tab_refuses : (n : ℕ) (t : ℕ → Bool × Answer) → ((i : ℕ) → Refuses (t i ∷ [])) → Refuses (tab n t)
unfolding tab
tab_refuses zero t h = tt
tab_refuses (suc n) t h = refuse_both (tab n t) (t n ∷ []) (tab_refuses n t h) (h n)

pub sums_refuse : (f : List ℕ) → Refuses (sum_tests f)
unfolding sum_tests
sums_refuse f = tab_refuses (count (shape_of f)) (sum_test f) (λ (i : ℕ). (tt, tt))

module _ (f : List ℕ) where
  pub file_refuses : Refuses (file_tests f)
  file_refuses = refuse_both (layout_tests f) (sum_tests f) (layout_refuses f) (sums_refuse f)

  pub accepted_clear : FileAccepted f → Clear (file_tests f)
  accepted_clear a = clear (file_tests f) file_refuses a.done

  -- 1, 2 and 13
  pub layout_clear : 8 ≤ length f → InRange (shape_of f) → Fits (pattern (shape_of f)) f → Clear (layout_tests f)
  unfolding Clear layout_tests
  layout_clear l r fit =
      (le-ltb _ _ l, clear_both (shape_tests (shape_of f)) _ (shape_clear (shape_of f) r) (of_fits _ f fit, tt))

  pub record Laid : Type 0 where
    pub enough : 8 ≤ length f
    pub in_range : InRange (shape_of f)
    pub fits : Fits (pattern (shape_of f)) f

  pub laid : Clear (layout_tests f) → Laid
  unfolding Clear layout_tests
  laid c =
      let shape = shape_tests (shape_of f) in
      record {
        enough = ltb-false _ _ c.0;
        in_range = shape_in_range (shape_of f) (clear_left shape _ c.1);
        fits = fits_of _ f (clear_right shape _ c.1).0;
      }

  -- 14
  pub sums_clear : ((i : ℕ) → i < count (shape_of f) → sum (body_of f i) ≡ sum_of f i) → Clear (sum_tests f)
  unfolding sum_tests
  sums_clear h = clear_tab (count (shape_of f)) (sum_test f) (λ i l. ap not (eq-eqb _ _ (h i l)))

  pub summed : Clear (sum_tests f) → (i : ℕ) → i < count (shape_of f) → sum (body_of f i) ≡ sum_of f i
  unfolding sum_tests
  summed c i l = eqb-true _ _ (not-false _ (tab_clear (count (shape_of f)) (sum_test f) c i l))

-- the layout's test answers, at q, where the first numbers give a shape
pub layout_wrong : (g : List ℕ) (q : ℕ) → 8 ≤ length g → InRange (shape_of g) → first_wrong (pattern (shape_of g)) g ≡ q
    → some_wrong (pattern (shape_of g)) g ≡ true
    → refuse BadLayout 0 q ≡ first_of (file_tests g)
unfolding layout_tests
layout_wrong g q l r e w =
    let wrong : Tests = (some_wrong (pattern (shape_of g)) g, refuse BadLayout 0 (first_wrong (pattern (shape_of g)) g)) ∷ [] in
    let layout = goes_on (shape_tests (shape_of g)) wrong (refuse BadLayout 0 q) (finds _ _ _ _ w (ap (refuse BadLayout 0) (sym e)))
    (shape_clear (shape_of g) r) in
    stops (layout_tests g) (sum_tests g) _ (passes _ _ _ _ (le-ltb _ _ l) layout) refl
