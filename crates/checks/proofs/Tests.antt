-- The code's tests, as the definitions of the checks say them, both ways.
use Prim.Native.Nat.{ℕ, ◌≤◌, ◌<◌}
use mathlib.Core.Path.{◌≡◌, refl, ap, ◌∙◌}
use mathlib.Core.Bool.{Bool, true, false, true≢false, not, cond, ◌&&◌, ◌||◌}
use mathlib.Core.List.{List, [], ◌∷◌}
use native.Mathlib.Omega.{arith}
use lib.Dec.{T, eqb, leb, ltb}
use lib.ListN.{length, get_or}
use borrow.Author.Tests.{eq-eqb, ne_eqb, eqb-false, lt-ltb, le-ltb, le-leb, lt-leb, ltb-true, ltb-false}
use Rattle.std.specs.Prelude.{Option, Some, None, Result, Ok}
use Rattle.std.specs.List.{position}
use Rattle.lists.specs.Lists.{first_bad, some_bad}
use Rattle.lists.proofs.Position.{place_is}
use Rattle.lists.proofs.Scan.{all_pass, pass_all}
use Rattle.answer.specs.Answer.{refuse}
use Rattle.answer.specs.Checks.{first_fault}
use Rattle.answer.specs.declared.Answer.{Answer}
use Rattle.answer.specs.declared.Refusal.{Refusal}
use Rattle.answer.proofs.Checks.{faulty, faultless, unfaulted}
use Rattle.checks.specs.inner.Parts.{refused_at}

pub or_false : (a b : Bool) → (a || b) ≡ false → (a ≡ false) × (b ≡ false)
or_false true b h = absurd (true≢false h)
or_false false b h = (refl, h)

positive : (n : ℕ) → (n ≡ 0 → ⊥) → 0 < n
positive n h = omega (arith, h)

-- ---- a count that is neither 0 nor above the most
pub in_range_lem : (n most : ℕ) → (eqb n 0 || ltb most n) ≡ false → (0 < n) × (n ≤ most)
in_range_lem n most h =
    let p = or_false (eqb n 0) (ltb most n) h in
    (positive n (eqb-false n 0 p.0), ltb-false most n p.1)

pub ranged : (n most : ℕ) → 0 < n → n ≤ most → (eqb n 0 || ltb most n) ≡ false
ranged n most h k = rw (ne_eqb n 0 (λ e. omega arith)) (le-ltb most n k)

-- ---- a sample where one is needed
pub needs_one : (b : Bool) (n : ℕ) → (b && eqb n 0) ≡ false → T b → 0 < n
needs_one true n h t = positive n (eqb-false n 0 h)
needs_one false n h t = absurd t

pub needs_none : (b : Bool) (n : ℕ) → (T b → 0 < n) → (b && eqb n 0) ≡ false
needs_none true n h = let k = h tt in ne_eqb n 0 (λ e. omega arith)
needs_none false n h = refl

-- ---- a length
pub differ : (a b : ℕ) → (a ≡ b → ⊥) → not (eqb a b) ≡ true
differ a b h = ap not (ne_eqb a b h)

pub agree : (a b : ℕ) → a ≡ b → not (eqb a b) ≡ false
agree a b e = ap not (eq-eqb a b e)

-- ---- the elements of a list
pub is_true : (b : Bool) → T b → b ≡ true
is_true true h = refl
is_true false h = absurd h

module _ {A : Type 0} (p : A → Bool) (xs : List A) where
  -- i is the first place that fails the test: within the list some element fails, and past it none does
  pub some_bad_lem : (i : ℕ) → i ≡ first_bad p xs → i < length xs → some_bad p xs ≡ true
  some_bad_lem i is h = lt-ltb _ _ (rw is at h)

  pub none_bad : (i : ℕ) → i ≡ first_bad p xs → length xs ≤ i → some_bad p xs ≡ false
  none_bad i is h = le-ltb _ _ (rw is at h)

  -- no element fails the test: each passes it
  pub every : (d : A) → some_bad p xs ≡ false → (i : ℕ) → i < length xs → T (p (get_or xs i d))
  every d h i l = rw (all_pass p d xs (ltb-false _ _ h) i l) tt

  pub no_bad : (d : A) → ((i : ℕ) → i < length xs → T (p (get_or xs i d))) → some_bad p xs ≡ false
  no_bad d h = le-ltb _ _ (pass_all p d xs (λ (i : ℕ) l. is_true _ (h i l)))

  -- nor does any below the list's end, said both ways
  pub none_below : (i : ℕ) → length xs ≤ i → i ≤ length xs → leb i (first_bad p xs) ≡ not (some_bad p xs)
  none_below i h k = go (some_bad p xs) refl
    where
      go : (b : Bool) → some_bad p xs ≡ b → leb i (first_bad p xs) ≡ not b
      go true e = let l = ltb-true (first_bad p xs) (length xs) e in lt-leb i (first_bad p xs) (omega arith)
      go false e = let l = ltb-false (first_bad p xs) (length xs) e in le-leb i (first_bad p xs) (omega arith)

-- ---- the first bad place of a list, refused where there is one, is its one test
module _ {A : Type 0} (r : Refusal) (table : ℕ) (good : A → Bool) (xs : List A) where
  abbrev answer : Answer
  answer = refuse r table (first_bad good xs)

  go : (b : Bool) → some_bad good xs ≡ b → refused_at r table (cond b (Some (first_bad good xs)) None) ≡ first_fault ((some_bad good xs, answer) ∷ [])
  go true e = faulty (some_bad good xs) answer answer [] e refl
  go false e = faultless (some_bad good xs) answer [] (Ok tt) e unfaulted

  pub one_place : {place : Option ℕ} {told : Result Unit Answer} → place ≡ position (λ (x : A). not (good x)) xs → told ≡ refused_at r table place
      → told ≡ first_fault ((some_bad good xs, answer) ∷ [])
  one_place p t = t ∙ ap (refused_at r table) (p ∙ place_is good xs) ∙ go (some_bad good xs) refl
