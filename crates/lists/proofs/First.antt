-- Laws of the first number that passes a test, a turn of a search at a time.
use Prim.Native.Nat.{ℕ, zero, suc, ◌+◌, ◌≤◌, ◌<◌}
use native.Mathlib.Nat.{lt-suc_self, le_of_eq, le_antisymm, not-suc-le-zero, eq-or-lt_of_le, le_of_suc-le-suc}
use native.Mathlib.Numerals.{add-one}
use native.Mathlib.Omega.{arith}
use mathlib.Core.Path.{◌≡◌, refl, sym, ap, ◌∙◌}
use mathlib.Core.Logic.{⊎_elim}
use mathlib.Core.Bool.{Bool, true, false, true≢false, cond}
use borrow.Author.Tests.{le-ltb, ltb-true, ltb-false}
use lib.Dec.{ltb}
use Rattle.lists.specs.First.{first}
use Rattle.lists.proofs.Places.{at_most}

module _ (test : ℕ → Bool) where
  -- v is the first below n that passes the test, or n
  record Found (n v : ℕ) : Type 0 where
    within : v ≤ n
    before : (k : ℕ) → k < v → test k ≡ false
    there : v < n → test v ≡ true

  -- one turn of the search: v is what it found below n
  turn : (n v : ℕ) (b t : Bool) → (b ≡ true → v < n) → (b ≡ false → n ≤ v) → test n ≡ t → Found n v
      → Found (suc n) (cond b v (cond t n (suc n)))
  turn n v true t f g e h = record { within = omega (arith, h.within); before = h.before; there = λ _. h.there (f refl) }
  turn n v false true f g e h =
      record { within = omega arith; before = λ k l. h.before k (omega (arith, g refl)); there = λ _. e }
  turn n v false false f g e h =
      record {
        within = omega arith;
        before = λ k l.
            ⊎_elim (λ (i : k ≡ n). ap test i ∙ e) (λ (i : k < n). h.before k (omega (arith, g refl))) (eq-or-lt_of_le (le_of_suc-le-suc l));
        there = λ l. absurd (let z : suc n < suc n = l in omega arith);
      }

  found : (n : ℕ) → Found n (first test n)
  unfolding first
  found zero = record { within = omega arith; before = λ k l. absurd (not-suc-le-zero l); there = λ l. absurd (not-suc-le-zero l) }
  found (suc n) = turn n (first test n) (ltb (first test n) n) (test n) (ltb-true _ _) (ltb-false _ _) refl (found n)

  -- where none is found, none passes
  pub first_all : (n : ℕ) → n ≤ first test n → (k : ℕ) → k < n → test k ≡ false
  first_all n h k l = (found n).before k (omega arith)

  -- where one is found, it passes, and none before it
  pub passes_there : (n : ℕ) → first test n < n → test (first test n) ≡ true
  passes_there n h = (found n).there h

  pub passes_first : (n q : ℕ) → q < n → test q ≡ true → first test n ≤ q
  passes_first n q h k = at_most _ q (λ (g : q < first test n). true≢false (sym k ∙ (found n).before q g))

  -- a search that has met none below i
  pub first_none : first test 0 ≡ 0
  unfolding first
  first_none = refl

  pub first_more : (i : ℕ) → first test i ≡ i → test i ≡ false → first test (i + 1) ≡ i + 1
  unfolding first
  first_more i e h = rw (add-one, e, le-ltb i i (omega arith), h)

  pub first_stop : (i n : ℕ) → first test i ≡ i → test i ≡ true → i < n → i ≡ first test n
  first_stop i n e h l =
      le_antisymm
      (at_most i _ (λ (g : first test n < i). true≢false (sym (passes_there n (omega arith)) ∙ first_all i (le_of_eq (sym e)) _ g)))
      (passes_first n i l h)

-- the test matters below n only
pub first_same : (n : ℕ) (f g : ℕ → Bool) → ((k : ℕ) → k < n → f k ≡ g k) → first f n ≡ first g n
unfolding first
first_same zero f g h = refl
first_same (suc n) f g h = rw (first_same n f g (λ k l. h k (omega arith)), h n (lt-suc_self n))
