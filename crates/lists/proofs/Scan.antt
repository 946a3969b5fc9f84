-- The first place that fails a test: what a loop that looks for it knows at place i, and what it has found when it stops.
use Prim.Native.Nat.{ℕ, zero, suc, ◌+◌, ◌-◌, ◌≤◌, ◌<◌, suc-le-suc}
use mathlib.Core.Path.{◌≡◌, refl, sym, ap, ◌∙◌, subst}
use mathlib.Core.Bool.{Bool, true, false, true≢false, cond, ◌&&◌}
use mathlib.Core.List.{List, [], ◌∷◌}
use native.Mathlib.Numerals.{add-one}
use native.Mathlib.Nat.{zero-add, le_of_eq, not-suc-le-zero, le_of_suc-le-suc}
use native.Mathlib.Omega.{arith}
use lib.Dec.{leb, ltb}
use borrow.Author.Tests.{leb-true, leb-false, le-ltb, ltb-false}
use lib.ListN.{length, get_or, take, drop, length-drop, drop_of_length-le}
use lib.Seq.{take_all, drop-cons, drop-drop}
use Rattle.lists.specs.Lists.{first_bad, some_bad}
use Rattle.lists.proofs.Places.{at_most}

suc_test : (a b : ℕ) → ltb (suc a) (suc b) ≡ false → ltb a b ≡ false
suc_test a b e = let h = ltb-false (suc a) (suc b) e in le-ltb a b (omega arith)

module _ {A : Type 0} (p : A → Bool) (xs : List A) where
  -- every element below i passes the test
  pub record Passed (i : ℕ) : Type 0 where
    pub within : i ≤ length xs
    pub rest : first_bad p xs ≡ i + first_bad p (drop i xs)

  pub passed_none : Passed 0
  passed_none = record { within = omega arith; rest = sym (zero-add _) }

  step : (i : ℕ) (d : A) → i < length xs → first_bad p (drop i xs) ≡ cond (p (get_or xs i d)) (suc (first_bad p (drop (i + 1) xs))) 0
  unfolding first_bad
  step i d h = rw (add-one, drop-cons xs i d)

  pub passed_more : (i : ℕ) (d : A) → Passed i → i < length xs → p (get_or xs i d) ≡ true → Passed (i + 1)
  passed_more i d inv h t =
      let s : first_bad p (drop i xs) ≡ suc (first_bad p (drop (i + 1) xs)) = rw t at (step i d h) in
      record { within = omega arith; rest = omega arith }

  pub passed_stop : (i : ℕ) (d : A) → Passed i → i < length xs → p (get_or xs i d) ≡ false → i ≡ first_bad p xs
  passed_stop i d inv h t =
      let s : first_bad p (drop i xs) ≡ 0 = rw t at (step i d h) in
      omega arith

  pub passed_all : (i : ℕ) → Passed i → length xs ≤ i → i ≡ first_bad p xs
  unfolding first_bad
  passed_all i inv h =
      let s : first_bad p (drop i xs) ≡ 0 = rw (drop_of_length-le xs h) in
      omega arith

  -- ---- a part of the list, looked at as one
  skip : (n : ℕ) (ys : List A) → n ≤ length ys → some_bad p (take n ys) ≡ false → first_bad p ys ≡ n + first_bad p (drop n ys)
  unfolding first_bad
  skip zero ys h k = sym (zero-add _)
  skip (suc n) [] h k = absurd (not-suc-le-zero h)
  skip (suc n) (y ∷ ys) h k = go (p y) (skip n ys (le_of_suc-le-suc h)) k
    where
      v : ℕ
      v = first_bad p (take n ys)

      go :
          (b : Bool) → (some_bad p (take n ys) ≡ false → first_bad p ys ≡ n + first_bad p (drop n ys)) →
          ltb (cond b (suc v) 0) (suc (length (take n ys))) ≡ false → cond b (suc (first_bad p ys)) 0 ≡ suc n + first_bad p (drop n ys)
      go true more e = let s = more (suc_test v (length (take n ys)) e) in omega arith
      go false more e = absurd (not-suc-le-zero (ltb-false 0 (suc (length (take n ys))) e))

  pub passed_part : (i j : ℕ) → Passed i → i ≤ j → j ≤ length xs → some_bad p (take (j - i) (drop i xs)) ≡ false → Passed j
  passed_part i j inv h k e =
      let long : j - i ≤ length (drop i xs) = rw (length-drop i xs) (omega arith) in
      let there : i + (j - i) ≡ j = omega arith in
      let end : drop (j - i) (drop i xs) ≡ drop j xs = drop-drop (j - i) i xs ∙ ap (λ (n : ℕ). drop n xs) there in
      let s : first_bad p (drop i xs) ≡ j - i + first_bad p (drop j xs) = rw end at (skip (j - i) (drop i xs) long e) in
      record { within = k; rest = omega arith }

  -- what is found in the elements from i on
  pub passed_rest : (i v : ℕ) → Passed i → v ≡ first_bad p (take (length xs - i) (drop i xs)) → i + v ≡ first_bad p xs
  passed_rest i v inv e =
      let all = take_all (length xs - i) (drop i xs) (le_of_eq (length-drop i xs)) in
      let s : v ≡ first_bad p (drop i xs) = rw all at e in
      omega arith

-- ---- what the first place that fails is; d is what is read past the end
module _ {A : Type 0} (good : A → Bool) (d : A) where
  -- v is the first place of xs whose element fails the test, or the length
  record Scanned (xs : List A) (v : ℕ) : Type 0 where
    within : v ≤ length xs
    before : (i : ℕ) → i < v → good (get_or xs i d) ≡ true
    there : v < length xs → good (get_or xs v d) ≡ false

  none_before : (i : ℕ) → i < 0 → ⊥
  none_before i l = omega arith

  turn : (x : A) (xs : List A) (v : ℕ) (b : Bool) → good x ≡ b → Scanned xs v → Scanned (x ∷ xs) (cond b (suc v) 0)
  turn x xs v true e h = record { within = suc-le-suc h.within; before = passed; there = λ l. h.there (le_of_suc-le-suc l) }
    where
      passed : (i : ℕ) → i < suc v → good (get_or (x ∷ xs) i d) ≡ true
      passed zero l = e
      passed (suc i) l = h.before i (le_of_suc-le-suc l)
  turn x xs v false e h = record { within = omega arith; before = λ i l. absurd (none_before i l); there = λ l. e }

  scanned : (xs : List A) → Scanned xs (first_bad good xs)
  unfolding first_bad
  scanned [] = record { within = omega arith; before = λ i l. absurd (none_before i l); there = λ l. absurd (not-suc-le-zero l) }
  scanned (x ∷ xs) = turn x xs (first_bad good xs) (good x) refl (scanned xs)

  pub first_within : (xs : List A) → first_bad good xs ≤ length xs
  first_within xs = (scanned xs).within

  -- where it is not below the length, every element passes
  pub all_pass : (xs : List A) → length xs ≤ first_bad good xs → (i : ℕ) → i < length xs → good (get_or xs i d) ≡ true
  all_pass xs h i l = (scanned xs).before i (omega arith)

  -- and where every element passes, it is not
  pub pass_all : (xs : List A) → ((i : ℕ) → i < length xs → good (get_or xs i d) ≡ true) → length xs ≤ first_bad good xs
  pass_all xs h =
      at_most _ _ (λ (g : first_bad good xs < length xs). true≢false (sym (h (first_bad good xs) g) ∙ (scanned xs).there g))

  -- the element there fails, and no earlier one does
  pub bad_there : (xs : List A) → first_bad good xs < length xs → good (get_or xs (first_bad good xs) d) ≡ false
  bad_there xs h = (scanned xs).there h

  pub bad_first : (xs : List A) (q : ℕ) → q < length xs → good (get_or xs q d) ≡ false → first_bad good xs ≤ q
  bad_first xs q h k = at_most _ q (λ (g : q < first_bad good xs). true≢false (sym ((scanned xs).before q g) ∙ k))

  -- no element below i fails and the one there passes: none below i + 1 fails
  pub reaches_more : (xs : List A) (i : ℕ) → i < length xs → (leb i (first_bad good xs) && good (get_or xs i d)) ≡ leb (i + 1) (first_bad good xs)
  reaches_more xs i l = go (leb i v) (leb (i + 1) v) refl refl
    where
      v : ℕ
      v = first_bad good xs

      there : v ≡ i → good (get_or xs i d) ≡ false
      there e = subst (λ (j : ℕ). good (get_or xs j d) ≡ false) e ((scanned xs).there (omega arith))

      go : (a b : Bool) → leb i v ≡ a → leb (i + 1) v ≡ b → (a && good (get_or xs i d)) ≡ b
      go true true e f = let k = leb-true (i + 1) v f in (scanned xs).before i (omega arith)
      go true false e f = let h = leb-true i v e in let k = leb-false (i + 1) v f in there (omega arith)
      go false true e f = let h = leb-false i v e in let k = leb-true (i + 1) v f in absurd (omega arith)
      go false false e f = refl
