-- Laws of parts of a list, and of lists of any lengths laid one after the other.
use Prim.Native.Nat.{ℕ, zero, suc, ◌+◌, ◌-◌, ◌≤◌, ◌<◌}
use mathlib.Core.Path.{◌≡◌, refl, sym, ap, ap₂, ◌∙◌}
use mathlib.Core.List.{List, [], ◌∷◌, ◌++◌, append_assoc}
use mathlib.Core.Bool.{Bool, true, false}
use mathlib.Core.Logic.{◌⊎◌, inl, inr, ⊎_elim}
use lib.Dec.{ltb}
use borrow.Author.Tests.{ltb-true, ltb-false}
use native.Mathlib.Nat.{zero-add, suc-add, not-suc-le-zero, eq-or-lt_of_le, le_of_suc-le-suc, lt-suc_self}
use native.Mathlib.Omega.{arith}
use lib.ListN.{length, take, drop, set, length-append}
use lib.Seq.{take_at, drop_at, drop-drop, take-add, take-take, take-set-le, take-set-lt, drop-set-lt, drop-set-add, take-nil}
use Rattle.lists.specs.Lists.{flat, part}

pub le_or_lt : (a b : ℕ) → (a ≤ b) ⊎ (b < a)
le_or_lt a b = go (ltb b a) (ltb-true b a) (ltb-false b a)
  where
    go : (t : Bool) → (t ≡ true → b < a) → (t ≡ false → a ≤ b) → (a ≤ b) ⊎ (b < a)
    go true h k = inr (h refl)
    go false h k = inl (k refl)

module _ {A : Type 0} where
  pub drop_take : (a n : ℕ) (l : List A) → drop a (take (a + n) l) ≡ take n (drop a l)
  drop_take zero n l = rw zero-add
  drop_take (suc a) n [] = rw suc-add (sym (take-nil n))
  drop_take (suc a) n (x ∷ l) = rw suc-add (drop_take a n l)

  -- a part of a part
  pub part_part : (a n b m : ℕ) (l : List A) → a + n ≤ m → part a n (part b m l) ≡ part (b + a) n l
  part_part a n b m l h =
      let e : drop a (take m (drop b l)) ≡ take (m - a) (drop a (drop b l)) = ap (λ (k : ℕ). drop a (take k (drop b l))) {x = m} {y = a + (m - a)}
      (omega arith) ∙ drop_take a (m - a) (drop b l) in
      rw (e, take-take n (m - a) _ (omega arith), drop-drop)

  -- two parts, one after the other
  pub part_add : (a n m : ℕ) (l : List A) → part a (n + m) l ≡ part a n l ++ part (a + n) m l
  part_add a n m l = take-add n m (drop a l) ∙ ap (λ (r : List A). take n (drop a l) ++ take m r) (drop-drop n a l)

  -- a part that a store does not meet
  pub part_below : (a n : ℕ) (l : List A) (p : ℕ) (x : A) → a + n ≤ p → part a n (set l p x) ≡ part a n l
  part_below a n l p x h =
      let e : drop a (set l p x) ≡ set (drop a l) (p - a) x = ap (λ (k : ℕ). drop a (set l k x)) {x = p} {y = a + (p - a)} (omega arith)
      ∙ drop-set-add a l (p - a) x in
      rw e (take-set-le n (drop a l) (p - a) x (omega arith))

  pub part_above : (a n : ℕ) (l : List A) (p : ℕ) (x : A) → p < a → part a n (set l p x) ≡ part a n l
  part_above a n l p x h = rw (drop-set-lt a l p x h)

  -- a part that it meets
  pub part_set : (a n : ℕ) (l : List A) (q : ℕ) (x : A) → q < n → part a n (set l (a + q) x) ≡ set (part a n l) q x
  part_set a n l q x h = rw (drop-set-add a l q x) (take-set-lt n (drop a l) q x h)

  -- ---- lists one after the other
  pub flat_same : (n : ℕ) (f g : ℕ → List A) → ((i : ℕ) → i < n → f i ≡ g i) → flat n f ≡ flat n g
  unfolding flat
  flat_same zero f g h = refl
  flat_same (suc n) f g h = ap₂ ◌++◌ (flat_same n f g (λ i l. h i (omega arith))) (h n (lt-suc_self n))

  -- list i of n, with whatever follows
  pub flat_at : (n i : ℕ) (f : ℕ → List A) (rest : List A) → i < n → part (length (flat i f)) (length (f i)) (flat n f ++ rest) ≡ f i
  unfolding flat
  flat_at zero i f rest h = absurd (not-suc-le-zero h)
  flat_at (suc n) i f rest h =
      rw (append_assoc (flat n f) (f n) rest)
      (⊎_elim
      (λ (e : i ≡ n). rw (e, drop_at (flat n f) (f n ++ rest) (length (flat n f)) refl) (take_at (f n) rest (length (f n)) refl))
      (λ (l : i < n). flat_at n i f (f n ++ rest) l)
      (eq-or-lt_of_le (le_of_suc-le-suc h)))

module _ {A B : Type 0} where
  -- a part as long as n lists, as n parts
  pub flat_part : (n : ℕ) (p : ℕ → List A) (a : ℕ) (l : List B)
      → part a (length (flat n p)) l ≡ flat n (λ (i : ℕ). part (a + length (flat i p)) (length (p i)) l)
  unfolding flat
  flat_part zero p a l = refl
  flat_part (suc n) p a l = rw (length-append, part_add a (length (flat n p)) (length (p n)) l, flat_part n p a l)
