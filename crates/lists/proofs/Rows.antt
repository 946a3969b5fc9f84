-- Laws of `flat`: rows laid one after the other, and read back.
use Prim.Native.Nat.{ℕ, zero, suc, ◌+◌, ◌*◌, ◌≤◌, ◌<◌}
use mathlib.Core.Path.{◌≡◌, refl, sym, ap, ap₂, ◌∙◌}
use mathlib.Core.List.{List, ◌++◌, append_assoc}
use mathlib.Core.Logic.{⊎_elim}
use native.Mathlib.Numerals.{add-one}
use native.Mathlib.Nat.{zero-mul, suc-mul, not-suc-le-zero, eq-or-lt_of_le, le_of_suc-le-suc, lt-suc_self}
use native.Mathlib.Omega.{arith}
use lib.ListN.{length, get_or, take, drop, length-append}
use lib.Seq.{take_at, drop_at}
use Rattle.lists.specs.Lists.{flat, table, over}
use Rattle.lists.proofs.Places.{row_room}
use Rattle.lists.proofs.Over.{tab_same, part_at, over_over, over_settled}

module _ {A : Type 0} where
  pub flat_more : (n : ℕ) (f : ℕ → List A) → flat (n + 1) f ≡ flat n f ++ f n
  unfolding flat
  flat_more n f = rw add-one

  pub length_flat : (n : ℕ) (f : ℕ → List A) (s : ℕ) → ((k : ℕ) → length (f k) ≡ s) → length (flat n f) ≡ n * s
  unfolding flat
  length_flat zero f s h = sym (zero-mul s)
  length_flat (suc n) f s h = rw (length-append, length_flat n f s h, h n, suc-mul)

  -- where two rules agree
  pub table_same : (n s : ℕ) (f g : ℕ → ℕ → A) → ((i k : ℕ) → i < n → k < s → f i k ≡ g i k) → table n s f ≡ table n s g
  unfolding flat
  table_same zero s f g h = refl
  table_same (suc n) s f g h = ap₂ ◌++◌ (table_same n s f g (λ i k l. h i k (omega arith))) (tab_same s (f n) (g n) (λ k l. h n k (lt-suc_self n) l))

  -- row n is laid after the rows before it
  pub over_row : (n s i : ℕ) (f : ℕ → List A) (l cur q : List A) → ((k : ℕ) → length (f k) ≡ s) → cur ≡ over 0 (flat n f) l → i ≡ n * s
      → i + s ≤ length l → q ≡ f n → over i q cur ≡ over 0 (flat (n + 1) f) l
  over_row n s i f l cur q hs e hi h v =
      let len : i ≡ length (flat n f) = hi ∙ sym (length_flat n f s hs) in
      let room : i + length (f n) ≤ length l = rw (hs n) h in
      rw (e, v, flat_more) (over_over i (flat n f) (f n) l len room)

  -- row n, read back from n + 1 rows
  pub row_back : (n s i : ℕ) (f : ℕ → List A) (l cur : List A) → ((k : ℕ) → length (f k) ≡ s) → cur ≡ over 0 (flat (n + 1) f) l
      → i ≡ n * s → take s (drop i cur) ≡ f n
  unfolding over
  row_back n s i f l cur hs e hi =
      let len : length (flat n f) ≡ i = length_flat n f s hs ∙ sym hi in
      rw (e, flat_more, append_assoc (flat n f) (f n) _, drop_at (flat n f) _ i len)
      (take_at (f n) _ s (hs n))

  -- row t of n, whatever follows
  row_of : (n t s : ℕ) (f : ℕ → List A) → ((k : ℕ) → length (f k) ≡ s) → t < n → (rest : List A) → take s (drop (t * s) (flat n f ++ rest)) ≡ f t
  unfolding flat
  row_of zero t s f hs h rest = absurd (not-suc-le-zero h)
  row_of (suc n) t s f hs h rest =
      rw (append_assoc (flat n f) (f n) rest)
      (⊎_elim
      (λ (e : t ≡ n). rw (e, drop_at (flat n f) _ (n * s) (length_flat n f s hs)) (take_at (f n) rest s (hs n)))
      (λ (l : t < n). row_of n t s f hs l (f n ++ rest))
      (eq-or-lt_of_le (le_of_suc-le-suc h)))

  -- row t, read back from n rows
  pub row_in : (n t s : ℕ) (f : ℕ → List A) (l cur : List A) → ((k : ℕ) → length (f k) ≡ s) → cur ≡ over 0 (flat n f) l → t < n
      → take s (drop (t * s) cur) ≡ f t
  unfolding over
  row_in n t s f l cur hs e h = rw e (row_of n t s f hs h _)

  -- place k of row t, read back from n rows
  pub place_back : (n t s k : ℕ) (f : ℕ → List A) (l cur : List A) (d : A) → ((k : ℕ) → length (f k) ≡ s) → cur ≡ over 0 (flat n f) l
      → t < n → k < s → get_or cur (t * s + k) d ≡ get_or (f t) k d
  unfolding over
  place_back n t s k f l cur d hs e h hk =
      rw e (sym (part_at (t * s) s _ k d hk) ∙ ap (λ (r : List A). get_or r k d) (row_of n t s f hs h _))

  -- n rows are laid over a list that had the first
  pub rows_settled : (n s : ℕ) (f : ℕ → List A) (l mid cur : List A) → ((k : ℕ) → length (f k) ≡ s) → 0 < n → mid ≡ over 0 (flat 1 f) l
      → cur ≡ over 0 (flat n f) mid → cur ≡ over 0 (flat n f) l
  rows_settled n s f l mid cur hs h d e =
      let room = row_room 0 n s h in
      let shorter : length (flat 1 f) ≤ length (flat n f) = rw (length_flat 1 f s hs, length_flat n f s hs) (omega (arith, room)) in
      over_settled _ _ l mid cur e d shorter
