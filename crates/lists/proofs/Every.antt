-- Every element of a list by rule passes a test where each that the rule gives does.
use Prim.Native.Nat.{ℕ, zero, suc, ◌-◌, ◌≤◌, ◌<◌, ◌+◌}
use native.Mathlib.Nat.{not-suc-le-zero}
use native.Mathlib.Omega.{arith}
use mathlib.Core.Path.{◌≡◌, sym, ap, ◌∙◌, subst}
use mathlib.Core.Bool.{Bool, true, false, not}
use mathlib.Core.List.{List, ◌++◌}
use lib.Dec.{T, ltb, ltb→lt, nltb→le}
use lib.ListN.{length, get_or, length-append, get_or-append}
use lib.Seq.{get_or-append-add}
use Rattle.lists.specs.Lists.{tab, flat, table}
use Rattle.lists.proofs.Over.{length_tab, get_or_tab}

-- d is what is read past the end
module _ {A : Type 0} (d : A) (p : A → Bool) where
  abbrev Every : List A → Type 0
  Every xs = (i : ℕ) → i < length xs → T (p (get_or xs i d))

  pub every_tab : (n : ℕ) (f : ℕ → A) → ((k : ℕ) → k < n → T (p (f k))) → Every (tab n f)
  every_tab n f h i l =
      let b : i < n = rw (length_tab n f) at l in
      subst (λ (x : A). T (p x)) (sym (get_or_tab n f i d b)) (h i b)

  every_both : (a b : List A) → Every a → Every b → Every (a ++ b)
  every_both a b h k i l = go (ltb i (length a)) (ltb→lt i (length a)) (nltb→le i (length a))
    where
      go : (t : Bool) → (T t → i < length a) → (T (not t) → length a ≤ i) → T (p (get_or (a ++ b) i d))
      go true g _ = subst (λ (x : A). T (p x)) (sym (get_or-append a b d i (g tt))) (h i (g tt))
      go false _ g =
          let e : length a + (i - length a) ≡ i = omega (arith, g tt) in
          let short : i - length a < length b = omega (arith, g tt, length-append a b) in
          let there : get_or (a ++ b) i d ≡ get_or b (i - length a) d
          = ap (λ (j : ℕ). get_or (a ++ b) j d) (sym e) ∙ get_or-append-add a b (i - length a) d in
          subst (λ (x : A). T (p x)) (sym there) (k (i - length a) short)

  pub every_table : (n s : ℕ) (f : ℕ → ℕ → A) → ((i k : ℕ) → i < n → k < s → T (p (f i k))) → Every (table n s f)
  unfolding flat
  every_table zero s f h = λ i l. absurd (not-suc-le-zero l)
  every_table (suc n) s f h =
      every_both (table n s f) (tab s (f n)) (every_table n s f (λ i k l. h i k (omega arith)))
      (every_tab s (f n) (λ k l. h n k (omega arith) l))
