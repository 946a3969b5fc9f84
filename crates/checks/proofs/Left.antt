-- What follows of a call that is done: its checks are, its answer is the promised one, and the front of an output is what was written there.
use Prim.Native.Nat.{ℕ, ◌*◌}
use mathlib.Core.Path.{◌≡◌, refl, sym, ap, ◌∙◌}
use mathlib.Core.Bool.{Bool, true, false, true≢false, cond}
use mathlib.Core.List.{List}
use lib.ListN.{length, take}
use lib.Seq.{take_at}
use Rattle.lists.specs.Lists.{tab, table, over, after}
use Rattle.lists.proofs.Over.{length_tab}
use Rattle.lists.proofs.Rows.{length_flat}
use Rattle.answer.specs.Answer.{is_done}
use Rattle.answer.specs.declared.Answer.{Answer}

-- an answer that is done comes of checks that are
pub checks_done : (checks next answer : Answer) → answer ≡ cond (is_done checks) next checks → is_done answer ≡ true
    → (is_done checks ≡ true) × (answer ≡ next)
checks_done checks next answer a d = go (is_done checks) refl a
  where
    go : (b : Bool) → is_done checks ≡ b → answer ≡ cond b next checks → (is_done checks ≡ true) × (answer ≡ next)
    go true c e = (c, e)
    go false c e = absurd (true≢false (sym d ∙ ap is_done e ∙ c))

-- an output, where the call is done and writes p
pub front_is : {A : Type 0} (b : Bool) (p l e : List A) (n : ℕ) → e ≡ after b p l → b ≡ true → length p ≡ n → take n e ≡ p
unfolding over
front_is b p l e n h t long = ap (take n) (h ∙ ap (λ (z : Bool). after z p l) t) ∙ take_at p _ n long

-- the same of a list by rule, and of a table of n rows
module _ {A : Type 0} (b : Bool) where
  pub tab_front : (n : ℕ) (f : ℕ → A) (l e : List A) → e ≡ after b (tab n f) l → b ≡ true → take n e ≡ tab n f
  tab_front n f l e h t = front_is b (tab n f) l e n h t (length_tab n f)

  pub rows_front : (n s : ℕ) (f : ℕ → ℕ → A) (l e : List A) → e ≡ after b (table n s f) l → b ≡ true → take (n * s) e ≡ table n s f
  rows_front n s f l e h t = front_is b (table n s f) l e (n * s) h t (length_flat n _ s (λ (i : ℕ). length_tab s (f i)))
