-- A list whose front is filled with one value.
use Prim.Native.Nat.{ℕ, zero, suc, ◌≤◌}
use native.Mathlib.Nat.{zero-add}
use native.Mathlib.Numerals.{add-one}
use mathlib.Core.Path.{◌≡◌, refl, ◌∙◌}
use mathlib.Core.List.{List, ◌++◌}
use lib.ListN.{length, replicate, take, drop, length-replicate}
use lib.Seq.{length-take-le}
use Rattle.std.proofs.lemmas.List.{replicate_more}
use Rattle.lists.specs.Lists.{tab, over}

tab_replicate : {A : Type 0} (n : ℕ) (v : A) → tab n (λ (k : ℕ). v) ≡ replicate n v
unfolding tab
tab_replicate zero v = refl
tab_replicate (suc n) v = rw (tab_replicate n v) (replicate_more n v ∙ rw add-one)

-- of the front's n places
pub filled : {A : Type 0} (n : ℕ) (v : A) (l front : List A) → front ≡ replicate (length (take n l)) v → n ≤ length l
    → front ++ drop n l ≡ over 0 (tab n (λ (k : ℕ). v)) l
unfolding over
filled n v l front e h = rw (e, length-take-le n l h, tab_replicate n v, length-replicate, zero-add)
