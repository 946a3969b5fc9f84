-- A sum whose terms were laid into the front of an array is the sum of the terms.
use Prim.Native.Nat.{ℕ}
use mathlib.Core.Path.{◌≡◌, ap, ◌∙◌}
use mathlib.Core.List.{List}
use lib.ListN.{length, take}
use lib.Ieee.{Float}
use Rattle.floats.specs.Float.{at, minus_infinity}
use Rattle.lists.specs.Lists.{tab, over}
use Rattle.lists.proofs.Over.{length_tab, get_or_tab}
use Rattle.sums.specs.Sum.{ln_sum}
use Rattle.sums.proofs.Loops.{ln_sum_same}
use Rattle.lists.proofs.Laid.{front}

module _ (n : ℕ) (f : ℕ → Float) where
  sum_tab : ln_sum (length (tab n f)) (at (tab n f)) ≡ ln_sum n f
  sum_tab =
      ap (λ (i : ℕ). ln_sum i (at (tab n f))) (length_tab n f)
      ∙ ln_sum_same n (at (tab n f)) f (λ k h. get_or_tab n f k minus_infinity h)

  -- r is the sum of what stands at the front
  pub sum_front : (l cur : List Float) (r : Float) → cur ≡ over 0 (tab n f) l → r ≡ ln_sum (length (take n cur)) (at (take n cur)) → r ≡ ln_sum n f
  sum_front l cur r e d = rw (front n f l cur e) at d ∙ sum_tab
