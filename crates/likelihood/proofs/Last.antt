-- The last row of a walk, and that its sum is the value of the walk, over any model and n samples.
use Prim.Native.Nat.{ℕ, zero, suc, ◌+◌, ◌*◌, ◌-◌, ◌<◌}
use native.Mathlib.Nat.{add-sub_cancel_left, not-suc-le-zero}
use native.Mathlib.Numerals.{sub-one}
use native.Mathlib.Omega.{arith}
use mathlib.Core.Path.{◌≡◌, ap, ap₂}
use mathlib.Core.Bool.{Bool, true, false}
use mathlib.Core.List.{List}
use lib.ListN.{take, drop}
use lib.Ieee.{Float}
use Rattle.floats.specs.Float.{◌⊕◌, at, minus_infinity}
use Rattle.lists.specs.Lists.{tab}
use Rattle.lists.proofs.Over.{length_tab, get_or_tab}
use Rattle.lists.proofs.Rows.{row_in}
use Rattle.sums.proofs.Loops.{ln_sum_same}
use Rattle.model.specs.Model.{Model}
use Rattle.likelihood.specs.Walk.{forward_value, backward_value}
use Rattle.likelihood.specs.inner.Sum.{last_sum}
use Rattle.likelihood.specs.inner.Walk.{row_of, Filled, value_of}
use Rattle.likelihood.proofs.Steps.{row_at}

module _ (m : Model) (n : ℕ) (back : Bool) where
  -- as a slice of the values reads it
  pub last_row : 0 < n → (o cur : List Float) → Filled back m n o cur
      → let p = (n - 1) * m.states in take (p + m.states - p) (drop p cur) ≡ row_at m n back (n - 1)
  last_row some o cur e =
      rw (add-sub_cancel_left ((n - 1) * m.states) m.states)
      (row_in n (n - 1) m.states (row_at m n back) o cur (λ (i : ℕ). length_tab m.states _) e (omega arith))

module _ (m : Model) (initial end emissions : List Float) where
  pub value_is_lem : (back : Bool) (n : ℕ) → 0 < n → at initial ≡ m.initial → at end ≡ m.end → emissions ≡ tab m.states (m.emission 0)
      → last_sum back (row_at m n back (n - 1)) initial end emissions ≡ value_of back m n
  unfolding last_sum forward_value backward_value
  value_is_lem back zero h a b e = absurd (not-suc-le-zero h)
  value_is_lem false (suc t) h a b e =
      rw (sub-one (suc t), length_tab m.states (row_of false m (suc t) t))
      (ln_sum_same m.states _ _ (λ k s. ap₂ ◌⊕◌ (get_or_tab m.states _ k minus_infinity s) (ap (λ (f : ℕ → Float). f k) b)))
  value_is_lem true (suc t) h a b e =
      rw (sub-one (suc t), length_tab m.states (row_of true m (suc t) t), e)
      (ln_sum_same m.states _ _ (λ k s.
      ap₂ ◌⊕◌ (ap₂ ◌⊕◌ (get_or_tab m.states _ k minus_infinity s) (ap (λ (f : ℕ → Float). f k) a))
      (get_or_tab m.states _ k minus_infinity s)))
