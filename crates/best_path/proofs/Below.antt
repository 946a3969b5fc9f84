-- That one model is below another, entry by entry, for the samples 0, .., n - 1.
use Prim.Native.Nat.{ℕ, ◌<◌}
use mathlib.Core.Path.{◌≡◌, refl}
use native.Mathlib.Omega.{arith}
use lib.Dec.{T}
use lib.Ieee.{le}
use Rattle.floats.proofs.Order.{le_le}
use Rattle.floats.proofs.Ceiling.{most}
use Rattle.model.specs.Model.{Model}
use Rattle.model.proofs.Low.{Low}
use Rattle.best_path.proofs.Bounds.{entry_itself}

-- every entry of m is at most that of h
pub record Below (n : ℕ) (m h : Model) : Type 0 where
  pub states : m.states ≡ h.states
  pub ends : m.ends ≡ h.ends
  pub initial : (j : ℕ) → j < h.states → T (le (m.initial j) (h.initial j))
  pub transition : (k j : ℕ) → k < h.states → j < h.states → T (le (m.transition k j) (h.transition k j))
  pub emission : (t j : ℕ) → t < n → j < h.states → T (le (m.emission t j) (h.emission t j))
  pub end : (j : ℕ) → j < h.states → T (le (m.end j) (h.end j))

pub below_itself : (n : ℕ) (m : Model) → Low m n → Below n m m
below_itself n m low =
    record {
      states = refl;
      ends = refl;
      initial = λ (j : ℕ) s. entry_itself (m.initial j) (low.initial j s);
      transition = λ (k j : ℕ) i s. entry_itself (m.transition k j) (low.transition k j i s);
      emission = λ (t j : ℕ) l s. entry_itself (m.emission t j) (low.emission t j l s);
      end = λ (j : ℕ) s. entry_itself (m.end j) (low.end j s);
    }

-- what is below a model has a state where that has one
pub some_below : (n : ℕ) (m h : Model) → Below n m h → 0 < h.states → 0 < m.states
some_below n m h o some = rw o.states some

-- and is low where that is low
pub low_below : (n : ℕ) (m h : Model) → Below n m h → Low h n → Low m n
low_below n m h o low =
    record {
      initial = λ (j : ℕ) s. let i = there j s in le_le (m.initial j) (h.initial j) most (o.initial j i) (low.initial j i);
      transition = λ (k j : ℕ) r s.
          let i = there k r in
          let e = there j s in
          le_le (m.transition k j) (h.transition k j) most (o.transition k j i e) (low.transition k j i e);
      emission = λ (t j : ℕ) l s.
          let i = there j s in
          le_le (m.emission t j) (h.emission t j) most (o.emission t j l i) (low.emission t j l i);
      end = λ (j : ℕ) s. let i = there j s in le_le (m.end j) (h.end j) most (o.end j i) (low.end j i);
    }
  where
    there : (j : ℕ) → j < m.states → j < h.states
    there j s = omega (arith, o.states)
