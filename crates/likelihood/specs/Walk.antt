-- The forward and the backward walk (Rabiner 1989, (19) to (21) and (24), (25)), over any model, in the written order of f64 operations.
use Rattle.std.specs.Prelude.{ℕ, zero, suc, ◌-◌, Float}
use Rattle.floats.specs.Float.{◌⊕◌, minus_infinity}
use Rattle.sums.specs.Sum.{ln_sum}
use Rattle.model.specs.Model.{Model}

module _ (m : Model) where
  -- α of state j at time t (RULES 6.2)
  unfoldable pub alpha : ℕ → ℕ → Float
  alpha zero j = m.initial j ⊕ m.emission 0 j
  alpha (suc t) j = ln_sum m.states (λ (k : ℕ). (alpha t k ⊕ m.transition k j) ⊕ m.emission (suc t) j)

  -- the value of n samples: the last row and the end
  unfoldable pub forward_value : ℕ → Float
  forward_value zero = minus_infinity
  forward_value (suc t) = ln_sum m.states (λ (k : ℕ). alpha t k ⊕ m.end k)

  -- β of state j in row i of n samples, which is at time n - 1 - i (RULES 6.3)
  unfoldable pub beta : ℕ → ℕ → ℕ → Float
  beta n zero j = m.end j
  beta n (suc i) j = ln_sum m.states (λ (k : ℕ). (beta n i k ⊕ m.transition j k) ⊕ m.emission (n - 1 - i) k)

  -- the value of n samples: the last row and the first sample; of none it is minus infinity
  unfoldable pub backward_value : ℕ → Float
  backward_value zero = minus_infinity
  backward_value (suc t) = ln_sum m.states (λ (k : ℕ). (beta (suc t) t k ⊕ m.initial k) ⊕ m.emission 0 k)
