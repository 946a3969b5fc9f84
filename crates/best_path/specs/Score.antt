-- The score of any path, added from left to right as the walk adds (RULES 8.3).
use Rattle.std.specs.Prelude.{ℕ, zero, suc, List, get_or, Float}
use Rattle.floats.specs.Float.{◌⊕◌}
use Rattle.model.specs.Model.{Model}
use Rattle.best_path.specs.Walk.{closed}

-- the state of a path at time t
abbrev pub state_at : List ℕ → ℕ → ℕ
state_at path t = get_or path t 0

module _ (m : Model) where
  -- of the states p 0, .., p t, each step (score + transition) + emission
  unfoldable pub sum_to : (ℕ → ℕ) → ℕ → Float
  sum_to p zero = m.initial (p 0) ⊕ m.emission 0 (p 0)
  sum_to p (suc t) = (sum_to p t ⊕ m.transition (p t) (p (suc t))) ⊕ m.emission (suc t) (p (suc t))

  -- the score of a path whose last sample is at time t
  unfoldable pub score : (ℕ → ℕ) → ℕ → Float
  score p t = closed m (p t) (sum_to p t)
