-- How much of the time both walks give to states, arcs and symbols (Rabiner 1989, (27), (37) and (40a) to (40c)), over any model and in the
-- written order of f64 operations (RULES 7).
use Rattle.std.specs.Prelude.{ℕ, zero, suc, ◌-◌, Bool, cond, ◌||◌, List, eqb, Float}
use Rattle.floats.specs.Float.{◌⊕◌, ◌⊖◌, minus_infinity, is_minus_infinity}
use Rattle.sums.specs.Sum.{ln_sum}
use Rattle.sums.specs.Pair.{ln_add, ln_sub}
use Rattle.model.specs.Model.{sample_at}

-- what both walks over n samples found: alpha of each time and state, beta's rows of which row r is of time n - 1 - r, and the likelihood
pub record Walks : Type 0 where
  pub count : ℕ
  pub alpha : ℕ → ℕ → Float
  pub beta : ℕ → ℕ → Float
  pub probx : Float

module _ (w : Walks) where
  -- of state i at time t: alpha and beta, less the likelihood
  unfoldable pub occupancy : ℕ → ℕ → Float
  occupancy i t = (w.alpha t i ⊕ w.beta (w.count - 1 - t) i) ⊖ w.probx

  -- at the last sample
  abbrev pub last_occupancy : ℕ → Float
  last_occupancy i = occupancy i (w.count - 1)

  -- the sum of a state's occupancies over time
  unfoldable pub gamma : ℕ → Float
  gamma i = ln_sum w.count (occupancy i)

  -- the occupancies of state i where the sample is symbol x, before time t: added up from minus infinity in time order
  unfoldable pub emitted : List ℕ → ℕ → ℕ → ℕ → Float
  emitted samples i x zero = minus_infinity
  emitted samples i x (suc t) = cond (eqb (sample_at samples t) x) (ln_add (emitted samples i x t) (occupancy i t)) (emitted samples i x t)

-- with or without an end state
module _ (ends : Bool) (w : Walks) where
  -- what the arcs out of state i are divided by: without an end state, its gamma less its last occupancy, from which no arc leads on
  unfoldable pub denominator : ℕ → Float
  denominator i = cond ends (gamma w i) (ln_sub (gamma w i) (last_occupancy w i))

  -- state i has no mass: it is never met, or never left
  unfoldable pub massless : ℕ → Bool
  massless i = is_minus_infinity (gamma w i) || is_minus_infinity (denominator i)

-- the transition from a state to the next, and the emission at a time in a state
module _ (transition emission : ℕ → ℕ → Float) (w : Walks) where
  -- the arc from state i at time t to state j
  unfoldable pub arc : ℕ → ℕ → ℕ → Float
  arc i j t = (((w.alpha t i ⊕ transition i j) ⊕ w.beta (w.count - 2 - t) j) ⊕ emission (suc t) j) ⊖ w.probx

  -- the sum of a pair's arcs over time
  unfoldable pub arc_sum : ℕ → ℕ → Float
  arc_sum i j = ln_sum (w.count - 1) (arc i j)
