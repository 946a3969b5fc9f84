-- Viterbi's walk (RULES 6.1; Rabiner 1989, (32) to (35)), over any model, each addition rounded once and in the written order.
use Rattle.std.specs.Prelude.{ℕ, zero, suc, Bool, cond, List, [], ◌∷◌, ◌++◌, Float}
use Rattle.floats.specs.Float.{◌⊕◌, minus_infinity}
use Rattle.model.specs.Model.{Model}
use Rattle.best_path.specs.Best.{predecessor, greatest}

-- a cell is (value + transition) + emission, by the best predecessor; e is the emission
unfoldable pub cell : ℕ → (ℕ → Float) → (ℕ → Float) → Float → Float
cell S v a e = (v (predecessor S v a) ⊕ a (predecessor S v a)) ⊕ e

-- how a path's score ends, where x is the score at its last sample: with an end state the last state's end entry e is added, last of all.
-- Without one nothing is added, since -0.0 + 0.0 is +0.0.
unfoldable pub ended : Bool → Float → Float → Float
ended ends e x = cond ends (x ⊕ e) x

-- in a model, where j is the last state
abbrev pub closed : Model → ℕ → Float → Float
closed m j x = ended m.ends (m.end j) x

-- the path that is in state j at time t, where from u k is the state before state k at time u
unfoldable pub path_to : (ℕ → ℕ → ℕ) → ℕ → ℕ → List ℕ
path_to from zero j = j ∷ []
path_to from (suc t) j = path_to from t (from (suc t) j) ++ (j ∷ [])

module _ (m : Model) where
  -- Rabiner's δ: the value of state j at time t; in the first row it is initial + emission
  unfoldable pub value : ℕ → ℕ → Float
  value zero j = m.initial j ⊕ m.emission 0 j
  value (suc t) j = cell m.states (value t) (λ (k : ℕ). m.transition k j) (m.emission (suc t) j)

  -- Rabiner's ψ: the state before state j at time t; in the first row it is the state itself
  unfoldable pub from : ℕ → ℕ → ℕ
  from zero j = j
  from (suc t) j = predecessor m.states (value t) (λ (k : ℕ). m.transition k j)

  -- the last state is the highest-numbered of the greatest scores, where the last sample is at time t
  unfoldable pub last_state : ℕ → ℕ
  last_state t = greatest m.states (λ (j : ℕ). closed m j (value t j))

  -- the best path over n samples, and its value; without a sample there is no state, and the value is minus infinity
  unfoldable pub best_path : ℕ → List ℕ
  best_path zero = []
  best_path (suc t) = path_to from t (last_state t)

  unfoldable pub best_value : ℕ → Float
  best_value zero = minus_infinity
  best_value (suc t) = closed m (last_state t) (value t (last_state t))
