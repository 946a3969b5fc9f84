-- One pass of re-estimation (Rabiner 1989, (40a) to (40c)) over n samples, in the written order of f64 operations (RULES 7).
use Rattle.std.specs.Prelude.{ℕ, ◌-◌, Bool, cond, List, Float}
use Rattle.std.specs.Float.Ieee.{lt}
use Rattle.floats.specs.Float.{◌⊕◌, ◌⊖◌, nought}
use Rattle.sums.specs.Sum.{ln_sum}
use Rattle.model.specs.Model.{Model}
use Rattle.likelihood.specs.Walk.{alpha, beta}
use Rattle.occupancy.specs.Occupancy.{Walks, occupancy, last_occupancy, gamma, emitted, denominator, arc_sum}

-- what is stored of a result: +0.0 where it is above 0
unfoldable pub at_most_zero : Float → Float
at_most_zero x = cond (lt nought x) nought x

-- a share: what is stored of a sum that is divided by d
abbrev pub share : Float → Float → Float
share x d = at_most_zero (x ⊖ d)

module _ (w : Walks) where
  -- of symbol x in state i
  unfoldable pub new_emission : List ℕ → ℕ → ℕ → Float
  new_emission samples i x = share (emitted w samples i x w.count) (gamma w i)

  -- the first occupancy
  unfoldable pub new_initial : ℕ → Float
  new_initial i = at_most_zero (occupancy w i 0)

  -- the last one's share where there is an end state, else +0.0
  unfoldable pub new_end : Bool → ℕ → Float
  new_end ends i = cond ends (share (last_occupancy w i) (gamma w i)) nought

-- from state i to state j
unfoldable pub new_transition : Model → Walks → ℕ → ℕ → Float
new_transition m w i j = share (arc_sum m.transition m.emission w i j) (denominator m.ends w i)

module _ (m : Model) (n : ℕ) where
  -- the likelihood of all samples: the sum of alpha + beta at the last one
  unfoldable pub probx : Float
  probx = ln_sum m.states (λ (i : ℕ). alpha m (n - 1) i ⊕ beta m n 0 i)

  -- both walks of a model over n samples
  abbrev pub walks : Walks
  walks = record { count = n; alpha = alpha m; beta = beta m n; probx = probx }
