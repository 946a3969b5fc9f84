-- Why the laws of the best path ask for a bound on the entries (`Low`): that none is NaN or +∞ is not enough.
use Prim.Native.Nat.{ℕ, zero, suc}
use mathlib.Core.Bool.{false, not}
use mathlib.Core.List.{[], ◌∷◌}
use lib.Dec.{T}
use lib.IntN.{pos}
use lib.Ieee.{Float, fin, add, le, eq}
use Rattle.floats.specs.Float.{nought, minus_infinity}
use Rattle.model.specs.Model.{Model}
use Rattle.best_path.specs.Best.{best_of, ranks_at_least, predecessor, greatest}
use Rattle.best_path.specs.Walk.{cell, ended, value, last_state, best_value}
use Rattle.best_path.specs.Score.{state_at, sum_to, score}

-- two states that never change to one another, and emissions of 2^1023
abbrev stay : ℕ → ℕ → Float
stay zero zero = nought
stay zero (suc j) = minus_infinity
stay (suc k) zero = minus_infinity
stay (suc k) (suc j) = nought

abbrev high : Model
high =
    record {
      states = 2;
      ends = false;
      initial = stay 0;
      transition = stay;
      emission = λ (t j : ℕ). fin false 1 (pos 1023);
      end = λ (j : ℕ). nought;
    }

-- the states 0, 0, 1 have the score (+∞) + (-∞), NaN, which is not at most the value
pub a_bound_is_needed : T (not (le (score high (state_at (0 ∷ 0 ∷ 1 ∷ [])) 2) (best_value high 3)))
unfolding score sum_to best_value ended last_state greatest best_of value cell predecessor ranks_at_least add le eq
a_bound_is_needed = tt
