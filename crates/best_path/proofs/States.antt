-- Every predecessor and the last state is a state.
use Prim.Native.Nat.{ℕ, zero, suc, ◌<◌}
use Rattle.model.specs.Model.{Model}
use Rattle.best_path.specs.Best.{predecessor, greatest}
use Rattle.best_path.specs.Walk.{from, last_state}
use Rattle.best_path.proofs.Best.{best_below}

module _ (m : Model) (some : 0 < m.states) where
  pub from_below : (t j : ℕ) → from m (suc t) j < m.states
  unfolding from predecessor
  from_below t j = best_below _ m.states some

  -- in the first row it is the state itself
  pub from_state : (t j : ℕ) → j < m.states → from m t j < m.states
  unfolding from
  from_state zero j h = h
  from_state (suc t) j h = from_below t j

  pub last_below_lem : (t : ℕ) → last_state m t < m.states
  unfolding last_state greatest
  last_below_lem t = best_below _ m.states some
