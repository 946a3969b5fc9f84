-- No number on the walk is NaN or +∞: where no entry is above 2^10, no value of a state is above the lid, 2^64.
use Prim.Native.Nat.{ℕ, zero, suc, ◌<◌}
use native.Mathlib.Omega.{arith}
use lib.Dec.{T}
use lib.Ieee.{Float, le}
use Rattle.floats.specs.Float.{◌⊕◌, capped}
use Rattle.floats.proofs.Order.{le_left, le_self}
use Rattle.floats.proofs.Ceiling.{lid, most, lid_add, most_lid, lid_capped}
use Rattle.model.specs.Model.{Model}
use Rattle.model.proofs.Low.{Low}
use Rattle.best_path.specs.Walk.{cell, value, from}
use Rattle.best_path.proofs.States.{from_below}

-- an entry of a table is neither NaN nor +∞, and at most itself
pub entry_capped : (x : Float) → T (le x most) → T (capped x)
entry_capped x h = lid_capped x (most_lid x h)

pub entry_itself : (x : Float) → T (le x most) → T (le x x)
entry_itself x h = le_self x (le_left x most h)

module _ (n : ℕ) (m : Model) (some : 0 < m.states) (low : Low m n) where
  pub value_lid : (t j : ℕ) → t < n → j < m.states → T (le (value m t j) lid)
  unfolding value from cell
  value_lid zero j l s = lid_add (m.initial j) (m.emission 0 j) (most_lid (m.initial j) (low.initial j s)) (low.emission 0 j l s)
  value_lid (suc t) j l s =
      let w = from m (suc t) j in
      let i = from_below m some t j in
      lid_add (value m t w ⊕ m.transition w j) (m.emission (suc t) j)
      (lid_add (value m t w) (m.transition w j) (value_lid t w (omega arith) i) (low.transition w j i s))
      (low.emission (suc t) j l s)

  pub value_capped : (t j : ℕ) → t < n → j < m.states → T (capped (value m t j))
  value_capped t j l s = lid_capped (value m t j) (value_lid t j l s)

  -- value + transition, before the emission is added
  pub sum_capped : (t k j : ℕ) → t < n → k < m.states → j < m.states → T (capped (value m t k ⊕ m.transition k j))
  sum_capped t k j l i s =
      lid_capped (value m t k ⊕ m.transition k j) (lid_add (value m t k) (m.transition k j) (value_lid t k l i) (low.transition k j i s))
