-- What is read back from tables that hold every row: the last state, the best path's value, and the best path.
use Prim.Native.Nat.{ℕ, suc, ◌+◌, ◌*◌, ◌-◌, ◌<◌}
use mathlib.Core.Path.{◌≡◌, sym, ap, ◌∙◌}
use mathlib.Core.List.{List}
use native.Mathlib.Nat.{add-sub_cancel_left}
use native.Mathlib.Omega.{arith}
use lib.ListN.{length, take, drop}
use lib.Ieee.{Float}
use Rattle.floats.specs.Float.{at}
use Rattle.lists.specs.Lists.{tab, table, over}
use Rattle.lists.proofs.Over.{length_tab, get_or_tab}
use Rattle.lists.proofs.Rows.{row_in, place_back}
use Rattle.model.specs.Model.{Model}
use Rattle.best_path.specs.Best.{greatest}
use Rattle.best_path.specs.Walk.{ended, closed, path_to, value, from, last_state, best_path, best_value}
use Rattle.best_path.specs.inner.Back.{from_at}
use Rattle.best_path.proofs.WayBack.{path_same}
use Rattle.best_path.proofs.Steps.{at_row, last_in_row, value_of, path_of}
use Rattle.best_path.proofs.States.{from_state, last_below_lem}

module _ (m : Model) (n : ℕ) (some : 0 < m.states) (sample : 0 < n) where
  -- where the last row starts
  abbrev pub last_start : ℕ
  last_start = (n - 1) * m.states

  last_time : n - 1 < n
  last_time = omega arith

  -- ---- the last row
  module _ (row : List Float) (is : row ≡ tab m.states (value m (n - 1))) where
    pub last_found : (j : ℕ) → j ≡ greatest (length row) (λ (k : ℕ). ended m.ends (m.end k) (at row k)) → j ≡ last_state m (n - 1)
    last_found j e = e ∙ last_in_row m (n - 1) row is

    pub value_found : (j : ℕ) → j ≡ last_state m (n - 1) → ended m.ends (m.end j) (at row j) ≡ best_value m n
    value_found j e =
        let h : j < m.states = rw e (last_below_lem m some (n - 1)) in
        ap (ended m.ends (m.end j)) (at_row m (n - 1) row is j h)
        ∙ ap (λ (k : ℕ). closed m k (value m (n - 1) k)) e
        ∙ sym (value_of m n sample)

  -- ---- a table of values
  module _ (was is : List Float) (laid : is ≡ over 0 (table n m.states (value m)) was) where
    -- the last row, as a slice from its start to its stop reads it
    abbrev pub last_row_slice : List Float
    last_row_slice = take (last_start + m.states - last_start) (drop last_start is)

    pub last_row : last_row_slice ≡ tab m.states (value m (n - 1))
    last_row =
        rw (add-sub_cancel_left last_start m.states)
        (row_in n (n - 1) m.states _ was is (λ (t : ℕ). length_tab m.states _) laid last_time)

  -- ---- a table of predecessors
  module _ (was is : List ℕ) (laid : is ≡ over 0 (table n m.states (from m)) was) where
    from_found : (t k : ℕ) → t < n → k < m.states → from_at m.states is t k ≡ from m t k
    from_found t k h i =
        place_back n t m.states k _ was is 0 (λ (u : ℕ). length_tab m.states _) laid h i ∙ get_or_tab m.states _ k 0 i

    pub from_is_state : (t k : ℕ) → t < n → k < m.states → from_at m.states is t k < m.states
    from_is_state t k h i = rw (from_found t k h i) (from_state m some t k i)

    pub path_found : (j : ℕ) → j ≡ last_state m (n - 1) → path_to (from_at m.states is) (n - 1) j ≡ best_path m n
    path_found j e =
        let h : j < m.states = rw e (last_below_lem m some (n - 1)) in
        path_same _ _ m.states n (λ (t k : ℕ) u i. from_found (suc t) k u i) (λ (t k : ℕ) u i. from_state m some (suc t) k i)
        (n - 1) j last_time h
        ∙ ap (path_to (from m) (n - 1)) e ∙ sym (path_of m n sample)
