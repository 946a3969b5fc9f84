-- Rows in memory meet the recurrences: the first row, and what is worked out from the row of time t is the row of time t + 1.
use Prim.Native.Nat.{ℕ, zero, suc, ◌-◌, ◌<◌}
use mathlib.Core.Path.{◌≡◌, refl, ap, ◌∙◌}
use mathlib.Core.Bool.{Bool}
use mathlib.Core.List.{List}
use native.Mathlib.Numerals.{sub-one}
use native.Mathlib.Nat.{not-suc-le-zero}
use native.Mathlib.Omega.{arith}
use lib.ListN.{length, get_or}
use lib.Ieee.{Float}
use Rattle.floats.specs.Float.{◌⊕◌, at, minus_infinity}
use Rattle.lists.specs.Lists.{tab, over}
use Rattle.lists.proofs.Over.{length_tab, get_or_tab, tab_same}
use Rattle.model.specs.Model.{Model, tabled}
use Rattle.emission.specs.inner.Row.{first_row}
use Rattle.emission.proofs.FirstRow.{first_row_is}
use Rattle.best_path.specs.Best.{predecessor, greatest}
use Rattle.best_path.specs.Walk.{cell, ended, closed, path_to, value, from, last_state, best_path, best_value}
use Rattle.best_path.specs.inner.Step.{next_from, next_value, Ranked, Stepped}
use Rattle.best_path.specs.inner.Row.{first_from, RowStored}
use Rattle.best_path.proofs.Best.{best_below, best_same}

-- ---- what is asked of a row is asked below S only
module _ (n : ℕ) (v w : ℕ → Float) (same : (k : ℕ) → k < n → v k ≡ w k) where
  pub predecessor_same : (a : ℕ → Float) → predecessor n v a ≡ predecessor n w a
  unfolding predecessor
  predecessor_same a = best_same _ _ n (λ (b k : ℕ) h l. rw (same b h, same k l))

  pub cell_same : 0 < n → (a : ℕ → Float) (e : Float) → cell n v a e ≡ cell n w a e
  unfolding cell predecessor
  cell_same h a e = rw (predecessor_same a, same (predecessor n w a) (best_below _ n h))

  pub greatest_same : greatest n v ≡ greatest n w
  unfolding greatest
  greatest_same = best_same _ _ n (λ (b k : ℕ) h l. rw (same b h, same k l))

-- ---- the best predecessors and their sums, once they are found, make the row after
module _ (states : ℕ) (transition row sums : List Float) (winners : List ℕ) (r : Ranked states transition row sums winners) where
  pub ranked_values : (emissions values values' : List Float) (target : ℕ)
      → values' ≡ over target (tab states (λ (j : ℕ). at sums j ⊕ at emissions j)) values
      → values' ≡ over target (tab states (next_value states transition emissions row)) values
  unfolding cell
  ranked_values emissions values values' target e =
      e ∙ ap (λ (p : List Float). over target p values) (tab_same states _ _ (λ (j : ℕ) h. ap (λ (x : Float). x ⊕ at emissions j) (r.sum j h)))

  pub ranked_from : (from₀ from' : List ℕ) (target : ℕ) → from' ≡ over target (tab states (λ (j : ℕ). get_or winners j 0)) from₀
      → from' ≡ over target (tab states (next_from states transition row)) from₀
  ranked_from from₀ from' target e = e ∙ ap (λ (p : List ℕ). over target p from₀) (tab_same states _ _ r.winner)

  pub ranked_below : (j : ℕ) → j < states → get_or winners j 0 < states
  unfolding predecessor
  ranked_below j h = rw (r.winner j h) (best_below _ states (omega arith))

-- ---- a row in memory is that of time t
module _ (m : Model) (t : ℕ) (row : List Float) (is : row ≡ tab m.states (value m t)) where
  pub at_row : (k : ℕ) → k < m.states → at row k ≡ value m t k
  at_row k h = rw is (get_or_tab m.states _ k minus_infinity h)

  -- the last state is the greatest of the row, each ended by its end entry
  pub last_in_row : greatest (length row) (λ (j : ℕ). ended m.ends (m.end j) (at row j)) ≡ last_state m t
  unfolding last_state
  last_in_row =
      rw (ap length is ∙ length_tab m.states _)
      (greatest_same m.states _ _ (λ (j : ℕ) h. ap (ended m.ends (m.end j)) (at_row j h)))

-- ---- the row after it, of tables in memory
module _ (states : ℕ) (transition initial : List Float) (e : ℕ → ℕ → Float) (ends : Bool) (end : ℕ → Float) (some : 0 < states) (t : ℕ)
    (row : List Float) (is : row ≡ tab states (value (tabled states transition initial e ends end) t)) where
  abbrev m : Model
  m = tabled states transition initial e ends end

  pub next_values : (emissions : List Float) → emissions ≡ tab states (e (suc t))
      → tab states (next_value states transition emissions row) ≡ tab states (value m (suc t))
  unfolding value
  next_values emissions h =
      tab_same states _ _ (λ j s.
      cell_same states (at row) (value m t) (at_row m t row is) some _ _
      ∙ ap (cell states (value m t) (λ (k : ℕ). m.transition k j)) (rw h (get_or_tab states _ j minus_infinity s)))

  pub next_from_lem : tab states (next_from states transition row) ≡ tab states (from m (suc t))
  unfolding from
  next_from_lem = tab_same states _ _ (λ j s. predecessor_same states (at row) (value m t) (at_row m t row is) _)

-- ---- the row of time t, stored at its place
module _ (states : ℕ) (transition initial emissions : List Float) (values values' : List Float) (from₀ from' : List ℕ) where
  pub first_stored : (t source target : ℕ) → t ≡ 0 → target ≡ 0 → length initial ≡ states
      → values' ≡ over 0 (first_row initial emissions) values → from' ≡ over 0 (first_from states) from₀
      → RowStored states transition initial emissions t source target values values' from₀ from'
  unfolding value from
  first_stored t source target z front long v f e ends end is before =
      let m = tabled states transition initial e ends end in
      let first : emissions ≡ tab states (e 0) = is ∙ ap (λ (u : ℕ). tab states (e u)) z in
      let row = first_row_is m initial emissions long refl first in
      rw (z, front) (record { values_stored = v ∙ ap (λ (p : List Float). over 0 p values) row; from_stored = f })

  pub next_stored : (t source target : ℕ) → 0 < t → 0 < states
      → Stepped states transition emissions source target values values' from₀ from'
      → RowStored states transition initial emissions t source target values values' from₀ from'
  next_stored zero source target h some s e ends end is before = absurd (not-suc-le-zero h)
  next_stored (suc t) source target h some s e ends end is before =
      let row = rw (sub-one (suc t)) at (before h) in
      record {
        values_stored =
            s.values_stored
            ∙ ap (λ (p : List Float). over target p values) (next_values states transition initial e ends end some t _ row emissions is);
        from_stored =
            s.from_stored ∙ ap (λ (p : List ℕ). over target p from₀) (next_from_lem states transition initial e ends end some t _ row);
      }

-- ---- of one sample or more
module _ (m : Model) where
  pub value_of : (n : ℕ) → 0 < n → best_value m n ≡ closed m (last_state m (n - 1)) (value m (n - 1) (last_state m (n - 1)))
  unfolding best_value
  value_of zero h = absurd (not-suc-le-zero h)
  value_of (suc t) h = rw (sub-one (suc t))

  pub path_of : (n : ℕ) → 0 < n → best_path m n ≡ path_to (from m) (n - 1) (last_state m (n - 1))
  unfolding best_path
  path_of zero h = absurd (not-suc-le-zero h)
  path_of (suc t) h = rw (sub-one (suc t))
