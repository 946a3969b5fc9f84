-- The rows in memory follow the recurrences, over any model and n samples: the first row, each row after it, and all of them at the end.
use Prim.Native.Nat.{ℕ, suc, ◌+◌, ◌*◌, ◌<◌, ◌≤◌}
use native.Mathlib.Numerals.{add-one}
use native.Mathlib.Omega.{arith}
use mathlib.Core.Path.{◌≡◌, refl, sym, ap, ap₂, ◌∙◌}
use mathlib.Core.Bool.{Bool, true, false}
use mathlib.Core.List.{List}
use lib.ListN.{length}
use lib.Ieee.{Float}
use Rattle.floats.specs.Float.{◌⊕◌, at, minus_infinity}
use Rattle.lists.specs.Lists.{tab, flat, table, over}
use Rattle.lists.proofs.Over.{length_tab, get_or_tab, tab_same, tab_own}
use Rattle.lists.proofs.Rows.{row_back}
use Rattle.lists.proofs.Whole.{Whole, whole_more}
use Rattle.sums.proofs.Loops.{ln_sum_same}
use Rattle.model.specs.Model.{Model, transition_of}
use Rattle.emission.proofs.FirstRow.{first_row_is}
use Rattle.likelihood.specs.Walk.{alpha, beta}
use Rattle.likelihood.specs.inner.Row.{row_zero, Begun, cell_term, cell_of, Stepped}
use Rattle.likelihood.specs.inner.Walk.{row_of, time_of}

module _ (m : Model) (n : ℕ) where
  -- row i as it lies in memory
  abbrev pub row_at : Bool → ℕ → List Float
  row_at back i = tab m.states (row_of back m n i)

  first_is : (back : Bool) (initial end emissions : List Float) → length initial ≡ m.states → length end ≡ m.states
      → at initial ≡ m.initial → at end ≡ m.end → emissions ≡ tab m.states (m.emission 0)
      → row_zero back initial end emissions ≡ row_at back 0
  unfolding alpha beta
  first_is false initial end emissions i e a b h = first_row_is m initial emissions i a h
  first_is true initial end emissions i e a b h = sym (tab_own end minus_infinity) ∙ rw (e, b)

  -- a cell, where row i is the one before
  next_is : (back : Bool) (i : ℕ) (transition emissions row : List Float) → transition_of m.states transition ≡ m.transition
      → emissions ≡ tab m.states (m.emission (time_of back n i)) → row ≡ row_at back i
      → (j : ℕ) → j < m.states → cell_of back m.states transition emissions row j ≡ row_of back m n (i + 1) j
  unfolding cell_term alpha beta
  next_is false i transition emissions row a h e j s =
      let now : emissions ≡ tab m.states (m.emission (suc i)) = rw (add-one i) at h in
      let entering : at emissions j ≡ m.emission (suc i) j = rw now (get_or_tab m.states _ j minus_infinity s) in
      rw (add-one i, e)
      (ln_sum_same m.states _ _ (λ k t.
      ap₂ ◌⊕◌ (ap₂ ◌⊕◌ (get_or_tab m.states _ k minus_infinity t) (ap (λ (f : ℕ → ℕ → Float). f k j) a)) entering))
  next_is true i transition emissions row a h e j s =
      rw (add-one i, e, h)
      (ln_sum_same m.states _ _ (λ k t.
      ap₂ ◌⊕◌ (ap₂ ◌⊕◌ (get_or_tab m.states _ k minus_infinity t) (ap (λ (f : ℕ → ℕ → Float). f j k) a))
      (get_or_tab m.states _ k minus_infinity t)))

  module _ (back : Bool) where
    -- the first row stands over o
    abbrev pub First : List Float → List Float → Type 0
    First o cur = cur ≡ over 0 (table 1 m.states (row_of back m n)) o

    -- i rows stand over o
    abbrev pub Rows : List Float → List Float → ℕ → Type 0
    Rows o cur i = Whole n m.states (row_of back m n) o cur i (i * m.states)

    row_long : (i : ℕ) → length (row_at back i) ≡ m.states
    row_long i = length_tab m.states (row_of back m n i)

    pub first_laid : (initial end emissions o cur : List Float) → length initial ≡ m.states → length end ≡ m.states
        → at initial ≡ m.initial → at end ≡ m.end → emissions ≡ tab m.states (m.emission 0)
        → Begun back initial end emissions o cur → First o cur
    unfolding flat
    first_laid initial end emissions o cur i e a b h d =
        d ∙ ap (λ (p : List Float). over 0 p o) (first_is back initial end emissions i e a b h)

    -- the loop starts with the first row
    pub rows_begun : (o cur : List Float) → 0 < n → length cur ≡ length o → First o cur → Rows o cur (0 + 1)
    rows_begun o cur some kept e = record { within = some; start = refl; kept = kept; is = e }

    -- row i + 1 is laid after row i
    pub next_laid : (i : ℕ) (transition emissions o cur new : List Float) → transition_of m.states transition ≡ m.transition
        → emissions ≡ tab m.states (m.emission (time_of back n i)) → n * m.states ≤ length o → Rows o cur (i + 1)
        → i + 1 < n → Stepped back m.states (i * m.states) transition emissions cur new → Rows o new (i + 1 + 1)
    next_laid i transition emissions o cur new a h room inv more d =
        let row = row_back i m.states (i * m.states) (row_at back) o cur row_long inv.is refl in
        let cells = tab_same m.states _ _ (next_is back i transition emissions _ a h row) in
        let place : i * m.states + m.states ≡ (i + 1) * m.states = omega arith in
        let next : (i + 1) * m.states + m.states ≡ (i + 1 + 1) * m.states = omega arith in
        rw next at (whole_more n m.states _ o room cur new _ (i + 1) ((i + 1) * m.states) inv more cells (rw place at d))
