-- A row of shares, from the sums that an array holds, is the row of the new table; and tables that are laid row by row.
use Prim.Native.Nat.{ℕ, ◌+◌, ◌*◌, ◌<◌, ◌≤◌}
use native.Mathlib.Omega.{arith}
use mathlib.Core.Path.{◌≡◌, refl, sym, ap₂, ◌∙◌}
use mathlib.Core.List.{List}
use lib.ListN.{length, take, get_or}
use lib.Seq.{length-take-le, get_or-take}
use lib.Ieee.{Float, nan}
use Rattle.floats.specs.Float.{at, minus_infinity}
use Rattle.lists.specs.Lists.{tab, flat, table, over}
use Rattle.lists.proofs.Over.{tab_same, get_d_any, length_tab, over_none}
use Rattle.lists.proofs.Rows.{over_row}
use Rattle.lists.proofs.Places.{row_room}
use Rattle.occupancy.specs.Occupancy.{Walks, gamma, emitted}
use Rattle.occupancy.specs.inner.Rows.{Holds}
use Rattle.baum_welch.specs.Pass.{share, new_emission}
use Rattle.baum_welch.specs.inner.Tables.{shares_of}

-- of n sums, where the code divides by d, which is g
pub shares_row : (n : ℕ) (f : ℕ → Float) (g : Float) (sums : List Float) (d : Float) → Holds n f sums → d ≡ g
    → tab (length (take n sums)) (shares_of (take n sums) d) ≡ tab n (λ (k : ℕ). share (f k) g)
shares_row n f g sums d h e =
    rw (length-take-le n sums h.room) (tab_same n _ _ (λ (k : ℕ) l. ap₂ share (get_or-take n sums k minus_infinity l ∙ h.is k l) e))

-- of state i, by symbol
pub emission_row : (w : Walks) (samples : List ℕ) (i n : ℕ) (sums : List Float) (d : Float)
    → Holds n (λ (x : ℕ). emitted w samples i x w.count) sums → d ≡ gamma w i
    → tab (length (take n sums)) (shares_of (take n sums) d) ≡ tab n (new_emission w samples i)
unfolding new_emission
emission_row w samples i n sums d h e = shares_row n (λ (x : ℕ). emitted w samples i x w.count) (gamma w i) sums d h e

-- what the code reads within a list
pub read_at : (xs : List Float) (k : ℕ) → k < length xs → get_or xs k nan ≡ at xs k
read_at xs k h = get_d_any xs k nan minus_infinity h

-- ---- a table of n rows of s places over a list, a row at a time
module _ (s : ℕ) (f : ℕ → ℕ → Float) (l : List Float) where
  pub rows_none : l ≡ over 0 (table 0 s f) l
  unfolding flat
  rows_none = sym (over_none 0 l)

  -- row i is laid next
  pub rows_more : (n i : ℕ) (cur new row : List Float) → cur ≡ over 0 (table i s f) l → i < n → n * s ≤ length l → new ≡ over (i * s) row cur
      → row ≡ tab s (f i) → new ≡ over 0 (table (i + 1) s f) l
  rows_more n i cur new row inv h room e v =
      let r = row_room i n s h in
      e ∙ over_row i s (i * s) _ l cur row (λ (t : ℕ). length_tab s (f t)) inv refl (omega arith) v
