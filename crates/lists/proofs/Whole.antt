-- A loop that lays a table over a list row by row: what it knows before row i.
use Prim.Native.Nat.{ℕ, ◌+◌, ◌*◌, ◌≤◌, ◌<◌}
use native.Mathlib.Nat.{zero-mul}
use native.Mathlib.Omega.{arith}
use mathlib.Core.Path.{◌≡◌, refl, sym, ap, ◌∙◌}
use mathlib.Core.List.{List}
use lib.ListN.{length}
use Rattle.lists.specs.Lists.{tab, flat, table, over}
use Rattle.lists.proofs.Places.{row_room, next_at}
use Rattle.lists.proofs.Over.{length_tab, length_over, over_none}
use Rattle.lists.proofs.Rows.{over_row}

module _ {A : Type 0} (n s : ℕ) (f : ℕ → ℕ → A) (l : List A) where
  -- cur is the list so far, of the n rows of s places i are laid, and the next starts at base
  pub record Whole (cur : List A) (i base : ℕ) : Type 0 where
    pub within : i ≤ n
    pub start : base ≡ i * s
    pub kept : length cur ≡ length l
    pub is : cur ≡ over 0 (table i s f) l

  pub whole_none : Whole l 0 0
  unfolding flat
  whole_none = record { within = omega arith; start = sym (zero-mul s); kept = refl; is = sym (over_none 0 l) }

  -- there is room for the next row
  pub whole_room : n * s ≤ length l → (cur : List A) (i base : ℕ) → Whole cur i base → i < n → base + s ≤ length cur
  whole_room room cur i base inv h =
      let r = row_room i n s h in
      omega (arith, r, inv.start, inv.kept)

  -- row q is laid next
  pub whole_more : n * s ≤ length l → (cur new q : List A) (i base : ℕ) → Whole cur i base → i < n → q ≡ tab s (f i)
      → new ≡ over base q cur → Whole new (i + 1) (base + s)
  whole_more room cur new q i base inv h v e =
      let long : length q ≡ s = ap length v ∙ length_tab s (f i) in
      let r = whole_room room cur i base inv h in
      let within : base + length q ≤ length cur = rw long r in
      record {
        within = omega arith;
        start = next_at i s base inv.start;
        kept = ap length e ∙ length_over base q cur within ∙ inv.kept;
        is = e ∙ over_row i s base _ l cur q (λ (t : ℕ). length_tab s (f t)) inv.is inv.start (rw inv.kept at r) v;
      }

  pub whole_done : (cur : List A) (i base : ℕ) → Whole cur i base → n ≤ i → cur ≡ over 0 (table n s f) l
  whole_done cur i base inv h = let e : i ≡ n = omega (arith, inv.within) in inv.is ∙ ap (λ (k : ℕ). over 0 (table k s f) l) e
