-- The sums of a state's occupancies by symbol, a sample at a time.
use Prim.Native.Nat.{ℕ, ◌+◌, ◌<◌, ◌≤◌}
use native.Mathlib.Numerals.{add-one}
use native.Mathlib.Omega.{arith}
use mathlib.Core.Path.{◌≡◌, refl, sym, ap, ◌∙◌}
use mathlib.Core.Bool.{Bool, true, false, cond}
use mathlib.Core.List.{List}
use borrow.Author.Tests.{eqb-true, eqb-false}
use lib.Dec.{eqb}
use lib.ListN.{set, get_or, replicate, length-replicate, get_or-replicate, length-set}
use lib.Seq.{get_or-set_same, get_or-set_other}
use lib.Ieee.{Float, nan}
use Rattle.floats.specs.Float.{at, minus_infinity}
use Rattle.lists.proofs.Over.{get_d_any}
use Rattle.sums.specs.Pair.{ln_add}
use Rattle.model.specs.Model.{sample_at}
use Rattle.occupancy.specs.Occupancy.{Walks, occupancy, emitted}
use Rattle.occupancy.specs.inner.Rows.{Holds}

module _ (w : Walks) (samples : List ℕ) (i M : ℕ) where
  -- sums holds what is emitted before time t
  abbrev pub Emitted : List Float → ℕ → Type 0
  Emitted sums t = Holds M (λ (x : ℕ). emitted w samples i x t) sums

  pub emitted_none : (n : ℕ) (v : Float) → M ≤ n → v ≡ minus_infinity → Emitted (replicate n v) 0
  unfolding emitted
  emitted_none n v h e =
      record {
        room = rw (length-replicate n v) h;
        is = λ x l. get_or-replicate n x v minus_infinity (omega arith) ∙ e;
      }

  -- the sample at time t is x; an array is read with a NaN past its end
  pub emitted_more : (sums : List Float) (t x : ℕ) (v : Float) → Emitted sums t → x ≡ sample_at samples t → x < M
      → v ≡ ln_add (get_or sums x nan) (occupancy w i t) → Emitted (set sums x v) (t + 1)
  unfolding emitted
  emitted_more sums t x v inv e h is =
      record {
        room = rw (length-set sums x v) inv.room;
        is = λ y l. rw (add-one t, ← e) (go y l (eqb x y) (eqb-true x y) (eqb-false x y));
      }
    where
      go : (y : ℕ) → y < M → (b : Bool) → (b ≡ true → x ≡ y) → (b ≡ false → x ≡ y → ⊥)
          → at (set sums x v) y ≡ cond b (ln_add (emitted w samples i y t) (occupancy w i t)) (emitted w samples i y t)
      go y l true p q =
          let set_there = get_or-set_same sums x v minus_infinity (omega (arith, inv.room)) in
          let was : get_or sums x nan ≡ emitted w samples i x t = get_d_any sums x nan minus_infinity (omega (arith, inv.room)) ∙ inv.is x h in
          rw (← p refl) (set_there ∙ is ∙ ap (λ (z : Float). ln_add z (occupancy w i t)) was)
      go y l false p q = get_or-set_other sums x y v minus_infinity (λ r. q refl (sym r)) ∙ inv.is y l
