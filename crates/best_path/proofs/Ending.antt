-- How a score ends, `closed`: what the laws of the walk need of it, so that none of them looks into it.
use Prim.Native.Nat.{ℕ}
use mathlib.Core.Path.{◌≡◌, sym}
use mathlib.Core.Bool.{Bool, true, false, true≢false}
use lib.Dec.{T}
use lib.Ieee.{Float, binary64, le}
use Rattle.floats.specs.Float.{capped}
use Rattle.floats.proofs.Add.{add_mono}
use Rattle.floats.proofs.Ceiling.{lid, most, lid_add}
use Rattle.model.specs.Model.{Model}
use Rattle.best_path.specs.Walk.{ended, closed}
use Rattle.best_path.proofs.Ranks.{Placed, placed_sum}

-- ---- a score grows with what it ends from and with the end entry
-- m's end entry of state j is at most h's, which is neither NaN nor +∞
pub record EndBelow (m h : Model) (j : ℕ) : Type 0 where
  pub ends : m.ends ≡ h.ends
  pub end_capped : T (capped (h.end j))
  pub end_below : T (le (m.end j) (h.end j))

ended_mono : (s t : Bool) (d e x y : Float) → s ≡ t → T (capped e) → T (le d e) → T (capped y) → T (le x y) → T (le (ended s d x) (ended t e y))
unfolding ended
ended_mono true true d e x y same k b c l = add_mono binary64 x y d e c k l b
ended_mono true false d e x y same k b c l = absurd (true≢false same)
ended_mono false true d e x y same k b c l = absurd (true≢false (sym same))
ended_mono false false d e x y same k b c l = l

pub closed_mono : (m h : Model) (j : ℕ) (x y : Float) → EndBelow m h j → T (capped y) → T (le x y) → T (le (closed m j x) (closed h j y))
closed_mono m h j x y e c l = ended_mono m.ends h.ends (m.end j) (h.end j) x y e.ends e.end_capped e.end_below c l

-- ---- it has a place in the order where what it ends from has one
pub ended_placed : (ends : Bool) (e x : Float) → T (capped e) → T (capped x) → Placed x → Placed (ended ends e x)
unfolding ended
ended_placed true e x k c p = placed_sum x e c k
ended_placed false e x k c p = p

-- ---- and is at most the lid where that is
pub ended_lid : (ends : Bool) (e x : Float) → T (le e most) → T (le x lid) → T (le (ended ends e x) lid)
unfolding ended
ended_lid true e x h l = lid_add x e l h
ended_lid false e x h l = l
