-- What a pass answers by the mass that it finds.
use Prim.Native.Nat.{ℕ, ◌<◌, ◌≤◌}
use native.Mathlib.Omega.{arith}
use mathlib.Core.Path.{◌≡◌, sym, ap, ◌∙◌}
use mathlib.Core.Bool.{Bool, true, false, ◌||◌}
use borrow.Author.Tests.{lt-ltb, le-ltb}
use lib.Ieee.{Float}
use Rattle.floats.specs.Float.{is_minus_infinity, minus_infinity}
use Rattle.lists.specs.First.{first}
use Rattle.lists.proofs.First.{first_stop}
use Rattle.answer.specs.Answer.{is_done, done, refuse}
use Rattle.answer.specs.Checks.{first_of}
use Rattle.answer.specs.declared.Answer.{Answer}
use Rattle.answer.specs.declared.Refusal.TheVariants.{ZeroMass}
use Rattle.model.specs.Lent.{S}
use Rattle.occupancy.specs.declared.Pass.{Pass}
use Rattle.occupancy.specs.Occupancy.{Walks, gamma, denominator, massless}
use Rattle.occupancy.specs.inner.Rows.{lent_of, rows_of}
use Rattle.baum_welch.specs.Call.{mass_tests}
use Rattle.baum_welch.specs.inner.Tables.{shape_of, mass_refusal}

module _ (S : ℕ) (ends : Bool) (w : Walks) where
  -- the first state that has no mass
  abbrev pub hollow : ℕ
  hollow = first (massless ends w) S

  pub mass_state : is_minus_infinity w.probx ≡ false → hollow < S → first_of (mass_tests S ends w) ≡ refuse ZeroMass 0 hollow
  unfolding first_of
  mass_state h l = rw (h, lt-ltb hollow S l)

  -- where the samples can be and none of S states is without mass, the tests answer done
  pub mass_found : is_minus_infinity w.probx ≡ false → S ≤ hollow → first_of (mass_tests S ends w) ≡ done minus_infinity
  unfolding first_of
  mass_found h l = rw (h, le-ltb hollow S l)

-- what the code tests of state i, by its gamma and its denominator
pub tested : (ends : Bool) (w : Walks) (i : ℕ) (r : Bool) (g d : Float) → r ≡ (is_minus_infinity g || is_minus_infinity d) → g ≡ gamma w i
    → d ≡ denominator ends w i → massless ends w i ≡ r
unfolding massless
tested ends w i r g d e h k = rw (← h, ← k) (sym e)

module _ (p : Pass) where
  abbrev states : ℕ
  states = S (lent_of p)

  -- below the state, none is without mass
  abbrev Below : ℕ → Type 0
  Below i = hollow i (shape_of p).ends (rows_of p) ≡ i

  -- refused: the samples cannot be at all, or state i has no mass
  abbrev Refused : Answer → Type 0
  Refused r = (is_done r ≡ false) × (r ≡ mass_refusal p)

  pub whole_refused : (r : Answer) → r ≡ refuse ZeroMass 0 states → is_minus_infinity p.probx ≡ true → Refused r
  unfolding first_of
  whole_refused r e h = (ap is_done e, rw h e)

  pub state_refused : (r : Answer) (i : ℕ) → r ≡ refuse ZeroMass 0 i → is_minus_infinity p.probx ≡ false → Below i → i < states
      → massless (shape_of p).ends (rows_of p) i ≡ true → Refused r
  state_refused r i e h below l there =
      let stop = first_stop _ i states below there l in
      (ap is_done e, e ∙ ap (refuse ZeroMass 0) stop ∙ sym (mass_state states (shape_of p).ends _ h (rw stop at l)))

  -- so a pass is not refused where every state has mass
  pub mass_passed : is_minus_infinity p.probx ≡ false → Below states → is_done (mass_refusal p) ≡ true
  mass_passed h below = ap is_done (mass_found states (shape_of p).ends (rows_of p) h (omega (arith, below)))
