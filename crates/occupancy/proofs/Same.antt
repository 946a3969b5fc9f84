-- Two walks that agree on every row and state, as the rows in memory and those of a model do, say the same of states, arcs and symbols.
use Prim.Native.Nat.{ℕ, zero, suc, ◌-◌, ◌≤◌, ◌<◌}
use native.Mathlib.Omega.{arith}
use mathlib.Core.Path.{◌≡◌, refl, ap₂}
use mathlib.Core.Bool.{Bool, cond, ◌||◌}
use mathlib.Core.List.{List}
use lib.Dec.{eqb}
use lib.Ieee.{Float}
use Rattle.floats.specs.Float.{◌⊕◌, ◌⊖◌, is_minus_infinity}
use Rattle.sums.specs.Pair.{ln_add, ln_sub}
use Rattle.sums.proofs.Loops.{ln_sum_same}
use Rattle.model.specs.Model.{sample_at}
use Rattle.occupancy.specs.Occupancy.{Walks, occupancy, last_occupancy, gamma, emitted, denominator, massless, arc, arc_sum}

-- walks of n samples, by rows
abbrev pub of_rows : ℕ → (ℕ → ℕ → Float) → (ℕ → ℕ → Float) → Float → Walks
of_rows n a b p = record { count = n; alpha = a; beta = b; probx = p }

-- over n samples and S states
pub record Agree (S n : ℕ) (a a' b b' : ℕ → ℕ → Float) : Type 0 where
  pub some : 0 < n
  pub alpha : (t i : ℕ) → t < n → i < S → a t i ≡ a' t i
  pub beta : (t i : ℕ) → t < n → i < S → b t i ≡ b' t i

module _ {S n : ℕ} {a a' b b' : ℕ → ℕ → Float} (p : Float) (same : Agree S n a a' b b') (i : ℕ) (s : i < S) where
  abbrev w : Walks
  w = of_rows n a b p

  abbrev w' : Walks
  w' = of_rows n a' b' p

  pub occupancy_same : (t : ℕ) → t < n → occupancy w i t ≡ occupancy w' i t
  unfolding occupancy
  occupancy_same t h = ap₂ (λ (x y : Float). (x ⊕ y) ⊖ p) (same.alpha t i h s) (same.beta (n - 1 - t) i (omega arith) s)

  pub last_same : last_occupancy w i ≡ last_occupancy w' i
  last_same = occupancy_same (n - 1) (omega (arith, same.some))

  pub gamma_same : gamma w i ≡ gamma w' i
  unfolding gamma
  gamma_same = ln_sum_same n (occupancy w i) (occupancy w' i) occupancy_same

  pub denominator_same : (ends : Bool) → denominator ends w i ≡ denominator ends w' i
  unfolding denominator
  denominator_same ends = ap₂ (λ (g o : Float). cond ends g (ln_sub g o)) gamma_same last_same

  pub massless_same : (ends : Bool) → massless ends w i ≡ massless ends w' i
  unfolding massless
  massless_same ends = ap₂ (λ (g d : Float). is_minus_infinity g || is_minus_infinity d) gamma_same (denominator_same ends)

  pub emitted_same : (samples : List ℕ) (x t : ℕ) → t ≤ n → emitted w samples i x t ≡ emitted w' samples i x t
  unfolding emitted
  emitted_same samples x zero h = refl
  emitted_same samples x (suc t) h =
      ap₂ (λ (e o : Float). cond (eqb (sample_at samples t) x) (ln_add e o) e) (emitted_same samples x t (omega arith)) (occupancy_same t h)

  module _ (transition emission : ℕ → ℕ → Float) (j : ℕ) (s' : j < S) where
    arc_same : (t : ℕ) → t < n - 1 → arc transition emission w i j t ≡ arc transition emission w' i j t
    unfolding arc
    arc_same t h =
        ap₂ (λ (x y : Float). (((x ⊕ transition i j) ⊕ y) ⊕ emission (suc t) j) ⊖ p)
        (same.alpha t i (omega arith) s) (same.beta (n - 2 - t) j (omega arith) s')

    pub arcs_same : arc_sum transition emission w i j ≡ arc_sum transition emission w' i j
    unfolding arc_sum
    arcs_same = ln_sum_same (n - 1) (arc transition emission w i j) (arc transition emission w' i j) arc_same
