-- No NaN and no +inf arises in a pass that is let through: where both walks stay at most at the lid and the likelihood is finite, every
-- occupancy, arc and sum of them is capped. Gamma is never below the last occupancy, so a pass never gives 10 (RULES 7).
use Prim.Native.Nat.{ℕ, zero, suc, ◌-◌, ◌<◌, ◌≤◌}
use native.Mathlib.Omega.{arith}
use mathlib.Core.Bool.{Bool, true, false, cond}
use mathlib.Core.List.{List}
use lib.Dec.{T, eqb}
use lib.Ieee.{Float, binary64, le, fits}
use lib.Ieee.Fits.{sub-fits}
use lib.Ieee.Scale.{finite}
use Rattle.floats.specs.Float.{◌⊕◌, ◌⊖◌, capped}
use Rattle.floats.proofs.Add.{capped_le, capped_num}
use Rattle.floats.proofs.Largest.{largest}
use Rattle.floats.proofs.Ceiling.{most, lid, lid_add, double, two_lids, double_add, less_largest}
use Rattle.sums.specs.Sum.{Numbers}
use Rattle.sums.specs.Pair.{ln_add}
use Rattle.sums.proofs.Bounds.{ln_sum_above, ln_sum_capped, ln_sum_fits}
use Rattle.sums.proofs.Pairs.{ln_add_capped, ln_add_fits, ln_sub_capped}
use Rattle.model.specs.Model.{sample_at}
use Rattle.occupancy.specs.Occupancy.{Walks, occupancy, last_occupancy, gamma, emitted, denominator, arc, arc_sum}

-- what is left of two lids, less a finite f64
less : (x p : Float) → T (le x double) → T (finite p) → T (fits binary64 p) → T (capped (x ⊖ p))
less x p h g f = capped_le (x ⊖ p) largest (less_largest x p h g f) tt

-- both walks over S states stay at most at the lid, and their likelihood is a finite f64
pub record Lidded (S : ℕ) (w : Walks) : Type 0 where
  pub some : 0 < w.count
  pub alpha : (t i : ℕ) → t < w.count → i < S → T (le (w.alpha t i) lid)
  pub beta : (t i : ℕ) → t < w.count → i < S → T (le (w.beta t i) lid)
  pub likely : T (finite w.probx)
  pub likelihood : T (fits binary64 w.probx)

module _ {S : ℕ} {w : Walks} (lids : Lidded S w) (i : ℕ) (s : i < S) where
  pub occupancy_capped : (t : ℕ) → t < w.count → T (capped (occupancy w i t))
  unfolding occupancy
  occupancy_capped t h =
      let back = w.count - 1 - t in
      less (w.alpha t i ⊕ w.beta back i) w.probx
      (two_lids (w.alpha t i) (w.beta back i) (lids.alpha t i h s) (lids.beta back i (omega arith) s)) lids.likely lids.likelihood

  occupancy_fits : (t : ℕ) → T (fits binary64 (occupancy w i t))
  unfolding occupancy
  occupancy_fits t = sub-fits binary64 (w.alpha t i ⊕ w.beta (w.count - 1 - t) i) w.probx

  occupancies : Numbers w.count (occupancy w i)
  occupancies t h = capped_num (occupancy w i t) (occupancy_capped t h)

  pub gamma_capped : T (capped (gamma w i))
  unfolding gamma
  gamma_capped = ln_sum_capped w.count (occupancy w i) occupancy_capped (λ t _. occupancy_fits t)

  -- gamma is at least each occupancy
  pub gamma_above : (t : ℕ) → t < w.count → T (le (occupancy w i t) (gamma w i))
  unfolding gamma
  gamma_above t h = ln_sum_above w.count (occupancy w i) occupancies (λ k _. occupancy_fits k) t h

  -- so no difference of the two is negative
  pub last_below_lem : T (le (last_occupancy w i) (gamma w i))
  last_below_lem = gamma_above (w.count - 1) (omega (arith, lids.some))

  gamma_fits : T (fits binary64 (gamma w i))
  unfolding gamma
  gamma_fits = ln_sum_fits w.count (occupancy w i) (λ k _. occupancy_fits k)

  pub denominator_capped : (ends : Bool) → T (capped (denominator ends w i))
  unfolding denominator
  denominator_capped true = gamma_capped
  denominator_capped false = ln_sub_capped (gamma w i) (last_occupancy w i) last_below_lem gamma_fits gamma_capped

  emitted_fits : (samples : List ℕ) (x t : ℕ) → T (fits binary64 (emitted w samples i x t))
  unfolding emitted
  emitted_fits samples x zero = unfold fits in tt
  emitted_fits samples x (suc t) = pick (eqb (sample_at samples t) x) (emitted w samples i x t) (emitted_fits samples x t)
    where
      pick : (b : Bool) (e : Float) → T (fits binary64 e) → T (fits binary64 (cond b (ln_add e (occupancy w i t)) e))
      pick true e r = ln_add_fits e (occupancy w i t) r (occupancy_fits t)
      pick false e r = r

  pub emitted_capped : (samples : List ℕ) (x t : ℕ) → t ≤ w.count → T (capped (emitted w samples i x t))
  unfolding emitted
  emitted_capped samples x zero h = tt
  emitted_capped samples x (suc t) h =
      pick (eqb (sample_at samples t) x) (emitted w samples i x t) (emitted_fits samples x t) (emitted_capped samples x t (omega arith))
    where
      pick : (b : Bool) (e : Float) → T (fits binary64 e) → T (capped e) → T (capped (cond b (ln_add e (occupancy w i t)) e))
      pick true e f r = ln_add_capped e (occupancy w i t) r (occupancy_capped t h) f (occupancy_fits t)
      pick false e f r = r

  -- the entries that the arcs read are low
  module _ (transition emission : ℕ → ℕ → Float) (j : ℕ) (s' : j < S) (low : T (le (transition i j) most)) where
    abbrev Seen : Type 0
    Seen = (t : ℕ) → t < w.count → T (le (emission t j) most)

    arc_capped : Seen → (t : ℕ) → t < w.count - 1 → T (capped (arc transition emission w i j t))
    unfolding arc
    arc_capped seen t h =
        let x = w.alpha t i ⊕ transition i j in
        let b = w.beta (w.count - 2 - t) j in
        let from = lid_add (w.alpha t i) (transition i j) (lids.alpha t i (omega arith) s) low in
        let to = two_lids x b from (lids.beta (w.count - 2 - t) j (omega arith) s') in
        less ((x ⊕ b) ⊕ emission (suc t) j) w.probx (double_add (x ⊕ b) (emission (suc t) j) to (seen (suc t) (omega arith)))
        lids.likely lids.likelihood

    arc_fits : (t : ℕ) → T (fits binary64 (arc transition emission w i j t))
    unfolding arc
    arc_fits t = sub-fits binary64 _ w.probx

    pub arcs_capped : Seen → T (capped (arc_sum transition emission w i j))
    unfolding arc_sum
    arcs_capped seen = ln_sum_capped (w.count - 1) (arc transition emission w i j) (arc_capped seen) (λ t _. arc_fits t)
