-- Both walks of a model as a pass meets them: the likelihood is the forward walk's value, and where no entry is high they stay at most at
-- the lid, so that no difference of theirs is negative.
use Prim.Native.Nat.{ℕ, zero, suc, ◌-◌, ◌<◌}
use native.Mathlib.Nat.{not-suc-le-zero}
use native.Mathlib.Omega.{arith}
use mathlib.Core.Path.{◌≡◌, ap}
use mathlib.Core.Bool.{false}
use lib.Dec.{T}
use lib.Ieee.{binary64, le, fits}
use lib.Ieee.Fits.{add-fits}
use Rattle.floats.specs.Float.{◌⊕◌, is_minus_infinity}
use Rattle.floats.proofs.Finite.{capped_finite}
use Rattle.floats.proofs.Ceiling.{lid, lid_capped}
use Rattle.sums.proofs.Loops.{ln_sum_same}
use Rattle.sums.proofs.Bounds.{ln_sum_fits}
use Rattle.model.specs.Model.{Model}
use Rattle.model.proofs.Low.{Low}
use Rattle.likelihood.specs.Walk.{alpha, beta, forward_value}
use Rattle.likelihood.proofs.Bounds.{alpha_lid, beta_lid, forward_lid}
use Rattle.occupancy.specs.Occupancy.{last_occupancy, gamma}
use Rattle.occupancy.proofs.Bounds.{Lidded, last_below_lem}
use Rattle.baum_welch.specs.Pass.{probx, walks}

pub probx_is : (m : Model) (n : ℕ) → 0 < n → forward_value m n ≡ probx m n
unfolding probx forward_value beta
probx_is m zero h = absurd (not-suc-le-zero h)
probx_is m (suc t) h =
    let e : t ≡ suc t - 1 = omega arith in
    ln_sum_same m.states _ _ (λ (k : ℕ) _. ap (λ (i : ℕ). alpha m i k ⊕ m.end k) e)

probx_fits : (m : Model) (n : ℕ) → T (fits binary64 (probx m n))
unfolding probx
probx_fits m n = ln_sum_fits m.states _ (λ k l. add-fits binary64 _ _)

pub walks_lidded : (m : Model) (n : ℕ) → 0 < n → Low m n → is_minus_infinity (probx m n) ≡ false → Lidded m.states (walks m n)
walks_lidded m zero h low likely = absurd (not-suc-le-zero h)
walks_lidded m (suc t) h low likely =
    let n = suc t in
    let value : T (le (probx m n) lid) = rw (← probx_is m n h) (forward_lid m t low) in
    record {
      some = h;
      alpha = alpha_lid m n low;
      beta = beta_lid m n low;
      likely = capped_finite (probx m n) (lid_capped (probx m n) value) likely;
      likelihood = probx_fits m n;
    }

-- gamma is never below the last occupancy, so a pass never gives 10 (RULES 7)
pub never_ten : (m : Model) (n : ℕ) → 0 < n → Low m n → is_minus_infinity (probx m n) ≡ false → (i : ℕ) → i < m.states
    → T (le (last_occupancy (walks m n) i) (gamma (walks m n) i))
never_ten m n some low likely i s = last_below_lem (walks_lidded m n some low likely) i s
