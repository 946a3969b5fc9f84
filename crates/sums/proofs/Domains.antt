-- Nothing leaves the kernels' domains: a sum of numbers takes exp at 0 or below and ln at 1 or above.
use Prim.Native.Nat.{ℕ, zero, suc, ◌<◌}
use mathlib.Core.Path.{◌≡◌}
use mathlib.Core.Bool.{Bool, true, false, cond, ◌||◌}
use lib.Dec.{T, eqb}
use lib.Ieee.{Float, binary64, le}
use Rattle.floats.specs.Float.{◌⊕◌, ◌⊖◌, nought, one, is_minus_infinity, is_infinite}
use Rattle.floats.specs.inner.Sign.{nonneg}
use Rattle.floats.proofs.Sub.{sub_nonpos}
use Rattle.floats.proofs.Finite.{number_finite}
use Rattle.floats.proofs.Sign.{add_nonneg}
use Rattle.floats.proofs.Unit.{one_plus}
use Rattle.kernels.specs.Exp.{exp_of}
use Rattle.kernels.proofs.ExpLaws.{exp_nonneg}
use Rattle.sums.specs.Sum.{Numbers, peak, plus_exp, exp_sum}
use Rattle.sums.specs.declared.sum.Peak.{Peak}
use Rattle.sums.proofs.Peaks.{peak_number, peak_top}

-- exp is taken at x - p, p being the first greatest of numbers, where it is finite
pub exp_domain : (n : ℕ) (f : ℕ → Float) → Numbers n f → is_infinite (peak n f).value ≡ false → (k : ℕ) → k < n → T (le (f k ⊖ (peak n f).value) nought)
exp_domain n f h e k l = sub_nonpos binary64 (f k) (peak n f).value (number_finite (peak n f).value (peak_number n f h) e) (peak_top n f h k l)

-- ---- the sum of the exponentials is not negative
-- a property of the sum that stays, and of the one that exp is added to
pub plus_exp_keeps : (P : Float → Type 0) (p : Peak) (s x : Float) (k : ℕ) → P s → P (s ⊕ exp_of (x ⊖ p.value)) → P (plus_exp p s x k)
unfolding plus_exp
plus_exp_keeps P p s x k h g = go (eqb k p.place || is_minus_infinity x)
  where
    go : (t : Bool) → P (cond t s (s ⊕ exp_of (x ⊖ p.value)))
    go true = h
    go false = g

pub exp_sum_nonneg : (p : Peak) (n : ℕ) (f : ℕ → Float) → T (nonneg (exp_sum p n f))
unfolding exp_sum
exp_sum_nonneg p zero f = tt
exp_sum_nonneg p (suc n) f =
    let h = exp_sum_nonneg p n f in
    plus_exp_keeps (λ (z : Float). T (nonneg z)) p (exp_sum p n f) (f n) n h (add_nonneg (exp_sum p n f) (exp_of (f n ⊖ p.value)) h (exp_nonneg (f n ⊖ p.value)))

-- ln is taken at 1 + sum
pub ln_domain : (p : Peak) (n : ℕ) (f : ℕ → Float) → T (le one (one ⊕ exp_sum p n f))
ln_domain p n f = one_plus (exp_sum p n f) (exp_sum_nonneg p n f)
