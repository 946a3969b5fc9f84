-- What a sum over n terms comes to once it is closed, and that it knows no term but those n; and the turns of a running sum.
use Prim.Native.Nat.{ℕ, zero, suc, ◌+◌, ◌<◌}
use native.Mathlib.Nat.{lt-suc_self}
use native.Mathlib.Numerals.{add-one}
use native.Mathlib.Omega.{arith}
use mathlib.Core.Path.{◌≡◌, refl}
use lib.Ieee.{Float}
use Rattle.floats.specs.Float.{minus_infinity}
use Rattle.sums.specs.Sum.{peak, exp_sum, grown, ln_sum}
use Rattle.sums.specs.inner.Open.{opened, closed_sum}
use Rattle.sums.specs.Pair.{ln_add, ln_cumsum}
use Rattle.sums.specs.declared.sum.Peak.{Peak}
use Rattle.sums.specs.declared.sum.Open.{Open}

-- ---- a sum that was left open and is closed
pub closed_done : (n : ℕ) (f : ℕ → Float) (o : Open) → o ≡ opened n f → closed_sum o ≡ ln_sum n f
unfolding opened closed_sum grown ln_sum
closed_done n f o e = rw e

-- ---- the terms matter below n only
pub peak_same : (n : ℕ) (f g : ℕ → Float) → ((k : ℕ) → k < n → f k ≡ g k) → peak n f ≡ peak n g
unfolding peak
peak_same zero f g h = refl
peak_same (suc n) f g h = rw (peak_same n f g (λ k l. h k (omega arith)), h n (lt-suc_self n))

pub exp_sum_same : (p : Peak) (n : ℕ) (f g : ℕ → Float) → ((k : ℕ) → k < n → f k ≡ g k) → exp_sum p n f ≡ exp_sum p n g
unfolding exp_sum
exp_sum_same p zero f g h = refl
exp_sum_same p (suc n) f g h = rw (exp_sum_same p n f g (λ k l. h k (omega arith)), h n (lt-suc_self n))

pub ln_sum_same : (n : ℕ) (f g : ℕ → Float) → ((k : ℕ) → k < n → f k ≡ g k) → ln_sum n f ≡ ln_sum n g
unfolding ln_sum
ln_sum_same n f g h = rw (peak_same n f g h, exp_sum_same (peak n g) n f g h)

-- ---- the running sum of `ln_cumsum_exp`
pub cumsum_none : (f : ℕ → Float) → minus_infinity ≡ ln_cumsum 0 f
unfolding ln_cumsum
cumsum_none f = refl

-- x is the next term
pub cumsum_more : (f : ℕ → Float) (n : ℕ) (s r x : Float) → s ≡ ln_cumsum n f → x ≡ f n → r ≡ ln_add s x → r ≡ ln_cumsum (n + 1) f
unfolding ln_cumsum
cumsum_more f n s r x e v g = rw (add-one, ← e, ← v) g
