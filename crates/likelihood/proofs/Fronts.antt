-- What n terms at the front of an array sum up to, before the logarithm is taken.
use Rattle.std.proofs.Common.{◌≡◌, ℕ, ◌<◌, ◌≤◌, List, length, take, Float, ◌∙◌, length-take-le}
use lib.Seq.{get_or-take}
use Rattle.floats.specs.Float.{at, minus_infinity}
use Rattle.sums.specs.inner.Open.{opened}
use Rattle.sums.proofs.Loops.{peak_same, exp_sum_same}

-- the terms matter below n only
pub opened_same : (n : ℕ) (f g : ℕ → Float) → ((k : ℕ) → k < n → f k ≡ g k) → opened n f ≡ opened n g
unfolding opened
opened_same n f g h = rw (peak_same n f g h, exp_sum_same _ n f g h)

pub opened_front : (n : ℕ) (f : ℕ → Float) (terms : List Float) → n ≤ length terms → ((k : ℕ) → k < n → at terms k ≡ f k)
    → opened (length (take n terms)) (at (take n terms)) ≡ opened n f
opened_front n f terms room h =
    rw (length-take-le n terms room) (opened_same n _ f (λ k l. get_or-take n terms k minus_infinity l ∙ h k l))
