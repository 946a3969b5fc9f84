-- `ln_sum_exp` of f 0, .., f (n - 1) (RULES 5.2): the one sum that the leaf, forward, backward and training share, whatever its terms are.
use Rattle.std.specs.Prelude.{ℕ, zero, suc, ◌<◌, ◌≡◌, cond, ◌||◌, T, eqb, Float}
use Rattle.std.specs.Float.Ieee.{lt, le}
use Rattle.floats.specs.Float.{◌⊕◌, ◌⊖◌, nought, one, minus_infinity, is_minus_infinity, is_infinite, is_number}
use Rattle.kernels.specs.Exp.{exp_of}
use Rattle.kernels.specs.Ln.{ln_of}
use Rattle.sums.specs.declared.sum.Peak.{Peak}

-- none of the n is a NaN
abbrev pub Numbers : ℕ → (ℕ → Float) → Type 0
Numbers n f = (k : ℕ) → k < n → T (is_number (f k))

-- the first greatest entry so far and its place, before the first
abbrev pub no_peak : Peak
no_peak = record { value = minus_infinity; place = 0 }

-- x, at place k, comes next: it takes over where it is greater, so that of equal ones the first stays
unfoldable pub raised : Peak → Float → ℕ → Peak
raised p x k = cond (lt p.value x) (record { value = x; place = k }) p

-- RULES 5.2, step 1: p, the first greatest
unfoldable pub peak : ℕ → (ℕ → Float) → Peak
peak zero f = no_peak
peak (suc n) f = raised (peak n f) (f n) n

-- what the first greatest of n is: proofs/Peaks shows that it is `peak` of n numbers, and that no other is
pub record FirstGreatest (n : ℕ) (f : ℕ → Float) (p : Peak) : Type 0 where
  pub within : p.place < n
  pub held : f p.place ≡ p.value
  pub greatest : (k : ℕ) → k < n → T (le (f k) p.value)
  pub first : (k : ℕ) → k < p.place → T (lt (f k) p.value)

-- RULES 5.2, step 2: x, at place k, comes next, s being the sum so far; p itself and minus infinity add nothing
unfoldable pub plus_exp : Peak → Float → Float → ℕ → Float
plus_exp p s x k = cond (eqb k p.place || is_minus_infinity x) s (s ⊕ exp_of (x ⊖ p.value))

-- the terms are summed upward from 0.0
unfoldable pub exp_sum : Peak → ℕ → (ℕ → Float) → Float
exp_sum p zero f = nought
exp_sum p (suc n) f = plus_exp p (exp_sum p n f) (f n) n

-- RULES 5.2, step 3: p + ln(1 + sum), but p itself where it is infinite; it is minus infinity where there are no terms
unfoldable pub grown : Peak → Float → Float
grown p s = cond (is_infinite p.value) p.value (p.value ⊕ ln_of (one ⊕ s))

unfoldable pub ln_sum : ℕ → (ℕ → Float) → Float
ln_sum n f = grown (peak n f) (exp_sum (peak n f) n f)
