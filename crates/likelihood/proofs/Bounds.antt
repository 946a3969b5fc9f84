-- No number on a walk is NaN or +∞: where no entry is above 2^10 (`Low`), no cell of either walk and neither value is above the lid, 2^64,
-- which is too large to notice a further entry. So every sum is of numbers, and is at least each of its terms.
use Prim.Native.Nat.{ℕ, zero, suc, ◌-◌, ◌<◌}
use native.Mathlib.Omega.{arith}
use lib.Dec.{T}
use lib.Ieee.{Float, binary64, le, fits}
use lib.Ieee.Fits.{add-fits}
use Rattle.floats.specs.Float.{◌⊕◌}
use Rattle.floats.proofs.Ceiling.{lid, lid_add, most_lid, lid_number}
use Rattle.sums.specs.Sum.{Numbers}
use Rattle.sums.proofs.Bounds.{lid_ceiling, ln_sum_above, ln_sum_below, ln_sum_fits}
use Rattle.model.specs.Model.{Model}
use Rattle.model.proofs.Low.{Low}
use Rattle.likelihood.specs.Walk.{alpha, forward_value, beta, backward_value}

-- ---- the terms of the four sums
module _ (m : Model) where
  abbrev pub forward_term : ℕ → ℕ → ℕ → Float
  forward_term t j k = (alpha m t k ⊕ m.transition k j) ⊕ m.emission (suc t) j

  abbrev pub end_term : ℕ → ℕ → Float
  end_term t k = alpha m t k ⊕ m.end k

  abbrev pub backward_term : ℕ → ℕ → ℕ → ℕ → Float
  backward_term n i j k = (beta m n i k ⊕ m.transition j k) ⊕ m.emission (n - 1 - i) k

  abbrev pub start_term : ℕ → ℕ → ℕ → Float
  start_term n i k = (beta m n i k ⊕ m.initial k) ⊕ m.emission 0 k

  -- ---- below the lid
  module _ (n : ℕ) (low : Low m n) where
    forward_term_lem : (t j k : ℕ) → suc t < n → j < m.states → k < m.states → T (le (alpha m t k) lid) → T (le (forward_term t j k) lid)
    forward_term_lem t j k h s r b =
        lid_add (alpha m t k ⊕ m.transition k j) (m.emission (suc t) j)
        (lid_add (alpha m t k) (m.transition k j) b (low.transition k j r s)) (low.emission (suc t) j h s)

    pub alpha_lid : (t j : ℕ) → t < n → j < m.states → T (le (alpha m t j) lid)
    unfolding alpha
    alpha_lid zero j h s = lid_add (m.initial j) (m.emission 0 j) (most_lid (m.initial j) (low.initial j s)) (low.emission 0 j h s)
    alpha_lid (suc t) j h s = ln_sum_below m.states _ lid_ceiling (λ k r. forward_term_lem t j k h s r (alpha_lid t k (omega arith) r))

    pub forward_term_lid : (t j k : ℕ) → suc t < n → j < m.states → k < m.states → T (le (forward_term t j k) lid)
    forward_term_lid t j k h s r = forward_term_lem t j k h s r (alpha_lid t k (omega arith) r)

    pub forward_numbers : (t j : ℕ) → suc t < n → j < m.states → Numbers m.states (forward_term t j)
    forward_numbers t j h s k r = lid_number (forward_term t j k) (forward_term_lid t j k h s r)

    pub end_term_lid : (t k : ℕ) → t < n → k < m.states → T (le (end_term t k) lid)
    end_term_lid t k h r = lid_add (alpha m t k) (m.end k) (alpha_lid t k h r) (low.end k r)

    pub end_numbers : (t : ℕ) → t < n → Numbers m.states (end_term t)
    end_numbers t h k r = lid_number (end_term t k) (end_term_lid t k h r)

    backward_term_lem : (i j k : ℕ) → i < n → j < m.states → k < m.states → T (le (beta m n i k) lid) → T (le (backward_term n i j k) lid)
    backward_term_lem i j k h s r b =
        lid_add (beta m n i k ⊕ m.transition j k) (m.emission (n - 1 - i) k)
        (lid_add (beta m n i k) (m.transition j k) b (low.transition j k s r)) (low.emission (n - 1 - i) k (omega arith) r)

    pub beta_lid : (i j : ℕ) → i < n → j < m.states → T (le (beta m n i j) lid)
    unfolding beta
    beta_lid zero j h s = most_lid (m.end j) (low.end j s)
    beta_lid (suc i) j h s =
        ln_sum_below m.states _ lid_ceiling (λ k r. backward_term_lem i j k (omega arith) s r (beta_lid i k (omega arith) r))

    pub backward_term_lid : (i j k : ℕ) → i < n → j < m.states → k < m.states → T (le (backward_term n i j k) lid)
    backward_term_lid i j k h s r = backward_term_lem i j k h s r (beta_lid i k h r)

    pub backward_numbers : (i j : ℕ) → i < n → j < m.states → Numbers m.states (backward_term n i j)
    backward_numbers i j h s k r = lid_number (backward_term n i j k) (backward_term_lid i j k h s r)

    pub start_term_lid : (i k : ℕ) → i < n → k < m.states → T (le (start_term n i k) lid)
    start_term_lid i k h r =
        lid_add (beta m n i k ⊕ m.initial k) (m.emission 0 k)
        (lid_add (beta m n i k) (m.initial k) (beta_lid i k h r) (low.initial k r)) (low.emission 0 k (omega arith) r)

    pub start_numbers : (i : ℕ) → i < n → Numbers m.states (start_term n i)
    start_numbers i h k r = lid_number (start_term n i k) (start_term_lid i k h r)

    -- ---- the sums are at least each of their terms
    pub alpha_above : (t j k : ℕ) → suc t < n → j < m.states → k < m.states → T (le (forward_term t j k) (alpha m (suc t) j))
    unfolding alpha
    alpha_above t j k h s r =
        ln_sum_above m.states (forward_term t j) (forward_numbers t j h s)
        (λ i l. add-fits binary64 (alpha m t i ⊕ m.transition i j) (m.emission (suc t) j)) k r

    pub beta_above : (i j k : ℕ) → i < n → j < m.states → k < m.states → T (le (backward_term n i j k) (beta m n (suc i) j))
    unfolding beta
    beta_above i j k h s r =
        ln_sum_above m.states (backward_term n i j) (backward_numbers i j h s)
        (λ o l. add-fits binary64 (beta m n i o ⊕ m.transition j o) (m.emission (n - 1 - i) o)) k r

  -- ---- the values, of t + 1 samples
  module _ (t : ℕ) (low : Low m (suc t)) where
    pub forward_lid : T (le (forward_value m (suc t)) lid)
    unfolding forward_value
    forward_lid = ln_sum_below m.states (end_term t) lid_ceiling (λ k r. end_term_lid (suc t) low t k (omega arith) r)

    pub backward_lid : T (le (backward_value m (suc t)) lid)
    unfolding backward_value
    backward_lid = ln_sum_below m.states (start_term (suc t) t) lid_ceiling (λ k r. start_term_lid (suc t) low t k (omega arith) r)

    pub forward_above : (k : ℕ) → k < m.states → T (le (end_term t k) (forward_value m (suc t)))
    unfolding forward_value
    forward_above k r =
        ln_sum_above m.states (end_term t) (end_numbers (suc t) low t (omega arith))
        (λ i l. add-fits binary64 (alpha m t i) (m.end i)) k r

    pub backward_above : (k : ℕ) → k < m.states → T (le (start_term (suc t) t k) (backward_value m (suc t)))
    unfolding backward_value
    backward_above k r =
        ln_sum_above m.states (start_term (suc t) t) (start_numbers (suc t) low t (omega arith))
        (λ i l. add-fits binary64 (beta m (suc t) t i ⊕ m.initial i) (m.emission 0 i)) k r

  -- ---- every cell of the forward walk is an f64
  pub alpha_fits : (t j : ℕ) → T (fits binary64 (alpha m t j))
  unfolding alpha
  alpha_fits zero j = add-fits binary64 (m.initial j) (m.emission 0 j)
  alpha_fits (suc t) j = ln_sum_fits m.states _ (λ k r. add-fits binary64 (alpha m t k ⊕ m.transition k j) (m.emission (suc t) j))
