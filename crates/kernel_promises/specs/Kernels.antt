-- What the kernels stand on (RULES 4): the constants of exp are those of their rule, and no call on a model takes a kernel outside its domain.
use Rattle.std.specs.Prelude.{ℕ, suc, ◌-◌, ◌<◌, ◌≡◌, false, not, List, Float}
use Rattle.std.proofs.Math.Dec as Dec
use Rattle.std.specs.Float.Ieee.{lt, le}
use Rattle.floats.specs.Float.{◌⊕◌, ◌⊖◌, nought, one, is_number, is_minus_infinity, is_plus_infinity, is_infinite}
use Rattle.kernels.specs.Roots.{Rule, constants}
use Rattle.kernels.specs.Exp.{exp_of}
use Rattle.sums.specs.Sum.{Numbers, peak, exp_sum}
use Rattle.model.specs.Lent.{Lent, S, T}
use Rattle.model.specs.Accepted.{Accepted}
use Rattle.model.specs.Model.{model_of}
use Rattle.likelihood.specs.Walk.{alpha, beta}
use Rattle.occupancy.specs.Occupancy.{occupancy, last_occupancy, gamma, emitted, arc}
use Rattle.baum_welch.specs.Call.{walks_of}

-- the constants keep their rule, and no other table does
pub record ConstantsKeepTheirRule : Type 0 where
  pub kept : Rule constants
  pub by_no_other : (cs : List ℕ) → Rule cs → cs ≡ constants

-- a sum of f 0, .., f (n - 1) (RULES 5.2): its terms are numbers, it takes exp at 0 or below, and ln at 1 or above
pub record SumWithin (n : ℕ) (f : ℕ → Float) : Type 0 where
  pub numbers : Numbers n f
  pub exp : is_infinite (peak n f).value ≡ false → (k : ℕ) → k < n → Dec.T (le (f k ⊖ (peak n f).value) nought)
  pub ln : Dec.T (le one (one ⊕ exp_sum (peak n f) n f))

-- a sum of two (RULES 5.3), of which the greater one is taken first
pub record AddWithin (x y : Float) : Type 0 where
  pub numbers : Dec.T (is_number x) × Dec.T (is_number y)
  pub exp_of_second : Dec.T (not (lt x y)) → is_infinite x ≡ false → Dec.T (le (y ⊖ x) nought)
  pub exp_of_first : Dec.T (lt x y) → is_infinite y ≡ false → Dec.T (le (x ⊖ y) nought)
  pub ln : (d : Float) → Dec.T (le one (one ⊕ exp_of d))

-- a difference (RULES 5.4): it takes ln_1m_exp at 0 or below
pub record SubWithin (p0 p1 : Float) : Type 0 where
  pub below : Dec.T (le p1 p0)
  pub ln1m : is_minus_infinity p1 ≡ false → is_plus_infinity p0 ≡ false → Dec.T (le (p1 ⊖ p0) nought)

module _ (l : Lent) where
  -- the sums of forward and of backward, and the likelihood of a pass
  pub record WalksWithin : Type 0 where
    pub alphas : (t j : ℕ) → suc t < T l → j < S l
        → SumWithin (S l) (λ (k : ℕ). (alpha (model_of l) t k ⊕ (model_of l).transition k j) ⊕ (model_of l).emission (suc t) j)
    pub forward : (t : ℕ) → t < T l → SumWithin (S l) (λ (k : ℕ). alpha (model_of l) t k ⊕ (model_of l).end k)
    pub betas : (i j : ℕ) → i < T l → j < S l
        → SumWithin (S l) (λ (k : ℕ). (beta (model_of l) (T l) i k ⊕ (model_of l).transition j k) ⊕ (model_of l).emission (T l - 1 - i) k)
    pub backward : (i : ℕ) → i < T l
        → SumWithin (S l) (λ (k : ℕ). (beta (model_of l) (T l) i k ⊕ (model_of l).initial k) ⊕ (model_of l).emission 0 k)
    pub likelihood : 0 < T l → SumWithin (S l) (λ (i : ℕ). alpha (model_of l) (T l - 1) i ⊕ beta (model_of l) (T l) 0 i)

  -- the sums and differences of a pass, once the samples are known to be possible
  pub record PassWithin : Type 0 where
    pub gammas : (i : ℕ) → i < S l → SumWithin (T l) (occupancy (walks_of l) i)
    pub arcs : (i j : ℕ) → i < S l → j < S l
        → SumWithin (T l - 1) (arc (model_of l).transition (model_of l).emission (walks_of l) i j)
    pub symbols : (i x t : ℕ) → i < S l → t < T l → AddWithin (emitted (walks_of l) l.samples i x t) (occupancy (walks_of l) i t)
    pub denominators : (i : ℕ) → i < S l → SubWithin (gamma (walks_of l) i) (last_occupancy (walks_of l) i)

-- for all that is accepted
pub record KernelsAreWithin : Type 0 where
  pub walks : (l : Lent) → Accepted l → WalksWithin l
  pub pass : (l : Lent) → Accepted l → 0 < T l → is_minus_infinity (walks_of l).probx ≡ false → PassWithin l
