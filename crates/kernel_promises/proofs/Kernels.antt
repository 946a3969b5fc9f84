-- The constants of exp are those of their rule, and no call on a model takes a kernel outside its domain.
use Prim.Native.Nat.{ℕ, suc, ◌-◌, ◌<◌}
use native.Mathlib.Omega.{arith}
use mathlib.Core.Path.{◌≡◌}
use mathlib.Core.Bool.{false}
use lib.Dec as Dec
use lib.Ieee.{Float, binary64, le}
use Rattle.floats.specs.Float.{◌⊕◌, is_number, is_minus_infinity}
use Rattle.floats.proofs.Order.{lt_le}
use Rattle.floats.proofs.Add.{capped_num, capped_le}
use Rattle.floats.proofs.Sub.{sub_nonpos}
use Rattle.floats.proofs.Finite.{number_finite}
use Rattle.floats.proofs.Ceiling.{double, lid_add, two_lids, double_add, less_number}
use Rattle.floats.proofs.Unit.{one_plus}
use Rattle.kernels.specs.Exp.{exp_of}
use Rattle.kernels.proofs.RootsLaws.{constants_rule, rule_fixes}
use Rattle.kernels.proofs.ExpLaws.{exp_nonneg}
use Rattle.sums.specs.Sum.{Numbers, peak}
use Rattle.sums.proofs.Domains.{exp_domain, ln_domain}
use Rattle.sums.proofs.Pairs.{add_domain, sub_domain}
use Rattle.model.specs.Lent.{Lent, S, T}
use Rattle.model.specs.Accepted.{Accepted}
use Rattle.model.specs.Model.{Model, model_of}
use Rattle.model.proofs.Low.{Low, accepted_low}
use Rattle.likelihood.specs.Walk.{alpha, beta}
use Rattle.likelihood.proofs.Bounds.{alpha_lid, beta_lid, forward_numbers, end_numbers, backward_numbers, start_numbers}
use Rattle.occupancy.specs.Occupancy.{Walks, occupancy, arc}
use Rattle.occupancy.proofs.Bounds.{Lidded, occupancy_capped, emitted_capped, last_below_lem}
use Rattle.baum_welch.specs.Call.{walks_of}
use Rattle.baum_welch.proofs.Walks.{walks_lidded}
use Rattle.kernel_promises.specs.Kernels.{ConstantsKeepTheirRule, SumWithin, AddWithin, SubWithin, WalksWithin, PassWithin, KernelsAreWithin}

pub constants_keep_their_rule : ConstantsKeepTheirRule
constants_keep_their_rule = record { kept = constants_rule; by_no_other = rule_fixes }

-- ---- a sum of numbers, a sum of two, and a difference that is not negative
sum_within : (n : ℕ) (f : ℕ → Float) → Numbers n f → SumWithin n f
sum_within n f h = record { numbers = h; exp = exp_domain n f h; ln = ln_domain (peak n f) n f }

add_within : (x y : Float) → Dec.T (is_number x) → Dec.T (is_number y) → AddWithin x y
add_within x y h k =
    record {
      numbers = (h, k);
      exp_of_second = add_domain x y h k;
      exp_of_first = λ l e. sub_nonpos binary64 x y (number_finite y k e) (lt_le x y l);
      ln = λ d. one_plus (exp_of d) (exp_nonneg d);
    }

sub_within : (p0 p1 : Float) → Dec.T (le p1 p0) → SubWithin p0 p1
sub_within p0 p1 h = record { below = h; ln1m = sub_domain p0 p1 h }

-- ---- the walks
walks_within : (l : Lent) → Accepted l → WalksWithin l
walks_within l a =
    let m = model_of l in
    let low = accepted_low l a in
    record {
      alphas = λ t j h s. sum_within (S l) _ (forward_numbers m (T l) low t j h s);
      forward = λ t h. sum_within (S l) _ (end_numbers m (T l) low t h);
      betas = λ i j h s. sum_within (S l) _ (backward_numbers m (T l) low i j h s);
      backward = λ i h. sum_within (S l) _ (start_numbers m (T l) low i h);
      likelihood = λ h. sum_within (S l) _ (λ i s. last_number m (T l) low h i s);
    }
  where
    last_number : (m : Model) (n : ℕ) → Low m n → 0 < n → (i : ℕ) → i < m.states → Dec.T (is_number (alpha m (n - 1) i ⊕ beta m n 0 i))
    last_number m n low h i s =
        double_number _ (two_lids (alpha m (n - 1) i) (beta m n 0 i) (alpha_lid m n low (n - 1) i (omega arith) s) (beta_lid m n low 0 i h s))
      where
        double_number : (x : Float) → Dec.T (le x double) → Dec.T (is_number x)
        double_number x b = capped_num x (capped_le x double b tt)

-- ---- a pass
module _ (l : Lent) (a : Accepted l) (some : 0 < T l) (likely : is_minus_infinity (walks_of l).probx ≡ false) where
  abbrev m : Model
  m = model_of l

  abbrev w : Walks
  w = walks_of l

  low : Low m (T l)
  low = accepted_low l a

  lids : Lidded (S l) w
  lids = walks_lidded m (T l) some low likely

  arc_number : (i j : ℕ) → i < S l → j < S l → (t : ℕ) → t < T l - 1 → Dec.T (is_number (arc m.transition m.emission w i j t))
  unfolding arc
  arc_number i j r s t h =
      let from = lid_add (w.alpha t i) (m.transition i j) (lids.alpha t i (omega arith) r) (low.transition i j r s) in
      let to = two_lids _ (w.beta (T l - 2 - t) j) from (lids.beta (T l - 2 - t) j (omega arith) s) in
      let all = double_add _ (m.emission (suc t) j) to (low.emission (suc t) j (omega arith) s) in
      less_number _ w.probx (capped_le _ double all tt) lids.likely

  pass_within : PassWithin l
  pass_within =
      record {
        gammas = λ i s. sum_within (T l) (occupancy w i) (λ t h. capped_num _ (occupancy_capped lids i s t h));
        arcs = λ i j r s. sum_within (T l - 1) _ (arc_number i j r s);
        symbols = λ i x t s h.
            add_within _ _ (capped_num _ (emitted_capped lids i s l.samples x t (omega arith))) (capped_num _ (occupancy_capped lids i s t h));
        denominators = λ i s. sub_within _ _ (last_below_lem lids i s);
      }

pub kernels_are_within : KernelsAreWithin
kernels_are_within = record { walks = walks_within; pass = pass_within }
