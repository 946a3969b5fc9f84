-- Z2: both walks over one sample of model Z sum two zeros.
use Prim.Native.Nat.{ℕ, zero, suc, ◌<◌}
use native.Mathlib.Omega.{arith}
use mathlib.Core.Path.{◌≡◌, refl, ◌∙◌}
use mathlib.Core.List.{[], ◌∷◌}
use lib.Ieee.{add, sub, neg, sum, round, size, lt, eq}
use Rattle.floats.specs.Float.{◌⊕◌, ◌⊖◌, nought, one, is_infinite}
use Rattle.kernels.specs.Exp.{exp_of}
use Rattle.kernels.specs.Ln.{ln2, ln_of}
use Rattle.kernels.proofs.ExpLaws.{exp_zero}
use Rattle.kernels.proofs.LnParts.{ln2_is}
use Rattle.sums.specs.Sum.{raised, peak, plus_exp, exp_sum, grown, ln_sum}
use Rattle.sums.proofs.Loops.{ln_sum_same}
use Rattle.model.specs.Model.{model_of}
use Rattle.likelihood.specs.Walk.{alpha, forward_value, beta, backward_value}
use Rattle.gate_posts.specs.Models.{model_z}
use Rattle.gate_posts.proofs.Kernels.{ln_two}

-- ---- the sum of two zeros
no_difference : nought ⊖ nought ≡ nought
unfolding sub neg add sum round size
no_difference = refl

exps : nought ⊕ exp_of nought ≡ one
unfolding add sum round size
exps = rw exp_zero

ln_one_and_one : ln_of (one ⊕ one) ≡ ln2
unfolding add sum round size
ln_one_and_one = ln_two

raised_by : nought ⊕ ln2 ≡ ln2
unfolding add sum round size
raised_by = rw ln2_is

zeros : ln_sum 2 (λ (k : ℕ). nought) ≡ ln2
unfolding ln_sum grown peak raised exp_sum plus_exp is_infinite lt eq
zeros = rw (no_difference, exps, ln_one_and_one) raised_by

-- ---- both walks come to it
none : (k : ℕ) → suc (suc k) < 2 → ⊥
none k h = omega arith

end_terms : (k : ℕ) → k < 2 → alpha (model_of (model_z (0 ∷ []))) 0 k ⊕ (model_of (model_z (0 ∷ []))).end k ≡ nought
unfolding alpha add sum round size
end_terms zero h = refl
end_terms (suc zero) h = refl
end_terms (suc (suc k)) h = absurd (none k h)

start_terms : (k : ℕ) → k < 2 → let m = model_of (model_z (0 ∷ [])) in (beta m 1 0 k ⊕ m.initial k) ⊕ m.emission 0 k ≡ nought
unfolding beta add sum round size
start_terms zero h = refl
start_terms (suc zero) h = refl
start_terms (suc (suc k)) h = absurd (none k h)

pub forward_value_lem : forward_value (model_of (model_z (0 ∷ []))) 1 ≡ ln2
unfolding forward_value
forward_value_lem = ln_sum_same 2 _ _ end_terms ∙ zeros

pub backward_value_lem : backward_value (model_of (model_z (0 ∷ []))) 1 ≡ ln2
unfolding backward_value
backward_value_lem = ln_sum_same 2 _ _ start_terms ∙ zeros
