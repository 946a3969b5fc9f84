-- Z4: after one sample without an end state nothing is left of state 0.
use Prim.Native.Nat.{◌<◌}
use native.Mathlib.Omega.{arith}
use mathlib.Core.Path.{◌≡◌, sym, ap, ◌∙◌}
use mathlib.Core.Bool.{true, false}
use mathlib.Core.List.{[], ◌∷◌}
use lib.Ieee.{Float, add, sub, neg, sum, round, size, lt, eq}
use Rattle.floats.specs.Float.{◌⊕◌, ◌⊖◌, nought, minus_infinity, is_minus_infinity, is_infinite}
use Rattle.answer.specs.Answer.{refuse}
use Rattle.answer.specs.declared.Refusal.TheVariants.{ZeroMass}
use Rattle.kernels.specs.Ln.{ln2}
use Rattle.kernels.proofs.LnParts.{ln2_is}
use Rattle.sums.specs.Sum.{raised, peak, plus_exp, exp_sum, grown, ln_sum}
use Rattle.sums.specs.Pair.{relative_eq, ln_sub}
use Rattle.model.specs.Lent.{Lent}
use Rattle.model.specs.Model.{model_of}
use Rattle.likelihood.specs.Walk.{alpha, beta}
use Rattle.lists.specs.First.{first}
use Rattle.occupancy.specs.Occupancy.{occupancy, gamma, denominator, massless}
use Rattle.baum_welch.specs.Pass.{walks, probx}
use Rattle.baum_welch.specs.Call.{mass_check, mass_answer}
use Rattle.baum_welch.proofs.Walks.{probx_is}
use Rattle.lists.proofs.First.{first_stop, first_none}
use Rattle.baum_welch.proofs.ZeroMass.{hollow, mass_state}
use Rattle.gate_posts.specs.Models.{model_z}
use Rattle.gate_posts.proofs.Kernels.{log_one}
use Rattle.gate_posts.proofs.OneSample.{forward_value_lem}

abbrev z : Lent
z = model_z (0 ∷ [])

probx_is_ln2 : probx (model_of z) 1 ≡ ln2
probx_is_ln2 = sym (probx_is (model_of z) 1 (omega arith)) ∙ forward_value_lem

-- the one occupancy of state 0
share : Float
share = nought ⊖ ln2

occupied : occupancy (walks (model_of z) 1) 0 0 ≡ share
unfolding occupancy alpha beta add sum round size share
occupied = rw probx_is_ln2

alone : share ⊕ nought ≡ share
unfolding share add sub neg sum round size
alone = rw ln2_is

above : lt minus_infinity share ≡ true
unfolding share lt add sub neg sum round size
above = rw ln2_is

bounded : is_infinite share ≡ false
unfolding share is_infinite eq add sub neg sum round size
bounded = rw ln2_is

gamma_is : gamma (walks (model_of z) 1) 0 ≡ share
unfolding gamma ln_sum grown peak raised exp_sum plus_exp
gamma_is = rw (occupied, above, bounded, log_one) alone

-- gamma is the last occupancy, and nothing is left
itself : eq share share ≡ true
unfolding share eq add sub neg sum round size
itself = rw ln2_is

not_none : is_minus_infinity share ≡ false
unfolding share eq add sub neg sum round size
not_none = rw ln2_is

denominator_is : denominator false (walks (model_of z) 1) 0 ≡ minus_infinity
unfolding denominator ln_sub relative_eq
denominator_is = rw (gamma_is, occupied, not_none, itself)

massless_is : massless false (walks (model_of z) 1) 0 ≡ true
unfolding massless eq
massless_is = rw (gamma_is, denominator_is, not_none)

found : first (massless false (walks (model_of z) 1)) 2 ≡ 0
found = sym (first_stop _ 0 2 (first_none _) massless_is (omega arith))

ln2_likely : is_minus_infinity ln2 ≡ false
unfolding eq
ln2_likely = rw ln2_is

mass : mass_check (model_of z) (walks (model_of z) 1) ≡ refuse ZeroMass 0 0
unfolding mass_check
mass =
    let some : hollow 2 false (walks (model_of z) 1) < 2 = rw found (omega arith) in
    mass_state 2 false (walks (model_of z) 1) (ap is_minus_infinity probx_is_ln2 ∙ ln2_likely) some ∙ ap (refuse ZeroMass 0) found

pub no_mass : mass_answer (model_of z) (walks (model_of z) 1) ≡ refuse ZeroMass 0 0
no_mass = rw mass
