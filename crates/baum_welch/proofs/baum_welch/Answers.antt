-- `baum_welch::baum_welch` meets its contract: refused by a check with nothing written, or past the checks both walks are made and wiped.
use native.Mathlib.Omega.{arith}
use Rattle.baum_welch.specs.Call.{outputs}
use Rattle.baum_welch.proofs.Outcome.{stood, is_stopped, few_places, readable, roomy, alpha_kept, beta_kept, is_trained}
use Rattle.baum_welch.proofs.baum_welch.Goals as goal

pub returns-in-Err : goal.returns-in-Err
returns-in-Err c =
    let a = c.args in
    is_stopped (outputs a.new_transition.now a.new_emission.now a.new_initial.now a.new_end.now a.alpha.now a.beta.now) c.in-Err.ensures

pub overflow_mul-places : goal.overflow_mul-places
overflow_mul-places c =
    let a = c.args in
    let o = outputs a.new_transition.now a.new_emission.now a.new_initial.now a.new_end.now a.alpha.now a.beta.now in
    omega (arith, few_places (stood o c.in_default.ensures c.forward-likelihood.ensures c.backward.ensures))

pub estimate-answer-requires : goal.estimate-answer-requires
estimate-answer-requires c =
    let a = c.args in
    let o = outputs a.new_transition.now a.new_emission.now a.new_initial.now a.new_end.now a.alpha.now a.beta.now in
    let st = stood o c.in_default.ensures c.forward-likelihood.ensures c.backward.ensures in
    record { readable = readable _ st; roomy = roomy _ st }

pub wipe-requires : goal.wipe-requires
wipe-requires c =
    let a = c.args in
    let o = outputs a.new_transition.now a.new_emission.now a.new_initial.now a.new_end.now a.alpha.now a.beta.now in
    alpha_kept (stood o c.in_default.ensures c.forward-likelihood.ensures c.backward.ensures)

pub wipe-requires-2 : goal.wipe-requires-2
wipe-requires-2 c =
    let a = c.args in
    let o = outputs a.new_transition.now a.new_emission.now a.new_initial.now a.new_end.now a.alpha.now a.beta.now in
    beta_kept (stood o c.in_default.ensures c.forward-likelihood.ensures c.backward.ensures)

pub returns : goal.returns
returns c =
    let a = c.args in
    let o = outputs a.new_transition.now a.new_emission.now a.new_initial.now a.new_end.now a.alpha.now a.beta.now in
    let st = stood o c.in_default.ensures c.forward-likelihood.ensures c.backward.ensures in
    is_trained _ st _ _ _ _ c.estimate-answer.ensures c.wipe.ensures c.wipe-2.ensures
