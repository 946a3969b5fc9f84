-- What a call of `viterbi` gives is the best path and its value by their definitions, and it gives them for all that is accepted.
use Prim.Native.Nat.{ℕ, suc, ◌-◌}
use mathlib.Core.Path.{◌≡◌, ap, ◌∙◌}
use mathlib.Core.Bool.{true, false}
use mathlib.Core.List.{List}
use native.Mathlib.Omega.{arith}
use lib.ListN.{length}
use lib.Ieee.{Float}
use Rattle.answer.specs.Answer.{done, is_done}
use Rattle.answer.specs.declared.Answer.{Answer}
use Rattle.model.specs.Lent.{Lent, T}
use Rattle.model.specs.Model.{model_of}
use Rattle.best_path.specs.Walk.{best_path, best_value}
use Rattle.checks.proofs.Done.{let_through, is_let_through}
use Rattle.viterbi.specs.Call.{Outputs, rooms, checked, Decoded}
use Rattle.best_path.proofs.BestPath.{states_length}
use Rattle.path_promises.specs.BestPath.{GivesTheBest}
use Rattle.path_promises.specs.Calls.{Viterbi, ViterbiIsDone, Defined}
use Rattle.path_promises.proofs.BestPath.{gives_the_best}
use Rattle.checks.proofs.Left.{checks_done, front_is}

-- the checks of a call that is done are passed
pub passed : (l : Lent) (o e : Outputs) (r : Answer) → Decoded l o r e → is_done r ≡ true → is_done (checked l o) ≡ true
passed l o e r p d = (checks_done (checked l o) (done (best_value (model_of l) (T l))) r p.answer d).0

pub defined : (l : Lent) (value : Float) (path : List ℕ) → Viterbi l value path → Defined l value path
defined l value path c =
    let o = c.lent in
    let v = best_value (model_of l) (T l) in
    let best = best_path (model_of l) (T l) in
    let checks = checked l o in
    let h = checks_done checks (done v) c.answer c.promised.answer c.done in
    let long : T l ≡ suc (T l - 1) = omega (arith, c.some_sample) in
    let e : length (best_path (model_of l) (T l)) ≡ T l = rw long (states_length (T l - 1) (model_of l)) in
    record {
      accepted = (let_through false (rooms l o) l h.0).accepted;
      some_sample = c.some_sample;
      value_is = c.value_is ∙ ap (λ (r : Answer). r.value) h.1;
      path_is = c.path_is ∙ front_is (is_done checks) best o.path c.left.path (T l) c.promised.path h.0 e;
    }

pub viterbi_gives_the_best : GivesTheBest Viterbi
viterbi_gives_the_best = gives_the_best Viterbi defined

pub viterbi_is_done : ViterbiIsDone
viterbi_is_done l lent left answer a r p =
    let h = is_let_through false (rooms l lent) l in
    let d : is_done (checked l lent) ≡ true = h (record { accepted = a; roomy = r; sampled = λ n. absurd n }) in
    ap is_done p.answer ∙ rw d
