-- `likelihood::answer_of` meets its contract: what the checks let through can be walked, or has no sample.
use Rattle.std.proofs.Common.{not, ap, ◌∙◌, arith}
use Rattle.std.proofs.lemmas.Bool.Decides.{nat_tests}
use Rattle.answer.specs.Answer.{done}
use Rattle.model.specs.Lent.{behind}
use Rattle.likelihood.proofs.Outcome as Outcome
use Rattle.likelihood.proofs.answer_of.Goals as goal

pub returns-in-Err : goal.returns-in-Err
returns-in-Err g c = Outcome.is_refused g.W.Way.BACK (behind c.args.lent.now) _ (rw c.BACK.ensures at c.in-Err.ensures)

pub returns-then-is_empty : goal.returns-then-is_empty
returns-then-is_empty g c =
    let l = behind c.args.lent.now in
    let passed = Outcome.is_passed g.W.Way.BACK l c.args.values.now (rw c.BACK.ensures at c.in_default.ensures) in
    Outcome.is_empty g.W.Way.BACK l _ _ passed (grind (arith, nat_tests)) (c.done.ensures ∙ ap done c.minus_infinity.ensures)

pub value_of-requires : goal.value_of-requires
value_of-requires g c =
    let l = behind c.args.lent.now in
    let passed = Outcome.is_passed g.W.Way.BACK l c.args.values.now (rw c.BACK.ensures at c.in_default.ensures) in
    Outcome.is_ready (not g.W.Way.BACK) l _ passed (grind (arith, nat_tests))

pub returns : goal.returns
returns g c =
    let l = behind c.args.lent.now in
    let passed = Outcome.is_passed g.W.Way.BACK l c.args.values.now (rw c.BACK.ensures at c.in_default.ensures) in
    record { answer = rw passed (c.done-2.ensures ∙ ap done c.value_of.ensures.value); values = rw passed c.value_of.ensures.filled }
