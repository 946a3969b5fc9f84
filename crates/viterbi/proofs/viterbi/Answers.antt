-- `viterbi::viterbi` meets its contract, in each of the three ways in which it returns.
use Rattle.std.proofs.Common.{◌≡◌, false, ap, ◌∙◌, rules}
use Rattle.answer.specs.Answer.{done}
use Rattle.model.specs.Lent.{T, behind}
use Rattle.checks.specs.LetThrough.{LetThrough}
use Rattle.checks.proofs.Done.{let_through}
use Rattle.checks.proofs.Parts.{refusal_is, is_refused, is_passed}
use Rattle.walk.proofs.Ready.{decodable}
use Rattle.viterbi.specs.Call.{outputs, rooms}
use Rattle.viterbi.proofs.Outcome as Outcome
use Rattle.viterbi.proofs.viterbi.Goals as goal

pub returns-in-Err : goal.returns-in-Err
returns-in-Err c = let g = behind c.args.lent.now in
    let o = outputs c.args.path.now c.args.values.now c.args.from.now in
    Outcome.is_refused g o _ (is_refused false g (rooms g o) c.in-Err.ensures) (refusal_is false g (rooms g o) c.in-Err.ensures)

pub returns-then-is_empty : goal.returns-then-is_empty
returns-then-is_empty c = let g = behind c.args.lent.now in
    let o = outputs c.args.path.now c.args.values.now c.args.from.now in
    let none : T g ≡ 0 = search rules in
    Outcome.is_empty g o _ (is_passed false g (rooms g o) c.in_default.ensures) none (c.done.ensures ∙ ap done c.minus_infinity.ensures)

pub decode-requires : goal.decode-requires
decode-requires c = let g = behind c.args.lent.now in
    let o = outputs c.args.path.now c.args.values.now c.args.from.now in
    let h : LetThrough false (rooms g o) g = let_through false _ g (is_passed false g (rooms g o) c.in_default.ensures) in
    decodable g _ _ _ h.accepted (search rules) h.roomy.0 h.roomy.1.0 h.roomy.1.1.0

pub returns : goal.returns
returns c = let g = behind c.args.lent.now in
    let o = outputs c.args.path.now c.args.values.now c.args.from.now in
    Outcome.is_walked g o _ (is_passed false g (rooms g o) c.in_default.ensures) _ _ c.decode.ensures c.done-2.ensures
