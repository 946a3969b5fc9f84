-- `rival::foretell` meets its contract, in each of the three ways in which it returns.
use mathlib.Core.Path.{◌≡◌, sym, ap, ◌∙◌}
use Rattle.floats.specs.Float.{is_minus_infinity}
use Rattle.answer.specs.Answer.{done}
use Rattle.model.specs.Lent.{behind}
use Rattle.rival.specs.Call.{asked, rival_value}
use Rattle.rival.specs.inner.Parts.{nothing_told}
use Rattle.rival.proofs.Outcome.{told_past, told_none, told_some, best_foreseen, chosen_foreseen, rival_foreseen}
use Rattle.rival.proofs.foretell.Goals as goal

pub returns-then-lent-index : goal.returns-then-lent-index
returns-then-lent-index c = let q = asked (behind c.args.lent.now) c.args.index in
    told_past q _ c.if-lent-index.true (c.nothing.ensures ∙ ap nothing_told c.refused.ensures)

pub returns-then-is_minus_infinity : goal.returns-then-is_minus_infinity
returns-then-is_minus_infinity c = let q = asked (behind c.args.lent.now) c.args.index in
    let value = rival_foreseen q _ c.preview-best.ensures _ c.preview-rival.ensures in
    let tested = sym (c.is_minus_infinity.ensures ∙ ap is_minus_infinity value) in
    told_none q _ c.if-lent-index.false (tested ∙ c.if-is_minus_infinity.true)
    (c.nothing-then-is_minus_infinity.ensures ∙ ap nothing_told c.refused-then-is_minus_infinity.ensures)

pub returns : goal.returns
returns c = let q = asked (behind c.args.lent.now) c.args.index in
    let value = rival_foreseen q _ c.preview-best.ensures _ c.preview-rival.ensures in
    let tested = sym (c.is_minus_infinity.ensures ∙ ap is_minus_infinity value) in
    let answer : c.done.result ≡ done (rival_value q) = c.done.ensures ∙ ap done value in
    told_some q _ c.if-lent-index.false (tested ∙ c.if-is_minus_infinity.false)
    (λ i. record { answer = answer i; chosen = chosen_foreseen q _ c.preview-best.ensures i; best = best_foreseen q _ c.preview-best.ensures i })
