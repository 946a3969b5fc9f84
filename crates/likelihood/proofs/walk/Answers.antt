use Rattle.std.proofs.Common.{ℕ, refl, ap, ◌∙◌, arith}
use Rattle.lists.specs.Lists.{tab}
use Rattle.lists.proofs.Laid.{front}
use Rattle.model.specs.Lent.{behind}
use Rattle.model.specs.Model.{model_of}
use Rattle.likelihood.proofs.Steps.{first_laid, rows_begun, next_laid}
use Rattle.likelihood.proofs.walk.Goals as goal

pub loop-i-init : goal.loop-i-init
loop-i-init g c =
    let m = model_of (behind c.args.lent.now) in
    let p = c.requires.walkable in
    let first = first_laid m _ g.W.Way.BACK _ _ _ _ _ p.initial_length p.end_length refl refl (front _ _ _ _ c.lay_emissions.ensures) c.begin.ensures in
    (c.lay_emissions.auto.emissions, rows_begun m _ g.W.Way.BACK _ _ p.some_sample c.begin.auto.values first)

pub loop-i-preserved : goal.loop-i-preserved
loop-i-preserved g c =
    let m = model_of (behind c.args.lent.now) in
    let inv = c.loop-i.invariant in
    let entering = front _ _ _ _ c.lay_emissions-in-loop-i.ensures ∙ ap (λ (t : ℕ). tab m.states (m.emission t)) c.time_of.ensures in (
      c.lay_emissions-in-loop-i.auto.emissions ∙ inv.0,
      next_laid m _ g.W.Way.BACK _ _ _ _ _ _ refl entering c.requires.walkable.values_room inv.1 (omega arith) c.next_row.ensures,
    )
