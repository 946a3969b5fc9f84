-- `likelihood::value_of` meets its contract: all rows stand, and the sum of the last is the value.
use Rattle.std.proofs.Common.{refl, ◌∙◌}
use Rattle.lists.proofs.Laid.{front}
use Rattle.model.specs.Lent.{T, behind}
use Rattle.model.specs.Model.{model_of}
use Rattle.likelihood.proofs.Last.{last_row, value_is_lem}
use Rattle.likelihood.proofs.value_of.Goals as goal

pub returns : goal.returns
returns g c =
    let l = behind c.args.lent.now in
    let m = model_of l in
    let n = T l in
    let p = c.requires.walkable in
    let sum = rw (last_row m n g.W.Way.BACK p.some_sample _ _ c.walk.ensures) at c.last_sum.ensures in
    record {
      value = sum ∙ value_is_lem m _ _ _ g.W.Way.BACK n p.some_sample refl refl (front _ _ _ _ c.lay_emissions.ensures);
      filled = c.walk.ensures;
    }
