-- `rival::preview::carry` meets its contract. The loop's invariant: the row before stands at the front, and the origins are its states'.
use Rattle.std.proofs.Common.{◌≡◌, ◌-◌, ◌<◌, length, take}
use Rattle.lists.specs.Lists.{tab}
use Rattle.model.specs.Lent.{behind}
use Rattle.model.specs.Model.{model_of}
use Rattle.best_path.specs.Walk.{value}
use Rattle.walk.specs.Barred.{barred_by}
use Rattle.rival.specs.inner.Origins.{Origins}
use Rattle.rival.proofs.preview.carry.Given as goal

abbrev pub invariant-loop-t : goal.invariant-loop-t
invariant-loop-t l =
    (length l.emissions ≡ 64) × (length l.carried.row ≡ 64) × (length l.from ≡ 64) × (length l.carried.origins ≡ 64)
    × (let m = barred_by l.bar (model_of (behind l.lent)) in
    0 < l.t → (take m.states l.carried.row ≡ tab m.states (value m (l.t - 1))) × Origins m l.index (l.t - 1) l.carried.origins)
