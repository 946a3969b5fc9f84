-- `comparators::changed` meets its contract. The loop's invariant: no place below i is another than the list's.
use Rattle.std.proofs.Common.{◌≡◌, false}
use Rattle.comparators.specs.Compare.{other_place, some_other}
use Rattle.comparators.proofs.changed.Given as goal

abbrev pub invariant-loop-i : goal.invariant-loop-i
invariant-loop-i g l = some_other (other_place g.P.Place.differs g.P.Place.blank l.output l.list) l.i ≡ false
