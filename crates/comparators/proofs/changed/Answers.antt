use Rattle.std.proofs.Common.{sym, ◌∙◌, arith}
use Rattle.comparators.proofs.Other.{changed_at}
use Rattle.comparators.proofs.changed.Goals as goal

pub returns-then-is_other : goal.returns-then-is_other
returns-then-is_other g c =
    let differs = sym c.is_other.ensures ∙ c.if-is_other.true in
    rw (← c.words-list.ensures) (changed_at g.P.Place.differs g.P.Place.blank _ _ _ _ c.loop-i-test.true (omega arith) differs)
