-- `occupancy::symbol::emission_sums` meets its contract. The loop's invariant, `Emitted`: each symbol's share before time t is added up.
use Rattle.model.specs.Lent.{M}
use Rattle.occupancy.specs.inner.Rows.{lent_of, rows_of}
use Rattle.occupancy.proofs.Emitted.{Emitted}
use Rattle.occupancy.proofs.symbol.emission_sums.Given as goal

abbrev pub invariant-loop-t : goal.invariant-loop-t
invariant-loop-t l = Emitted (rows_of l.pass) (lent_of l.pass).samples l.i (M (lent_of l.pass)) l.sums l.t
