-- `likelihood::next_row` meets its contract. The loop's invariant, `Laid`: the first j cells of the row stand.
use Rattle.std.proofs.Common.{take, drop}
use Rattle.lists.proofs.Laid.{Laid}
use Rattle.likelihood.specs.inner.Row.{cell_of}
use Rattle.likelihood.proofs.next_row.Given as goal

abbrev pub invariant-loop-j : goal.invariant-loop-j
invariant-loop-j g l =
    Laid l.states l.base (cell_of g.W.Way.BACK l.states l.transition l.emissions (take l.states (drop l.at l.initial.values))) l.initial.values l.values l.j
