-- `likelihood::open_row` meets its contract. The loop's invariant: the first j sums of the row stand.
use Rattle.std.proofs.Common.{◌≡◌, ℕ, ◌<◌, length, get_or}
use Rattle.sums.specs.declared.sum.Open.{Open}
use Rattle.sums.specs.inner.Open.{opened}
use Rattle.likelihood.specs.inner.Row.{cell_term}
use Rattle.likelihood.proofs.open_row.Given as goal

abbrev pub invariant-loop-j : goal.invariant-loop-j
invariant-loop-j g l =
    (length l.sums ≡ 64)
    × ((k : ℕ) (d : Open) → k < l.j → get_or l.sums k d ≡ opened l.states (cell_term g.W.Way.BACK l.states l.transition l.emissions l.row k))
