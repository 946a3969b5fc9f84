-- `best_path::row::first_from` meets its contract. The loop's invariant: the first j predecessors stand at the front.
use Rattle.std.proofs.Common.{◌≡◌, ℕ}
use Rattle.lists.specs.Lists.{tab, over}
use Rattle.best_path.proofs.row.first_from.Given as goal

abbrev pub invariant-loop-j : goal.invariant-loop-j
invariant-loop-j l = l.from ≡ over 0 (tab l.j (λ (i : ℕ). i)) l.initial.from
