-- `best_path::step::lay_winners` meets its contract. The loop's invariant: the first j predecessors stand from `target` on.
use Rattle.std.proofs.Common.{◌≡◌, ℕ, get_or}
use Rattle.lists.specs.Lists.{tab, over}
use Rattle.best_path.proofs.step.lay_winners.Given as goal

abbrev pub invariant-loop-j : goal.invariant-loop-j
invariant-loop-j l = l.from ≡ over l.target (tab l.j (λ (i : ℕ). get_or l.winners i 0)) l.initial.from
