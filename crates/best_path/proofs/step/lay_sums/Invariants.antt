-- `best_path::step::lay_sums` meets its contract. The loop's invariant: the first j values stand from `target` on.
use Rattle.std.proofs.Common.{◌≡◌, ℕ}
use Rattle.floats.specs.Float.{◌⊕◌, at}
use Rattle.lists.specs.Lists.{tab, over}
use Rattle.best_path.proofs.step.lay_sums.Given as goal

abbrev pub invariant-loop-j : goal.invariant-loop-j
invariant-loop-j l = l.values ≡ over l.target (tab l.j (λ (i : ℕ). at l.sums i ⊕ at l.emissions i)) l.initial.values
