-- `emission::first_row` meets its contract. The loop's invariant: the first j values stand at the front.
use Rattle.std.proofs.Common.{◌≡◌, ℕ}
use Rattle.floats.specs.Float.{◌⊕◌, at}
use Rattle.lists.specs.Lists.{tab, over}
use Rattle.emission.proofs.first_row.Given as goal

abbrev pub invariant-loop-j : goal.invariant-loop-j
invariant-loop-j l = l.values ≡ over 0 (tab l.j (λ (i : ℕ). at l.initial' i ⊕ at l.emissions i)) l.initial.values
