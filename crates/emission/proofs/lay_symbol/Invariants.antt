-- `emission::lay_symbol` meets its contract. The loop's invariant: the first j emissions stand at the front.
use Rattle.std.proofs.Common.{◌≡◌, ℕ, ◌+◌, ◌*◌}
use Rattle.floats.specs.Float.{at}
use Rattle.lists.specs.Lists.{tab, over}
use Rattle.emission.proofs.lay_symbol.Given as goal

abbrev pub invariant-loop-j : goal.invariant-loop-j
invariant-loop-j l = l.emissions ≡ over 0 (tab l.j (λ (i : ℕ). at l.emission (i * l.symbols + l.x))) l.initial.emissions
