-- `rival::preview::follow` meets its contract. The loop's invariant: the first j origins stand at the front.
use Rattle.std.proofs.Common.{◌≡◌, ℕ, get_or}
use Rattle.lists.specs.Lists.{tab, over}
use Rattle.rival.proofs.preview.follow.Given as goal

abbrev pub invariant-loop-j : goal.invariant-loop-j
invariant-loop-j l = l.origins ≡ over 0 (tab l.j (λ (i : ℕ). get_or l.before (get_or l.from i 0) 0)) l.initial.origins
