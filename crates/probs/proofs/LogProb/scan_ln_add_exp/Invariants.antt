-- `probs::LogProb::scan_ln_add_exp` meets its contract. The loop's invariant: sum is that of the i entries met, and the sums so far are laid over the front.
use Rattle.std.proofs.Common.{ℕ, ◌+◌, ◌≡◌}
use Rattle.floats.specs.Float.{at}
use Rattle.lists.specs.Lists.{tab, over}
use Rattle.sums.specs.Pair.{ln_cumsum}
use Rattle.probs.proofs.LogProb.scan_ln_add_exp.Given as goal

abbrev pub invariant-loop-i : goal.invariant-loop-i
invariant-loop-i l = (l.sum ≡ ln_cumsum l.i (at l.probs)) × (l.sums ≡ over 0 (tab l.i (λ (k : ℕ). ln_cumsum (k + 1) (at l.probs))) l.initial.sums)
