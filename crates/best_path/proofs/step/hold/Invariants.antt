-- `best_path::step::hold` meets its contract. The loop's invariant: below j the sums and winners are those after predecessor k, and from j
-- on as they were.
use Rattle.std.proofs.Common.{◌≡◌, ℕ, cond, ◌&&◌, ltb, get_or}
use Rattle.floats.specs.Float.{◌⊕◌, at}
use Rattle.best_path.specs.inner.Step.{by_sum}
use Rattle.best_path.proofs.step.hold.Given as goal

abbrev pub invariant-loop-j : goal.invariant-loop-j
invariant-loop-j l = record {
  sum : (i : ℕ) → at l.sums i ≡ cond (ltb i l.j && by_sum l.low l.value l.step l.initial.sums i) (l.value ⊕ at l.step i) (at l.initial.sums i);
  winner : (i : ℕ) → get_or l.winners i 0 ≡ cond (ltb i l.j && by_sum l.low l.value l.step l.initial.sums i) l.k (get_or l.initial.winners i 0);
}
