use Rattle.std.proofs.Common.{◌≡◌, ℕ, arith}
use Rattle.std.proofs.lemmas.Grind.{common_steps, elements, rows}
use Rattle.best_path.proofs.Held.{leading_more, leading_all}
use Rattle.best_path.proofs.step.predecessors.Goals as goal

pub loop-k-preserved : goal.loop-k-preserved
loop-k-preserved c =
    let held = c.offer-low.ensures in
    λ (j : ℕ) l.
    leading_more _ _ _ _ _ _ _ _ _ _ _ (c.loop-k.invariant j l) c.entry.ensures (grind (arith, elements))
    (held.held.winner j (grind (arith, common_steps, rows)), held.held.sum j (grind (arith, common_steps, rows)), held.low)

pub returns : goal.returns
returns c =
    let h = c.loop-k.invariant in
    let e : c.loop-k.k ≡ c.args.states = omega arith in
    record {
      winner = λ (j : ℕ) l. (leading_all _ _ _ _ _ _ (omega arith) (rw e at (h j l))).0;
      sum = λ (j : ℕ) l. (leading_all _ _ _ _ _ _ (omega arith) (rw e at (h j l))).1;
    }
