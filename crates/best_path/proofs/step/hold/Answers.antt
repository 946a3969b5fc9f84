use Rattle.std.proofs.Common.{ℕ, arith}
use Rattle.std.proofs.lemmas.Bool.Decides.{nat_tests}
use Rattle.std.proofs.lemmas.Grind.{elements}
use Rattle.best_path.proofs.step.hold.Goals as goal

pub loop-j-preserved : goal.loop-j-preserved
loop-j-preserved c =
    let h = c.loop-j.invariant in
    record {
      sum = λ (i : ℕ). grind (arith, elements, nat_tests, h.sum i);
      winner = λ (i : ℕ). grind (arith, elements, nat_tests, h.sum i, h.winner i);
    }
