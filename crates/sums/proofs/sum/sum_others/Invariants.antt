-- `sums::sum::sum_others` meets its contract. The loop's invariant: sum is that over the k terms that it has met.
use Prim.Native.Nat.{ℕ}
use mathlib.Core.Path.{◌≡◌}
use lib.Ieee.{Float}
use Rattle.sums.specs.Sum.{exp_sum}
use Rattle.sums.specs.inner.Terms.{TermsAre}
use Rattle.sums.proofs.sum.sum_others.Given as goal

abbrev pub invariant-loop-k : goal.invariant-loop-k
invariant-loop-k g l = (f : ℕ → Float) → TermsAre g.F.Fn l.n l.term f → l.sum ≡ exp_sum l.best l.k f
