-- `sums::sum::greatest` meets its contract. The loop's invariant: best is the first greatest of the k terms that it has met.
use Prim.Native.Nat.{ℕ}
use mathlib.Core.Path.{◌≡◌}
use lib.Ieee.{Float}
use Rattle.sums.specs.Sum.{peak}
use Rattle.sums.specs.inner.Terms.{TermsAre}
use Rattle.sums.proofs.sum.greatest.Given as goal

abbrev pub invariant-loop-k : goal.invariant-loop-k
invariant-loop-k g l = (f : ℕ → Float) → TermsAre g.F.Fn l.n l.term f → l.best ≡ peak l.k f
