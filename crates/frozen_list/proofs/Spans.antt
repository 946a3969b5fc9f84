-- After a list of which the case has not all there is none.
use Rattle.std.proofs.Common.{◌≡◌, ℕ, zero, suc, ◌+◌, ◌-◌, ◌≤◌, List, None, arith, sym, add-zero, add-suc}
use Rattle.frozen_list.specs.Cases.{span_of}

none_after : (case : List ℕ) (i more : ℕ) → span_of case i ≡ None → span_of case (i + more) ≡ None
unfolding span_of
none_after case i zero e = rw add-zero e
none_after case i (suc more) e = rw (add-suc, none_after case i more e)

pub none_from : (case : List ℕ) (i k : ℕ) → span_of case i ≡ None → i ≤ k → None ≡ span_of case k
none_from case i k e h = let is : i + (k - i) ≡ k = omega arith in sym (rw is at (none_after case i (k - i) e))
