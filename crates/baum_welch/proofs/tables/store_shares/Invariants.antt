-- `baum_welch::tables::store_shares` meets its contract. The loop's invariant: the first k shares stand.
use mathlib.Core.Path.{◌≡◌}
use Rattle.lists.specs.Lists.{tab, over}
use Rattle.baum_welch.specs.inner.Tables.{shares_of}
use Rattle.baum_welch.proofs.tables.store_shares.Given as goal

abbrev pub invariant-loop-k : goal.invariant-loop-k
invariant-loop-k l = l.out ≡ over l.base (tab l.k (shares_of l.sums l.d)) l.initial.out
