-- `checks::good_blocks` meets its contract. The loop's invariant: every entry of the blocks below k is good.
use Prim.Native.Nat.{◌*◌}
use Rattle.lists.proofs.Scan.{Passed}
use Rattle.model.specs.Good.{good}
use Rattle.checks.proofs.good_blocks.Given as goal

abbrev pub invariant-loop-k : goal.invariant-loop-k
invariant-loop-k l = Passed good l.table (l.k * 128)
