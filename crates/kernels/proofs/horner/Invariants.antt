-- `kernels::horner` meets its contract. The invariant: what is left to do from k on, at h, gives the answer.
use Rattle.std.proofs.Common.{◌≡◌}
use Rattle.floats.specs.Float.{one}
use Rattle.kernels.specs.Ln1m.{horner}
use Rattle.kernels.proofs.horner.Given as goal

abbrev pub invariant-loop-k : goal.invariant-loop-k
invariant-loop-k l = horner l.k l.q l.h ≡ horner 12 l.q one
