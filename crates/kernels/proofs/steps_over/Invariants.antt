-- `kernels::steps_over` meets its contract. The invariant: the steps left to do, from r on, give the answer.
use mathlib.Core.Path.{◌≡◌}
use Prim.Native.Nat.{◌^◌, ◌≤◌}
use Rattle.kernels.specs.Roots.{constants}
use Rattle.kernels.specs.Exp.{steps}
use Rattle.kernels.proofs.Steps.{part}
use Rattle.kernels.proofs.steps_over.Given as goal

abbrev pub invariant-loop-i : goal.invariant-loop-i
invariant-loop-i l = (l.r ≤ 2 ^ 31) × (steps (part constants l.i l.to) l.g l.r ≡ steps (part constants l.from l.to) l.g l.a)
