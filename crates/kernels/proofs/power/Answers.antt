-- `kernels::power` meets its contract: the first seven steps from the table, then the others.
use borrow.Author.Rules.{rules}
use mathlib.Core.Path.{sym, subst}
use Prim.Native.Nat.{ℕ, ◌/◌, ◌^◌, ◌≤◌}
use Rattle.kernels.proofs.Steps.{first_seven_le, by_head}
use Rattle.kernels.proofs.power.Goals as goal

head_le : (c : goal.After-head) → c.head.result ≤ 2 ^ 31
head_le c = subst (λ (n : ℕ). n ≤ 2 ^ 31) (sym c.head.ensures) (first_seven_le (c.args.g / 2 ^ 23))

pub steps_over-requires : goal.steps_over-requires
steps_over-requires c = let h = head_le c in search rules

pub returns : goal.returns
returns c = (
  by_head c.args.g c.head.result c.steps_over.result c.head.ensures c.steps_over.ensures.0,
  c.steps_over.ensures.1,
)
