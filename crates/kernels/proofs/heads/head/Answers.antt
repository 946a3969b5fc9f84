-- `kernels::heads::head` meets its contract: each entry of the table is the definition's value.
use Rattle.std.proofs.Common.{◌≡◌, ℕ, Bool, true, ◌^◌, take, get_or, eqb, refl}
use Rattle.std.proofs.lemmas.Bool.{agree_below, agree_below_at, eqb-true}
use Rattle.kernels.specs.Roots.{constants}
use Rattle.kernels.specs.Exp.{steps}
use Rattle.kernels.specs.declared.heads.TheConstants.{HEADS}
use Rattle.kernels.proofs.heads.head.Goals as goal

abbrev agrees : ℕ → Bool
agrees h = eqb (get_or HEADS h 0) (steps (take 7 constants) h (2 ^ 31))

all_agree : agree_below agrees (λ (h : ℕ). true) 128 ≡ true
unfolding steps constants
all_agree = refl

pub returns-then-h-lt128 : goal.returns-then-h-lt128
returns-then-h-lt128 c = eqb-true _ _ (agree_below_at agrees (λ (h : ℕ). true) 128 c.args.h all_agree c.if-h-lt128.true)
