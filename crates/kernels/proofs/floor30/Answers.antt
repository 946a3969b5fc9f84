-- `kernels::floor30` meets its contract: the digits shifted down, 0 where none is left.
use mathlib.Core.Path.{sym, ap, ◌∙◌, subst}
use native.Mathlib.Omega.{arith}
use Prim.Native.Nat.{ℕ, ◌-◌, ◌/◌, ◌^◌, ◌<◌}
use Rattle.kernels.specs.inner.Pattern.{field_of}
use Rattle.kernels.proofs.Floor.{floor_zero, floor_shifted, floor_lt}
use Rattle.kernels.proofs.floor30.Goals as goal

pub returns-then-field-lt993 : goal.returns-then-field-lt993
returns-then-field-lt993 c = let a = c.before.before in (floor_zero a.args.bits a.requires c.if-field-lt993.true, omega arith)

pub returns-else-field-lt993 : goal.returns-else-field-lt993
returns-else-field-lt993 c = let a = c.before.before in
    let b = a.args.bits in
    let e = c.digits-q.ensures in (
      ap (λ (q : ℕ). q / 2 ^ (1045 - field_of b)) e ∙ floor_shifted b a.requires c.if-field-lt993.false,
      subst (λ (q : ℕ). q / 2 ^ (1045 - field_of b) < 2 ^ 36) (sym e) (floor_lt b a.requires),
    )
