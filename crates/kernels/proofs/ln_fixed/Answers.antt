-- `kernels::ln_fixed` meets its contract: the digits, their size and place, and the bits of the logarithm make up the definition's number.
use mathlib.Core.Path.{◌≡◌, sym, ap, ◌∙◌, subst}
use native.Mathlib.Omega.{arith}
use Prim.Native.Nat.{ℕ, ◌≤◌}
use lib.Dec.{T}
use lib.IntN.{ℤ}
use lib.Ieee.{binary64, in_float, size}
use mir.Syntax.{w64}
use mir.ValLaws.{to_z-of_z}
use Rattle.kernels.specs.inner.Pattern.{digits_of}
use Rattle.kernels.proofs.LnParts.{digits_size, parts}
use Rattle.kernels.proofs.ln_fixed.Goals as goal

-- the size is at most 53
small : (bits q s : ℕ) → q ≡ digits_of bits → s ≡ size q → s ≤ 53
small bits q s d e = subst (λ (z : ℕ). z ≤ 53) (sym (e ∙ ap size d)) (digits_size bits)

pub overflow_sub-k : goal.overflow_sub-k
overflow_sub-k c = omega (arith, small c.args.bits c.digits-q.result c.size_of-k.result c.digits-q.ensures c.size_of-k.ensures.0)

pub overflow_add-place : goal.overflow_add-place
overflow_add-place c = omega (arith, small c.args.bits c.digits-q.result c.size_of-k.result c.digits-q.ensures c.size_of-k.ensures.0, c.requires.1)

pub join-requires : goal.join-requires
join-requires c = omega (arith, small c.args.bits c.digits-q.result c.size_of-k.result c.digits-q.ensures c.size_of-k.ensures.0, c.requires.1, c.log_bits-f.ensures.1)

pub returns : goal.returns
returns c = let back = to_z-of_z w64 c.join.result (record { sfits = c.join.type_inv }) in (
  back
      ∙ c.join.ensures.0
      ∙ parts c.args.bits c.requires.0 c.requires.1 c.digits-q.result c.size_of-k.result c.place.result
      c.log_bits-f.result c.digits-q.ensures c.size_of-k.ensures.0 c.place.ensures c.log_bits-f.ensures.0,
  subst (λ (z : ℤ). T (in_float binary64 z)) (sym back) c.join.ensures.1,
)
