use borrow.Author.Rules.{rules}
use native.Mathlib.Omega.{arith}
use mathlib.Core.Path.{◌≡◌, refl, sym, ap₂, ◌∙◌}
use lib.ListN.{length-set}
use Rattle.lists.proofs.First.{first_none, first_more}
use Rattle.model.specs.Lent.{S}
use Rattle.occupancy.specs.inner.Rows.{lent_of}
use Rattle.occupancy.proofs.Held.{holds_more}
use Rattle.baum_welch.proofs.ZeroMass.{tested, whole_refused, state_refused, mass_passed}
use Rattle.baum_welch.proofs.mass.weigh.Goals as goal

pub returns-then-is_minus_infinity : goal.returns-then-is_minus_infinity
returns-then-is_minus_infinity c =
    whole_refused c.args.pass.now _ c.refused.ensures (sym c.is_minus_infinity.ensures ∙ c.if-is_minus_infinity.true)

pub loop-i-init : goal.loop-i-init
loop-i-init c = (refl, record { room = omega arith; is = λ k h. absurd (omega arith) }, first_none _)

pub returns-then-is_massless : goal.returns-then-is_massless
returns-then-is_massless c =
    let likely = sym c.is_minus_infinity.ensures ∙ c.if-is_minus_infinity.false in
    let gamma = rw c.rows-rows.ensures at c.gamma-gamma.ensures in
    let denominator = rw c.rows-rows.ensures at c.denominator-denominator.ensures in
    let none = tested _ _ _ _ _ _ c.is_massless.ensures gamma denominator ∙ c.if-is_massless.true in
    state_refused c.args.pass.now _ _ c.refused-then-is_massless.ensures likely c.loop-i.invariant.2 c.loop-i-test.true none

pub loop-i-preserved : goal.loop-i-preserved
loop-i-preserved c =
    let gamma = rw c.rows-rows.ensures at c.gamma-gamma.ensures in
    let denominator = rw c.rows-rows.ensures at c.denominator-denominator.ensures in
    let some = tested _ _ _ _ _ _ c.is_massless.ensures gamma denominator ∙ c.if-is_massless.false in (
      rw length-set c.loop-i.invariant.0,
      holds_more _ _ _ _ c.loop-i.invariant.1 (search rules) (ap₂ (λ g d. record { gamma = g; denominator = d }) gamma denominator),
      first_more _ _ c.loop-i.invariant.2 some,
    )

pub returns : goal.returns
returns c =
    let likely = sym c.is_minus_infinity.ensures ∙ c.if-is_minus_infinity.false in
    let all : c.loop-i.i ≡ S (lent_of c.args.pass.now) = omega arith in
    (mass_passed c.args.pass.now likely (rw all at c.loop-i.invariant.2), rw all at c.loop-i.invariant.1)
