-- `baum_welch::check` meets its contract: the two parts of the checks, with the needed lengths between.
use Rattle.std.proofs.Common.{◌≡◌, ◌*◌, ◌≤◌, sym, true, arith}
use Rattle.std.specs.Prelude.{Ok}
use Rattle.std.proofs.lemmas.Result.{err_from_is_err_and}
use native.Mathlib.Nat.{mul-le-mul}
use Rattle.answer.specs.Checks.{first_fault}
use Rattle.answer.proofs.Checks.{Clear, passed}
use Rattle.model.specs.Lent.{Lent, S, M, behind}
use Rattle.checks.specs.Checks.{shape_tests}
use Rattle.checks.specs.inner.Parts.{sizes_of, size_tests}
use Rattle.checks.proofs.Tests.{in_range_lem}
use Rattle.checks.proofs.Parts.{few_places, sizes_stop, rest_goes_on}
use Rattle.baum_welch.proofs.check.Goals as goal

-- the new tables' places
few_new : (l : Lent) {u : Unit} → Ok u ≡ first_fault (size_tests true l) → (S l * S l ≤ 64 * 64) × (S l * M l ≤ 64 * 256)
unfolding sizes_of shape_tests Clear
few_new l {u} e =
    let clear = passed (size_tests true l) u (sym e) in
    let states = (in_range_lem (S l) 64 clear.0).1 in
    (mul-le-mul states states, mul-le-mul states (in_range_lem (M l) 256 clear.1.0).1)

pub returns-in_err-check_lengths : goal.returns-in_err-check_lengths
returns-in_err-check_lengths c =
    let p = err_from_is_err_and c.from_residual.result c.from_residual.ensures.1 in
    rw (p.1, p.2) (sizes_stop true (behind c.args.lent.now) _ c.in_err-check_lengths.ensures)

pub overflow_mul-places : goal.overflow_mul-places
overflow_mul-places c = omega (arith, few_places true (behind c.args.lent.now) c.in_ok-check_lengths.ensures)

pub overflow_mul-states : goal.overflow_mul-states
overflow_mul-states c = omega (arith, few_new (behind c.args.lent.now) c.in_ok-check_lengths.ensures)

pub overflow_mul-states-2 : goal.overflow_mul-states-2
overflow_mul-states-2 c = omega (arith, few_new (behind c.args.lent.now) c.in_ok-check_lengths.ensures)

pub returns : goal.returns
returns c =
    let rest = rw (c.of.ensures, c.of-2.ensures, c.of-3.ensures, c.of-4.ensures, c.of-5.ensures, c.of-6.ensures) at c.check_rest.ensures in
    rest_goes_on true (behind c.args.lent.now) _ c.in_ok-check_lengths.ensures rest
