-- `checks::check_sizes` meets its contract: its three parts in order, each made where those before it found no fault.
use Rattle.std.proofs.Common.{sym, ◌≤◌}
use Rattle.std.proofs.lemmas.Result.{err_from_is_err_and}
use native.Mathlib.Omega.{arith}
use native.Mathlib.Nat.{mul-le-mul}
use Rattle.answer.proofs.Checks.{Clear, passed, fault_stops, fault_goes_on}
use Rattle.model.specs.declared.Shape.{Shape}
use Rattle.checks.specs.Checks.{shape_tests}
use Rattle.checks.specs.inner.Parts.{sizes_of}
use Rattle.checks.proofs.Tests.{in_range_lem}
use Rattle.checks.proofs.check_sizes.Goals as goal

few_states_lem : (shape : Shape) → Clear (shape_tests shape) → shape.states ≤ 64
unfolding shape_tests Clear
few_states_lem shape k = (in_range_lem _ _ k.0).1

few_symbols_lem : (shape : Shape) → Clear (shape_tests shape) → shape.symbols ≤ 256
unfolding shape_tests Clear
few_symbols_lem shape k = (in_range_lem _ _ k.1.0).1

pub returns-in_err-check_shape : goal.returns-in_err-check_shape
unfolding sizes_of
returns-in_err-check_shape c =
    let p = err_from_is_err_and c.from_residual.result c.from_residual.ensures.1 in
    rw (p.1, p.2) (fault_stops _ _ _ (sym c.in_err-check_shape.ensures))

pub returns-in_err-check_count : goal.returns-in_err-check_count
unfolding sizes_of
returns-in_err-check_count c =
    let p = err_from_is_err_and c.from_residual-in_err-check_count.result c.from_residual-in_err-check_count.ensures.1 in
    rw (p.1, p.2) (fault_goes_on _ _ _ _ (sym c.in_ok-check_shape.ensures) (fault_stops _ _ _ (sym c.in_err-check_count.ensures)))

pub overflow_mul-states : goal.overflow_mul-states
overflow_mul-states c =
    let h = few_states_lem _ (passed _ _ (sym c.in_ok-check_shape.ensures)) in
    omega (arith, mul-le-mul h h)

pub overflow_mul-states-2 : goal.overflow_mul-states-2
overflow_mul-states-2 c =
    let k = passed _ _ (sym c.in_ok-check_shape.ensures) in
    omega (arith, mul-le-mul (few_states_lem _ k) (few_symbols_lem _ k))

pub returns : goal.returns
unfolding sizes_of
returns c =
    let rooms = rw (c.of.ensures, c.of-2.ensures, c.of-3.ensures, c.of-4.ensures) at c.check_rooms.ensures in
    fault_goes_on _ _ _ _ (sym c.in_ok-check_shape.ensures) (fault_goes_on _ _ _ _ (sym c.in_ok-check_count.ensures) rooms)
