-- `checks::check_rest` meets its contract: its three parts in order, each made where those before it found no fault.
use Rattle.std.proofs.Common.{sym}
use Rattle.std.proofs.lemmas.Result.{err_from_is_err_and}
use Rattle.answer.proofs.Checks.{fault_stops, fault_goes_on}
use Rattle.checks.specs.inner.Parts.{rest_tests}
use Rattle.checks.proofs.check_rest.Goals as goal

pub returns-in_err-check_rooms : goal.returns-in_err-check_rooms
unfolding rest_tests
returns-in_err-check_rooms c =
    let p = err_from_is_err_and c.from_residual.result c.from_residual.ensures.1 in
    rw (p.1, p.2) (fault_stops _ _ _ (sym c.in_err-check_rooms.ensures))

pub returns-in_err-check_entries : goal.returns-in_err-check_entries
unfolding rest_tests
returns-in_err-check_entries c =
    let p = err_from_is_err_and c.from_residual-in_err-check_entries.result c.from_residual-in_err-check_entries.ensures.1 in
    rw (p.1, p.2) (fault_goes_on _ _ _ _ (sym c.in_ok-check_rooms.ensures) (fault_stops _ _ _ (sym c.in_err-check_entries.ensures)))

pub returns : goal.returns
unfolding rest_tests
returns c =
    fault_goes_on _ _ _ _ (sym c.in_ok-check_rooms.ensures)
    (fault_goes_on _ _ _ _ (sym c.in_ok-check_entries.ensures) c.check_samples.ensures)
