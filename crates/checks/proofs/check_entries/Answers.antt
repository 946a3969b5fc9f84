-- `checks::check_entries` meets its contract: the tests in their order, each made where those before it found no fault.
use Rattle.std.proofs.Common.{sym}
use Rattle.std.proofs.lemmas.Result.{err_from_is_err_and}
use Rattle.answer.proofs.Checks.{fault_stops, fault_goes_on}
use Rattle.checks.specs.Checks.{entry_tests}
use Rattle.checks.proofs.Tests.{one_place}
use Rattle.checks.proofs.check_entries.Goals as goal

pub returns-in_err-refuse_at : goal.returns-in_err-refuse_at
unfolding entry_tests
returns-in_err-refuse_at c =
    let p = err_from_is_err_and c.from_residual.result c.from_residual.ensures.1 in
    let transition = one_place _ _ _ _ c.first_bad.ensures c.in_err-refuse_at.ensures in
    rw (p.1, p.2) (fault_stops _ _ _ (sym transition))

pub returns-in_err-refuse_at-2 : goal.returns-in_err-refuse_at-2
unfolding entry_tests
returns-in_err-refuse_at-2 c =
    let p = err_from_is_err_and c.from_residual-in_err-refuse_at-2.result c.from_residual-in_err-refuse_at-2.ensures.1 in
    let transition = one_place _ _ _ _ c.first_bad.ensures c.in_ok-refuse_at.ensures in
    let emission = one_place _ _ _ _ c.first_bad-2.ensures c.in_err-refuse_at-2.ensures in
    rw (p.1, p.2) (fault_goes_on _ _ _ _ (sym transition) (fault_stops _ _ _ (sym emission)))

pub returns-in_err-refuse_at-3 : goal.returns-in_err-refuse_at-3
unfolding entry_tests
returns-in_err-refuse_at-3 c =
    let p = err_from_is_err_and c.from_residual-in_err-refuse_at-3.result c.from_residual-in_err-refuse_at-3.ensures.1 in
    let transition = one_place _ _ _ _ c.first_bad.ensures c.in_ok-refuse_at.ensures in
    let emission = one_place _ _ _ _ c.first_bad-2.ensures c.in_ok-refuse_at-2.ensures in
    let initially = one_place _ _ _ _ c.first_bad-3.ensures c.in_err-refuse_at-3.ensures in
    rw (p.1, p.2) (fault_goes_on _ _ _ _ (sym transition) (fault_goes_on _ _ _ _ (sym emission) (fault_stops _ _ _ (sym initially))))

pub returns : goal.returns
unfolding entry_tests
returns c =
    let transition = one_place _ _ _ _ c.first_bad.ensures c.in_ok-refuse_at.ensures in
    let emission = one_place _ _ _ _ c.first_bad-2.ensures c.in_ok-refuse_at-2.ensures in
    let initially = one_place _ _ _ _ c.first_bad-3.ensures c.in_ok-refuse_at-3.ensures in
    let end = one_place _ _ _ _ c.first_bad_end.ensures c.refuse_at-4.ensures in
    fault_goes_on _ _ _ _ (sym transition) (fault_goes_on _ _ _ _ (sym emission) (fault_goes_on _ _ _ _ (sym initially) end))
