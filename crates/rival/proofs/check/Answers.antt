-- `rival::check` meets its contract: sizes first, and the rest where they find no fault.
use Rattle.std.proofs.Common.{false, arith}
use Rattle.std.proofs.lemmas.Result.{err_from_is_err_and}
use Rattle.model.specs.Lent.{behind}
use Rattle.checks.proofs.Parts.{few_places, sizes_stop, rest_goes_on}
use Rattle.rival.proofs.check.Goals as goal

pub returns-in_err-check_lengths : goal.returns-in_err-check_lengths
returns-in_err-check_lengths c =
    let p = err_from_is_err_and c.from_residual.result c.from_residual.ensures.1 in
    rw (p.1, p.2) (sizes_stop false (behind c.args.lent.now) _ c.in_err-check_lengths.ensures)

pub overflow_mul-places : goal.overflow_mul-places
overflow_mul-places c = omega (arith, few_places false (behind c.args.lent.now) c.in_ok-check_lengths.ensures)

pub returns : goal.returns
returns c =
    let rest = rw (c.of.ensures, c.of-2.ensures, c.of-3.ensures, c.of-4.ensures) at c.check_rest.ensures in
    rest_goes_on false (behind c.args.lent.now) _ c.in_ok-check_lengths.ensures rest
