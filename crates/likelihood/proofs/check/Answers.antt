-- `likelihood::check` meets its contract: both parts of the checks, the second where the first found no fault.
use Rattle.std.proofs.Common.{arith}
use Rattle.std.proofs.lemmas.Result.{err_from_is_err_and}
use Rattle.model.specs.Lent.{behind}
use Rattle.checks.proofs.Parts.{few_places, sizes_stop, rest_goes_on}
use Rattle.likelihood.proofs.check.Goals as goal

pub returns-in_err-check_lengths : goal.returns-in_err-check_lengths
returns-in_err-check_lengths c =
    let p = err_from_is_err_and c.from_residual.result c.from_residual.ensures.1 in
    rw (p.1, p.2) (sizes_stop c.args.needs_sample (behind c.args.lent.now) _ c.in_err-check_lengths.ensures)

pub overflow_mul-places : goal.overflow_mul-places
overflow_mul-places c = omega (arith, few_places c.args.needs_sample (behind c.args.lent.now) c.in_ok-check_lengths.ensures)

pub returns : goal.returns
returns c =
    let rest = rw c.of.ensures at c.check_rest.ensures in
    rest_goes_on c.args.needs_sample (behind c.args.lent.now) _ c.in_ok-check_lengths.ensures rest
