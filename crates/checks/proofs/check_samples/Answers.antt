-- `checks::check_samples` meets its contract: its one test.
use Rattle.answer.specs.declared.Refusal.TheVariants.{UnknownSymbol}
use Rattle.checks.specs.Checks.{is_symbol, sample_tests}
use Rattle.checks.proofs.Tests.{one_place}
use Rattle.checks.proofs.check_samples.Goals as goal

pub returns : goal.returns
unfolding sample_tests
returns c = one_place UnknownSymbol 4 (is_symbol c.args.symbols) c.args.samples.now c.first_bad_sample.ensures c.refuse_at.ensures
