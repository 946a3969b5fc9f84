use Rattle.std.proofs.Common.{◌≡◌, ◌+◌, None, sym, ◌∙◌, add-one, arith}
use Rattle.frozen_list.specs.Cases.{span_of}
use Rattle.frozen_list.proofs.Spans.{none_from}
use Rattle.frozen_list.proofs.cases.list.Goals as goal

pub returns-in_err-found-clause-found : goal.returns-in_err-found-clause-found
unfolding span_of
returns-in_err-found-clause-found c =
    c.from_residual.ensures
    ∙ none_from c.args.case.now 0 c.args.k (sym c.list_at.ensures.found ∙ c.in_err-found.was) (omega arith)

pub returns-in_err-found-2-clause-found : goal.returns-in_err-found-2-clause-found
unfolding span_of
returns-in_err-found-2-clause-found c =
    let next : span_of c.args.case.now (c.loop.counter + 1) ≡ None =
    rw (add-one c.loop.counter, c.loop.invariant.0) (sym c.list_at-in-loop.ensures.found ∙ c.in_err-found-2.was) in
    c.from_residual-in_err-found-2.ensures ∙ none_from c.args.case.now (c.loop.counter + 1) c.args.k next (omega arith)
