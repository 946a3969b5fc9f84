-- `rival::rival` meets its contract, in each of the three ways in which it returns.
use mathlib.Core.Path.{refl, sym, ◌∙◌}
use mathlib.Core.Bool.{false}
use native.Mathlib.Omega.{arith}
use Rattle.model.specs.Lent.{behind}
use Rattle.checks.specs.LetThrough.{LetThrough}
use Rattle.checks.proofs.Done.{let_through}
use Rattle.checks.proofs.Parts.{is_passed}
use Rattle.rival.specs.Call.{asked, outputs, rooms}
use Rattle.rival.proofs.Outcome.{is_refused, is_told, some_sample_lem, is_found}
use Rattle.rival.proofs.rival.Goals as goal

pub returns-in-Err : goal.returns-in-Err
returns-in-Err c = let a = c.args in
    let q = asked (behind a.lent.now) a.index in
    let o = outputs a.path.now a.rival_path.now a.values.now a.from.now in
    is_refused q o _ c.in-Err.ensures c.nothing.ensures

pub foretell-rivalry-requires : goal.foretell-rivalry-requires
foretell-rivalry-requires c = let a = c.args in
    let q = asked (behind a.lent.now) a.index in
    let o = outputs a.path.now a.rival_path.now a.values.now a.from.now in
    let passed = is_passed false q.lent (rooms q o) c.in_default.ensures in
    let through : LetThrough false (rooms q o) q.lent = let_through false _ q.lent passed in
    through.accepted

pub walk_both-requires : goal.walk_both-requires
walk_both-requires c = let a = c.args in
    let q = asked (behind a.lent.now) a.index in
    let o = outputs a.path.now a.rival_path.now a.values.now a.from.now in
    let passed = is_passed false q.lent (rooms q o) c.in_default.ensures in
    let through : LetThrough false (rooms q o) q.lent = let_through false _ q.lent passed in
    let told = c.foretell-rivalry.ensures in
    let foretold = sym c.is_done.ensures ∙ c.if-is_done.true in
    let sample = some_sample_lem q o _ passed told foretold in
    record { accepted = through.accepted; some_sample = omega (arith, sample); roomy = through.roomy }

pub returns-then-is_done : goal.returns-then-is_done
returns-then-is_done c = let a = c.args in
    let q = asked (behind a.lent.now) a.index in
    let o = outputs a.path.now a.rival_path.now a.values.now a.from.now in
    let passed = is_passed false q.lent (rooms q o) c.in_default.ensures in
    let told = c.foretell-rivalry.ensures in
    let foretold = sym c.is_done.ensures ∙ c.if-is_done.true in
    is_found q o _ passed told foretold _ _ refl c.walk_both.ensures

pub returns-else-is_done : goal.returns-else-is_done
returns-else-is_done c = let a = c.args in
    let q = asked (behind a.lent.now) a.index in
    let o = outputs a.path.now a.rival_path.now a.values.now a.from.now in
    let passed = is_passed false q.lent (rooms q o) c.in_default.ensures in
    is_told q o _ passed c.foretell-rivalry.ensures (sym c.is_done.ensures ∙ c.if-is_done.false)
