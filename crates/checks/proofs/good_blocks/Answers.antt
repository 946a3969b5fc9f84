use Rattle.std.proofs.Common.{◌≡◌, ◌+◌, ◌*◌, ◌-◌, ℕ, sym, ap, ◌∙◌, drop, take}
use native.Mathlib.Omega.{arith}
use borrow.Author.Tests.{not-true}
use Rattle.lists.specs.Lists.{some_bad}
use Rattle.lists.proofs.Scan.{passed_part}
use Rattle.model.specs.Good.{good}
use Rattle.checks.proofs.good_blocks.Goals as goal

pub loop-k-preserved : goal.loop-k-preserved
loop-k-preserved c =
    let k = c.loop-k.k in
    let size : (k + 1) * 128 - k * 128 ≡ k * 128 + 128 - k * 128 = omega arith in
    let none = not-true _ (sym c.are_good.ensures ∙ c.if-not-are_good.false) in
    passed_part good _ (k * 128) ((k + 1) * 128) c.loop-k.invariant (omega arith) (omega (arith, c.loop-k-test.true))
    (ap (λ (n : ℕ). some_bad good (take n (drop (k * 128) c.args.table.now))) size ∙ none)
