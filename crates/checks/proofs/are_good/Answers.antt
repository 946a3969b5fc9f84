use Prim.Native.Nat.{◌<◌, ◌^◌}
use mathlib.Core.Path.{sym, ap₂, ◌∙◌}
use mathlib.Core.Bool.{◌&&◌}
use native.Mathlib.Omega.{arith}
use lib.Bits.{and_lt}
use lib.Ieee.{nan}
use borrow.Author.Rules.{rules}
use borrow.Author.Tests.{le-leb}
use Rattle.lists.specs.Lists.{first_bad}
use Rattle.lists.proofs.Scan.{reaches_more}
use Rattle.model.specs.Good.{good}
use Rattle.model.specs.inner.Marks.{is_set}
use Rattle.model.proofs.Marks.{set_and}
use Rattle.checks.proofs.Tests.{none_below}
use Rattle.checks.proofs.are_good.Goals as goal

pub loop-entry-init : goal.loop-entry-init
unfolding is_set
loop-entry-init c = (omega arith, omega arith, sym (le-leb 0 (first_bad good c.args.table.now) (omega arith)))

pub loop-entry-preserved : goal.loop-entry-preserved
loop-entry-preserved c =
    let inv = c.loop-entry.invariant in
    let small : c.mark-marks.result < 2 ^ 64 = search rules in
    let set = set_and c.loop-entry.marks c.mark-marks.result inv.0 small in (
      and_lt 64 _ _ inv.0 small,
      omega arith,
      set ∙ ap₂ ◌&&◌ inv.2 c.mark-marks.ensures ∙ reaches_more good nan _ _ c.loop-entry-test.true,
    )

pub returns : goal.returns
returns c = let inv = c.loop-entry.invariant in
    c.is_set.ensures ∙ inv.2 ∙ none_below good _ _ c.loop-entry-test.false inv.1
