use borrow.Author.Rules.{rules}
use mathlib.Core.Path.{refl, ap, ◌∙◌}
use Rattle.sums.specs.Pair.{ln_add}
use Rattle.occupancy.proofs.Emitted.{emitted_none, emitted_more}
use Rattle.occupancy.proofs.symbol.emission_sums.Goals as goal

pub loop-t-init : goal.loop-t-init
loop-t-init c = emitted_none _ _ _ _ 256 _ c.requires.1.few c.minus_infinity-sums.ensures

pub loop-t-preserved : goal.loop-t-preserved
loop-t-preserved c =
    let occupancy = rw c.rows-rows.ensures at c.occupancy.ensures in
    emitted_more _ _ _ _ _ _ _ _ c.loop-t.invariant refl (search rules) (c.ln_add.ensures ∙ ap (ln_add _) occupancy)
