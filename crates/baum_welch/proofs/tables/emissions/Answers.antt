use mathlib.Core.Path.{ap}
use Rattle.baum_welch.specs.declared.mass.Mass.{Mass}
use Rattle.baum_welch.proofs.Shares.{emission_row, rows_none, rows_more}
use Rattle.baum_welch.proofs.tables.emissions.Goals as goal

pub loop-i-init : goal.loop-i-init
loop-i-init c = rows_none _ _ _

pub loop-i-preserved : goal.loop-i-preserved
loop-i-preserved c =
    let d = ap (λ (m : Mass). m.gamma) (c.requires.holds.is _ c.loop-i-test.true) in
    rows_more _ _ _ _ _ _ _ _ c.loop-i.invariant c.loop-i-test.true c.requires.symbols_in_bounds c.store_shares.ensures
    (emission_row _ _ _ _ _ _ c.emission_sums-sums.ensures d)
