-- `best_path::step::next_row` meets its contract: the predecessors are found from the row in memory, and laid at the target.
use Rattle.std.proofs.Math.Nat.{add-sub_cancel_left}
use Rattle.best_path.proofs.Steps.{ranked_values, ranked_from}
use Rattle.best_path.proofs.step.next_row.Goals as goal

pub returns : goal.returns
returns c =
    let found = rw (add-sub_cancel_left c.args.source c.args.states) at c.predecessors.ensures in
    record {
      values_stored = ranked_values _ _ _ _ _ found _ _ _ _ c.lay_sums.ensures;
      from_stored = ranked_from _ _ _ _ _ found _ _ _ c.lay_winners.ensures;
    }
