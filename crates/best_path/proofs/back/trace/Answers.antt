use Rattle.std.proofs.Common.{arith}
use Rattle.best_path.proofs.WayBack.{traced_none, traced_more, traced_all}
use Rattle.best_path.proofs.back.trace.Goals as goal

pub loop-t-init : goal.loop-t-init
loop-t-init c = record { left = c.requires.some_sample; traced = traced_none _ _ _ _ _ _ (omega arith) c.requires.last_below }

pub loop-t-preserved : goal.loop-t-preserved
loop-t-preserved c =
    let h = c.loop-t.invariant.traced in
    record {
      left = omega arith;
      traced = traced_more _ _ _ _ _ _ (omega arith) _ _ _ h (omega arith) (c.requires.below _ _ (omega arith) h.below);
    }

pub returns : goal.returns
returns c = traced_all _ _ _ _ _ _ (omega arith) _ _ _ c.loop-t.invariant.traced (omega arith)
