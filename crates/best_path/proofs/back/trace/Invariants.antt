-- `best_path::back::trace` meets its contract. The loop's invariant, `Traced`: the path to k at time t - 1 is left to write, and what follows
-- it is written.
use Rattle.std.proofs.Common.{◌-◌, ◌<◌}
use Rattle.best_path.specs.inner.Back.{from_at}
use Rattle.best_path.proofs.WayBack.{Traced}
use Rattle.best_path.proofs.back.trace.Given as goal

abbrev pub invariant-loop-t : goal.invariant-loop-t
invariant-loop-t l = record {
  left : 0 < l.t;
  traced : Traced l.start (from_at l.states l.from) l.states (l.n - 1) l.last l.initial.path l.path (l.t - 1) l.k;
}
