-- `walk::decode` meets its contract: the last row and the predecessors are read back from the rows that were filled.
use Prim.Native.Nat.{ℕ, ◌-◌, ◌<◌}
use mathlib.Core.Path.{ap, ◌∙◌}
use mathlib.Core.List.{List}
use native.Mathlib.Omega.{arith}
use Rattle.lists.specs.Lists.{over}
use Rattle.lists.proofs.Over.{length_tab}
use Rattle.lists.proofs.Places.{last_room}
use Rattle.model.specs.Lent.{S, T, behind}
use Rattle.model.specs.Model.{model_of}
use Rattle.best_path.proofs.States.{last_below_lem}
use Rattle.best_path.proofs.Found.{last_row, last_found, value_found, from_is_state, path_found}
use Rattle.walk.specs.Barred.{barred_by}
use Rattle.walk.proofs.decode.Goals as goal

pub overflow_mul-start : goal.overflow_mul-start
overflow_mul-start c = omega (arith, last_room _ _ _ c.requires.some_sample c.requires.walkable.values_room)

pub overflow_add-stop : goal.overflow_add-stop
overflow_add-stop c = omega (arith, last_room _ _ _ c.requires.some_sample c.requires.walkable.values_room)

pub offset_bounds-values-start : goal.offset_bounds-values-start
offset_bounds-values-start c = omega (arith, last_room _ _ _ c.requires.some_sample c.requires.walkable.values_room)

pub slice_bounds-row-end : goal.slice_bounds-row-end
slice_bounds-row-end c = omega (arith, last_room _ _ _ c.requires.some_sample c.requires.walkable.values_room, c.rows.auto.values)

pub last_state-last-requires : goal.last_state-last-requires
last_state-last-requires c = let a = c.args in
    let g = behind a.lent.now in
    let m = barred_by a.bar (model_of g) in
    let n = T g in
    let some = c.requires.walkable.some_state in
    let sample = c.requires.some_sample in
    let stored = c.rows.ensures m.ends m.end in
    let row = last_row m n some sample _ _ stored.values_stored in
    rw (row, length_tab) (some, c.requires.end_length)

pub trace-requires : goal.trace-requires
trace-requires c = let a = c.args in
    let g = behind a.lent.now in
    let m = barred_by a.bar (model_of g) in
    let n = T g in
    let some = c.requires.walkable.some_state in
    let sample = c.requires.some_sample in
    let stored = c.rows.ensures m.ends m.end in
    let row = last_row m n some sample _ _ stored.values_stored in
    let is = last_found m n some sample _ row _ c.last_state-last.ensures in
    let below : c.last_state-last.result < S g = omega (arith, is, last_below_lem m some (n - 1)) in
    let p = c.requires in
    record {
      few_states = p.walkable.few_states;
      some_sample = p.some_sample;
      last_below = below;
      from_room = omega (arith, p.walkable.from_room, c.rows.auto.from);
      path_room = omega (arith, p.path_room);
      below = from_is_state m n some sample _ _ stored.from_stored;
    }

pub close-requires : goal.close-requires
close-requires c = let a = c.args in
    let g = behind a.lent.now in
    let m = barred_by a.bar (model_of g) in
    let n = T g in
    let some = c.requires.walkable.some_state in
    let sample = c.requires.some_sample in
    let stored = c.rows.ensures m.ends m.end in
    let row = last_row m n some sample _ _ stored.values_stored in
    let is = last_found m n some sample _ row _ c.last_state-last.ensures in
    let below : c.last_state-last.result < S g = omega (arith, is, last_below_lem m some (n - 1)) in
    rw (row, length_tab) (omega (arith, below, c.requires.end_length), below)

pub returns : goal.returns
returns c = let a = c.args in
    let g = behind a.lent.now in
    let m = barred_by a.bar (model_of g) in
    let n = T g in
    let some = c.requires.walkable.some_state in
    let sample = c.requires.some_sample in
    let stored = c.rows.ensures m.ends m.end in
    let row = last_row m n some sample _ _ stored.values_stored in
    let is = last_found m n some sample _ row _ c.last_state-last.ensures in
    let below : c.last_state-last.result < S g = omega (arith, is, last_below_lem m some (n - 1)) in
    record {
      value_found = c.close.ensures ∙ value_found m n some sample _ row _ is;
      path_stored =
          c.trace.ensures
          ∙ ap (λ (q : List ℕ). over 0 q a.path.now) (path_found m n some sample _ _ stored.from_stored _ is);
      rows_filled = stored;
    }
