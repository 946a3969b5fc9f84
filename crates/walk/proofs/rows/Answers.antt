use mathlib.Core.List.{List}
use lib.Ieee.{Float}
use Prim.Native.Nat.{ℕ, ◌+◌, ◌*◌, ◌-◌}
use mathlib.Core.Path.{◌≡◌, refl, sym, ap, ◌∙◌}
use native.Mathlib.Omega.{arith}
use native.Mathlib.Nat.{zero-mul}
use mathlib.Core.Bool.{Bool}
use lib.ListN.{take, drop}
use lib.Ieee.{Float}
use Rattle.lists.proofs.Over.{length_tab}
use Rattle.lists.proofs.Places.{row_room, next_at}
use Rattle.lists.proofs.Rows.{row_in}
use Rattle.lists.proofs.Whole.{Whole, whole_none, whole_more, whole_done}
use Rattle.model.specs.Lent.{S, T, behind}
use Rattle.model.specs.Model.{Model, tabled}
use Rattle.emission.specs.Barring.{barring_by}
use Rattle.emission.specs.inner.Row.{emissions_of}
use Rattle.best_path.specs.Walk as Walk
use Rattle.best_path.specs.inner.Row.{StandsBefore}
use Rattle.walk.proofs.rows.Goals as goal

-- the row before row t stands
stands : (m : Model) (t n source : ℕ) (v₀ v : List Float) (target : ℕ) → source ≡ (t - 1) * m.states
    → Whole n m.states (Walk.value m) v₀ v t target → StandsBefore m t source v
stands m t n source v₀ v target e w h =
    ap (λ (k : ℕ). take m.states (drop k v)) e
    ∙ row_in t (t - 1) m.states _ _ _ (λ (k : ℕ). length_tab m.states _) w.is (omega arith)

pub loop-t-init : goal.loop-t-init
loop-t-init c = (sym (zero-mul _), refl, refl, refl, λ ends end. rw zero-mul (whole_none _ _ _ _, whole_none _ _ _ _))

-- row t has room in a memory of n rows
pub overflow_mul-target : goal.overflow_mul-target
overflow_mul-target c = let l = c.loop-t in
    let g = behind c.args.lent.now in
    omega (arith, row_room l.t (T g) (S g) c.loop-t-test.true, c.requires.walkable.values_room)

pub lay_sample-requires : goal.lay_sample-requires
lay_sample-requires c = let l = c.loop-t in
    let g = behind c.args.lent.now in
    let p = c.requires.walkable in
    let room = row_room l.t (T g) (S g) c.loop-t-test.true in
    let before = row_room (l.t - 1) (T g) (S g) (omega arith) in record {
      seen = record {
        symbolic = c.requires.symbolic;
        within = c.loop-t-test.true;
        emissions_room = omega (arith, p.few_states, l.invariant.1);
      };
      placed = record {
        some_state = p.some_state;
        few_states = p.few_states;
        transition_length = p.transition_length;
        initial_length = p.initial_length;
        first_at_front = λ z. ap (λ (k : ℕ). k * S g) z ∙ zero-mul (S g);
        source_room = omega (arith, before, p.values_room, l.invariant.0, l.invariant.2);
        values_room = omega (arith, room, p.values_room, l.invariant.2);
        from_room = omega (arith, room, p.from_room, l.invariant.3);
      };
    }

pub loop-t-preserved : goal.loop-t-preserved
loop-t-preserved c = let l = c.loop-t in
    let g = behind c.args.lent.now in
    let more = c.loop-t-test.true in
    let same : l.t ≡ l.t + 1 - 1 = omega arith in
    let next = next_at l.t (S g) (l.t * S g) refl in (
      ap (λ (k : ℕ). k * S g) same,
      c.lay_sample.auto.emissions ∙ l.invariant.1,
      c.lay_sample.auto.values ∙ l.invariant.2,
      c.lay_sample.auto.from ∙ l.invariant.3,
      λ (ends : Bool) (end : ℕ → Float).
          let whole = l.invariant.4 ends end in
          let m = tabled (S g) g.tables.transition g.tables.initial (barring_by c.args.bar (emissions_of g)) ends end in
          let laid = c.lay_sample.ensures ends end (stands m l.t _ l.source _ l.values (l.t * S g) l.invariant.0 whole.0) in (
            rw next at (whole_more _ _ _ _ c.requires.walkable.values_room _ _ _ _ _ whole.0 more refl laid.values_stored),
            rw next at (whole_more _ _ _ _ c.requires.walkable.from_room _ _ _ _ _ whole.1 more refl laid.from_stored),
          ),
    )

pub returns : goal.returns
returns c ends end = let h = c.loop-t.invariant.4 ends end in
    let past = c.loop-t-test.false in
    record { values_stored = whole_done _ _ _ _ _ _ _ h.0 past; from_stored = whole_done _ _ _ _ _ _ _ h.1 past }
