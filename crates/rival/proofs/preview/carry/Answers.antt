use Rattle.std.proofs.Common.{◌≡◌, ℕ, ◌+◌, ◌-◌, ◌<◌, List, get_or, take, refl, ap, subst, ◌∙◌, arith}
use Rattle.std.specs.Prelude.{Float}
use native.Mathlib.Nat.{not-suc-le-zero}
use Rattle.lists.specs.Lists.{tab, over}
use Rattle.lists.proofs.Laid.{front}
use Rattle.lists.proofs.Over.{front_at}
use Rattle.model.specs.Lent.{T, behind}
use Rattle.model.specs.Model.{Model, model_of}
use Rattle.best_path.specs.Walk.{value}
use Rattle.best_path.proofs.States.{from_state}
use Rattle.walk.specs.Barred.{barred_by}
use Rattle.rival.specs.inner.Origins.{Origins}
use Rattle.rival.proofs.Origins.{origins_laid}
use Rattle.rival.proofs.preview.carry.Goals as goal

-- the predecessors of a row that is stored
from_is : (S : ℕ) (f : ℕ → ℕ) (was is : List ℕ) → is ≡ over 0 (tab S f) was → (j : ℕ) → j < S → get_or is j 0 ≡ f j
from_is S f was is e j h = ap (λ (q : List ℕ). get_or q j 0) e ∙ front_at _ _ _ j 0 h

-- once every row is laid, the last one stands, and the origins are its states'
at_end : (m : Model) (index n t : ℕ) (row : List Float) (origins : List ℕ) → t ≡ n
    → (take m.states row ≡ tab m.states (value m (t - 1))) × Origins m index (t - 1) origins
    → (take m.states row ≡ tab m.states (value m (n - 1))) × Origins m index (n - 1) origins
at_end m index n t row origins e h =
    subst (λ (k : ℕ). (take m.states row ≡ tab m.states (value m (k - 1))) × Origins m index (k - 1) origins) e h

pub loop-t-init : goal.loop-t-init
loop-t-init c = (refl, c.requires.sized.0, refl, c.requires.sized.1, λ h. absurd (not-suc-le-zero h))

pub lay_sample-requires : goal.lay_sample-requires
lay_sample-requires c =
    let tables = c.requires.accepted.tables in
    let few = tables.in_range.few_states in
    let l = c.loop-t in
    record {
      seen = record {
        symbolic = record { emission_length = tables.emission_length; known = c.requires.accepted.samples.known };
        within = c.loop-t-test.true;
        emissions_room = omega (arith, few, l.invariant.0);
      };
      placed = record {
        some_state = tables.in_range.some_state;
        few_states = few;
        transition_length = tables.transition_length;
        initial_length = tables.initial_length;
        first_at_front = λ z. refl;
        source_room = omega (arith, few, l.invariant.1);
        values_room = omega (arith, few, l.invariant.1);
        from_room = omega (arith, few, l.invariant.2);
      };
    }

pub lay_origins-requires : goal.lay_origins-requires
lay_origins-requires c =
    let range = c.requires.accepted.tables.in_range in
    let few = range.few_states in
    let l = c.loop-t in
    let m = barred_by c.args.bar (model_of (behind c.args.lent.now)) in
    let stored = c.lay_sample.ensures m.ends m.end (λ h. (l.invariant.4 h).0) in
    record {
      few_states = few;
      followable = record {
        from_room = omega (arith, few, l.invariant.2, c.lay_sample.auto.from);
        origins_room = omega (arith, few, l.invariant.3);
        below = λ (j : ℕ) h.
            let is = from_is _ _ _ _ stored.from_stored j h in
            let state = from_state m range.some_state l.t j h in
            omega (arith, is, state, few, l.invariant.3);
      };
    }

pub loop-t-preserved : goal.loop-t-preserved
loop-t-preserved c =
    let l = c.loop-t in
    let m = barred_by c.args.bar (model_of (behind c.args.lent.now)) in
    let same : l.t ≡ l.t + 1 - 1 = omega arith in (
      c.lay_sample.auto.emissions ∙ l.invariant.0,
      c.lay_sample.auto.values ∙ l.invariant.1,
      c.lay_sample.auto.from ∙ l.invariant.2,
      c.lay_origins.auto.origins ∙ l.invariant.3,
      λ h.
          let stored = c.lay_sample.ensures m.ends m.end (λ k. (l.invariant.4 k).0) in (
            front _ _ _ _ stored.values_stored ∙ ap (λ (k : ℕ). tab m.states (value m k)) same,
            subst (λ (k : ℕ). Origins m c.args.index k c.lay_origins.new.origins) same
                (origins_laid m c.args.index l.t _ _ _ c.requires.accepted.tables.in_range.some_state c.lay_origins.ensures
                (from_is _ _ _ _ stored.from_stored) (λ i. (l.invariant.4 i).1)),
          ),
    )

pub returns : goal.returns
returns c =
    let l = c.loop-t in
    let m = barred_by c.args.bar (model_of (behind c.args.lent.now)) in
    let n = T (behind c.args.lent.now) in
    let all : l.t ≡ n = omega arith in
    let done = at_end m c.args.index n l.t l.carried.row l.carried.origins all (l.invariant.4 (omega (arith, all, c.requires.some_sample))) in
    record { row_length = l.invariant.1; origins_length = l.invariant.3; row = done.0; origins = done.1 }
