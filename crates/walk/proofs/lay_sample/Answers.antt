-- `walk::lay_sample` meets its contract: the row is worked out from the emissions of its sample, as they are laid out.
use Rattle.std.proofs.Common.{sym, ap, ◌∙◌, length}
use Rattle.lists.proofs.Laid.{front}
use Rattle.lists.proofs.Over.{length_tab}
use Rattle.model.specs.Lent.{behind}
use Rattle.emission.specs.Barring.{barring_by}
use Rattle.emission.specs.inner.Row.{emissions_of}
use Rattle.walk.proofs.lay_sample.Goals as goal

pub lay_barred-requires : goal.lay_barred-requires
lay_barred-requires c = let seen = c.requires.seen in (
  seen.within,
  record {
    emission_length = seen.symbolic.emission_length;
    symbol = seen.symbolic.known c.args.t seen.within;
    emissions_room = seen.emissions_room;
  },
)

pub slice_bounds-lay_row-end-2 : goal.slice_bounds-lay_row-end-2
slice_bounds-lay_row-end-2 c = sym (ap length (front _ _ _ _ c.lay_barred.ensures) ∙ length_tab _ _)

pub lay_row-requires : goal.lay_row-requires
lay_row-requires c = let p = c.requires.placed in
    record {
      some_state = p.some_state;
      few_states = p.few_states;
      transition_length = p.transition_length;
      initial_length = p.initial_length;
      emissions_length = ap length (front _ _ _ _ c.lay_barred.ensures) ∙ length_tab _ _;
      first_at_front = p.first_at_front;
      source_room = p.source_room;
      values_room = p.values_room;
      from_room = p.from_room;
    }

pub returns : goal.returns
returns c ends end before =
    let emission = barring_by c.args.bar (emissions_of (behind c.args.lent.now)) in
    c.lay_row.ensures emission ends end (front _ _ _ _ c.lay_barred.ensures) before
