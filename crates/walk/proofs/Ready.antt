-- What is lent and accepted can be walked, where there is a sample and room.
use Prim.Native.Nat.{ℕ, ◌*◌, ◌≤◌, ◌<◌}
use mathlib.Core.List.{List}
use lib.ListN.{length}
use lib.Ieee.{Float}
use Rattle.model.specs.Lent.{Lent, S, T}
use Rattle.model.specs.Accepted.{Accepted}
use Rattle.walk.specs.inner.Path.{Decodable}

pub decodable : (l : Lent) (path : List ℕ) (values : List Float) (from : List ℕ) → Accepted l → 0 < T l
    → T l ≤ length path → T l * S l ≤ length values → T l * S l ≤ length from → Decodable l path values from
decodable l path values from a some p v f =
    let m = a.tables in
    record {
      walkable = record {
        some_state = m.in_range.some_state;
        few_states = m.in_range.few_states;
        transition_length = m.transition_length;
        initial_length = m.initial_length;
        values_room = v;
        from_room = f;
      };
      symbolic = record { emission_length = m.emission_length; known = a.samples.known };
      end_length = m.end_length;
      some_sample = some;
      path_room = p;
    }
