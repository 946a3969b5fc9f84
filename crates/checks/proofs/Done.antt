-- The checks are done exactly where the call is let through: what each slot of them found, and the whole.
use Prim.Native.Nat.{ℕ, suc, ◌<◌}
use mathlib.Core.Path.{◌≡◌}
use mathlib.Core.Bool.{Bool, true, false}
use mathlib.Core.List.{List, [], ◌∷◌, ◌++◌}
use lib.Dec.{T, ltb→lt, lt→ltb}
use lib.ListN.{length}
use borrow.Author.Tests.{ltb-false, le-ltb, eqb-true, not-false}
use Rattle.floats.specs.Float.{minus_infinity}
use Rattle.answer.specs.Answer.{is_done}
use Rattle.answer.specs.Checks.{Tests}
use Rattle.answer.proofs.Checks.{Refuses, refuse_both, Clear, clear, no_fault, clear_both, clear_left, clear_right}
use Rattle.model.specs.declared.Shape.{Shape}
use Rattle.model.specs.Lent as Memory
use Rattle.model.specs.Lent.{Tables, Lent, M}
use Rattle.model.specs.Good.{good, good_end}
use Rattle.model.specs.Accepted.{AcceptedTables, AcceptedSamples}
use Rattle.checks.specs.declared.Room.{Room}
use Rattle.checks.specs.Rooms.{Roomy}
use Rattle.checks.specs.Checks.{shape_tests, count_tests, room_tests, table_rooms, entry_tests, is_symbol, sample_tests, tests_of, passage, check}
use Rattle.checks.specs.LetThrough.{LetThrough}
use Rattle.checks.proofs.Tests.{needs_none, needs_one, agree, every, no_bad}
use Rattle.checks.proofs.Shapes.{shape_clear, shape_in_range}
use Rattle.checks.proofs.Rooms.{rooms_refuse}
use Rattle.checks.proofs.Slots.{shape_refuses, count_refuses, entries_refuse, samples_refuse}

-- ---- the tables: 1, 2, 5 and 7
module _ (m : Tables) where
  pub accepted_tables : Clear (shape_tests m.shape) → Clear (room_tests true 0 (table_rooms m)) → Clear (entry_tests m) → AcceptedTables m
  unfolding room_tests entry_tests Clear
  accepted_tables f g h =
      record {
        in_range = shape_in_range m.shape f;
        transition_length = eqb-true _ _ (not-false _ g.0);
        emission_length = eqb-true _ _ (not-false _ g.1.0);
        initial_length = eqb-true _ _ (not-false _ g.1.1.0);
        end_length = eqb-true _ _ (not-false _ g.1.1.1.0);
        transition_good = every good _ minus_infinity h.0;
        emission_good = every good _ minus_infinity h.1.0;
        initial_good = every good _ minus_infinity h.1.1.0;
        end_good = every (good_end m.shape.ends) _ minus_infinity h.1.1.1.0;
      }

  module _ (a : AcceptedTables m) where
    pub clear_tables : Clear (room_tests true 0 (table_rooms m))
    unfolding room_tests Clear
    clear_tables =
        (agree _ _ a.transition_length, (agree _ _ a.emission_length, (agree _ _ a.initial_length, (agree _ _ a.end_length, tt))))

    pub clear_entries : Clear (entry_tests m)
    unfolding entry_tests Clear
    clear_entries =
        let transition = no_bad good m.transition minus_infinity a.transition_good in
        let emission = no_bad good m.emission minus_infinity a.emission_good in
        let initial = no_bad good m.initial minus_infinity a.initial_good in
        let end = no_bad (good_end m.shape.ends) m.end minus_infinity a.end_good in
        (transition, (emission, (initial, (end, tt))))

-- ---- the samples: 3, 4 and 8
module _ (needs_sample : Bool) (shape : Shape) (samples : List ℕ) where
  accepted_samples : Clear (count_tests needs_sample (length samples)) → Clear (sample_tests shape.symbols samples) → AcceptedSamples shape samples
  unfolding count_tests sample_tests Clear
  accepted_samples f g =
      record {
        few_samples = ltb-false _ _ f.0;
        known = λ (t : ℕ) h. ltb→lt _ _ (every (is_symbol shape.symbols) samples 0 g.0 t h);
      }

  sampled : Clear (count_tests needs_sample (length samples)) → T needs_sample → 0 < length samples
  unfolding count_tests Clear
  sampled f = needs_one needs_sample (length samples) f.1.0

  module _ (a : AcceptedSamples shape samples) where
    clear_count : (T needs_sample → 0 < length samples) → Clear (count_tests needs_sample (length samples))
    unfolding count_tests Clear
    clear_count h = (le-ltb _ _ a.few_samples, (needs_none needs_sample (length samples) h, tt))

    clear_samples : Clear (sample_tests shape.symbols samples)
    unfolding sample_tests Clear
    clear_samples = (no_bad (is_symbol shape.symbols) samples 0 (λ (t : ℕ) h. lt→ltb _ _ (a.known t h)), tt)

-- ---- the outputs: 6
pub is_roomy : (k : ℕ) (os : List Room) → Clear (room_tests false k os) → Roomy os
unfolding room_tests Clear
is_roomy k [] f = tt
is_roomy k (o ∷ os) f = (ltb-false _ _ f.0, is_roomy (suc k) os f.1)

pub clear_outputs : (k : ℕ) (os : List Room) → Roomy os → Clear (room_tests false k os)
unfolding room_tests Clear
clear_outputs k [] r = tt
clear_outputs k (o ∷ os) r = (le-ltb _ _ r.0, clear_outputs (suc k) os r.1)

-- ---- all slots of a call on one passage
module _ (needs_sample : Bool) (outputs : List Room) (l : Lent) where
  abbrev shape : Tests
  shape = shape_tests l.tables.shape

  abbrev count : Tests
  count = count_tests needs_sample (Memory.T l)

  abbrev tables : Tests
  tables = room_tests true 0 (table_rooms l.tables)

  abbrev rooms : Tests
  rooms = room_tests false 5 outputs

  abbrev entries : Tests
  entries = entry_tests l.tables

  abbrev samples : Tests
  samples = sample_tests (M l) l.samples

  pub passage_refuses : Refuses (tests_of l.tables (passage needs_sample outputs l))
  unfolding tests_of sample_tests
  passage_refuses =
      refuse_both shape (count ++ (tables ++ (rooms ++ (entries ++ samples)))) (shape_refuses l.tables.shape)
      (refuse_both count (tables ++ (rooms ++ (entries ++ samples))) (count_refuses needs_sample (Memory.T l))
      (refuse_both tables (rooms ++ (entries ++ samples)) (rooms_refuse true 0 (table_rooms l.tables))
      (refuse_both rooms (entries ++ samples) (rooms_refuse false 5 outputs)
      (refuse_both entries samples (entries_refuse l.tables) (samples_refuse (M l) l.samples)))))

  pub let_through : is_done (check needs_sample outputs l) ≡ true → LetThrough needs_sample outputs l
  unfolding tests_of sample_tests
  let_through h =
      let a : Clear (shape ++ (count ++ (tables ++ (rooms ++ (entries ++ samples)))))
      = clear (tests_of l.tables (passage needs_sample outputs l)) passage_refuses h in
      let b = clear_right shape (count ++ (tables ++ (rooms ++ (entries ++ samples)))) a in
      let c = clear_right count (tables ++ (rooms ++ (entries ++ samples))) b in
      let d = clear_right tables (rooms ++ (entries ++ samples)) c in
      let e = clear_right rooms (entries ++ samples) d in
      let counted = clear_left count (tables ++ (rooms ++ (entries ++ samples))) b in
      record {
        accepted = record {
          tables = accepted_tables l.tables (clear_left shape _ a) (clear_left tables _ c) (clear_left entries _ e);
          samples = accepted_samples needs_sample l.tables.shape l.samples counted (clear_right entries _ e);
        };
        roomy = is_roomy 5 outputs (clear_left rooms _ d);
        sampled = sampled needs_sample l.tables.shape l.samples counted;
      }

  pub is_let_through : LetThrough needs_sample outputs l → is_done (check needs_sample outputs l) ≡ true
  unfolding tests_of sample_tests
  is_let_through p =
      let a = p.accepted.tables in
      let b = p.accepted.samples in
      no_fault (shape ++ (count ++ (tables ++ (rooms ++ (entries ++ samples)))))
      (clear_both shape _ (shape_clear l.tables.shape a.in_range)
      (clear_both count _ (clear_count needs_sample l.tables.shape l.samples b p.sampled)
      (clear_both tables _ (clear_tables l.tables a)
      (clear_both rooms _ (clear_outputs 5 outputs p.roomy)
      (clear_both entries _ (clear_entries l.tables a) (clear_samples needs_sample l.tables.shape l.samples b))))))
