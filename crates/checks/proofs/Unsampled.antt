-- The checks of a call without samples: what the code makes of them, and what they let through.
use mathlib.Core.Path.{◌≡◌, refl, sym, ap, subst, ◌∙◌}
use mathlib.Core.Bool.{true, false}
use mathlib.Core.List.{List, ◌++◌, append_assoc, append-nil}
use lib.ListN.{length}
use Rattle.answer.specs.Answer.{is_done}
use Rattle.std.specs.Prelude.{Result, Ok, Err}
use Rattle.answer.specs.Checks.{Tests, first_of, first_fault}
use Rattle.answer.specs.declared.Answer.{Answer}
use Rattle.answer.proofs.Checks.{Refuses, refuse_both, Clear, clear, no_fault, clear_both, clear_left, clear_right}
use Rattle.answer.proofs.Checks.{passed, found, fault_stops, fault_goes_on, fault_left_out, refuses_too, passes_too}
use Rattle.model.specs.Lent.{Tables}
use Rattle.model.specs.Accepted.{InRange}
use Rattle.checks.specs.declared.Room.{Room}
use Rattle.checks.specs.Checks.{shape_tests, count_tests, room_tests, table_rooms, entry_tests, tests_of, unsampled, check_tables, tables_fault}
use Rattle.checks.specs.LetThrough.{TablesLetThrough}
use Rattle.checks.specs.inner.Parts.{sizes_of}
use Rattle.checks.proofs.Shapes.{shape_clear, shape_in_range}
use Rattle.checks.proofs.Rooms.{rooms_refuse}
use Rattle.checks.proofs.Slots.{shape_refuses, entries_refuse}
use Rattle.checks.proofs.Done.{accepted_tables, clear_tables, clear_entries, is_roomy, clear_outputs}

module _ (outputs : List Room) (m : Tables) where
  abbrev shape : Tests
  shape = shape_tests m.shape

  abbrev tables : Tests
  tables = room_tests true 0 (table_rooms m)

  abbrev rooms : Tests
  rooms = room_tests false 5 outputs

  abbrev entries : Tests
  entries = entry_tests m

  all : tests_of m (unsampled outputs) ≡ shape ++ (tables ++ (rooms ++ entries))
  unfolding tests_of
  all = ap (λ (r : Tests). shape ++ (tables ++ (rooms ++ r))) (append-nil entries)

  refuses : Refuses (shape ++ (tables ++ (rooms ++ entries)))
  refuses =
      refuse_both shape (tables ++ (rooms ++ entries)) (shape_refuses m.shape)
      (refuse_both tables (rooms ++ entries) (rooms_refuse true 0 (table_rooms m))
      (refuse_both rooms entries (rooms_refuse false 5 outputs) (entries_refuse m)))

  pub tables_let_through : is_done (check_tables outputs m) ≡ true → TablesLetThrough outputs m
  tables_let_through h =
      let a = clear (shape ++ (tables ++ (rooms ++ entries))) refuses (sym (ap (λ (ts : Tests). is_done (first_of ts)) all) ∙ h) in
      let b = clear_right shape (tables ++ (rooms ++ entries)) a in
      let c = clear_right tables (rooms ++ entries) b in
      record {
        accepted = accepted_tables m (clear_left shape _ a) (clear_left tables _ b) (clear_right rooms entries c);
        roomy = is_roomy 5 outputs (clear_left rooms entries c);
      }

  pub are_let_through : TablesLetThrough outputs m → is_done (check_tables outputs m) ≡ true
  are_let_through p =
      let a = p.accepted in
      ap (λ (ts : Tests). is_done (first_of ts)) all
      ∙ no_fault (shape ++ (tables ++ (rooms ++ entries)))
      (clear_both shape _ (shape_clear m.shape a.in_range)
      (clear_both tables _ (clear_tables m a) (clear_both rooms _ (clear_outputs 5 outputs p.roomy) (clear_entries m a))))

  -- ---- the code's check: the sizes, with no sample, then the outputs, then the entries
  abbrev sizes : Tests
  sizes = sizes_of false m.shape (length m.transition) (length m.emission) (length m.initial) (length m.end) 0

  no_count : Clear (count_tests false 0)
  unfolding count_tests Clear
  no_count = (refl, (refl, tt))

  sized : first_fault sizes ≡ first_fault (shape ++ tables)
  unfolding sizes_of
  sized = fault_left_out shape (count_tests false 0) tables no_count

  rejoined : first_fault ((shape ++ tables) ++ (rooms ++ entries)) ≡ tables_fault outputs m
  rejoined = ap first_fault (append_assoc shape tables (rooms ++ entries) ∙ sym all)

  pub sizes_stop : {x : Answer} → Err x ≡ first_fault sizes → Err x ≡ tables_fault outputs m
  sizes_stop {x} e = fault_stops (shape ++ tables) (rooms ++ entries) x (sym (e ∙ sized)) ∙ rejoined

  pub sizes_in_range : {u : Unit} → Ok u ≡ first_fault sizes → InRange m.shape
  sizes_in_range {u} e = shape_in_range m.shape (clear_left shape tables (passed (shape ++ tables) u (sym (e ∙ sized))))

  pub outputs_stop : {u : Unit} {x : Answer} → Ok u ≡ first_fault sizes → Err x ≡ first_fault rooms → Err x ≡ tables_fault outputs m
  outputs_stop {u} {x} e f =
      fault_goes_on (shape ++ tables) (rooms ++ entries) u (Err x) (sym (e ∙ sized)) (fault_stops rooms entries x (sym f)) ∙ rejoined

  pub entries_go_on : {u v : Unit} {r : Result Unit Answer} → Ok u ≡ first_fault sizes → Ok v ≡ first_fault rooms → r ≡ first_fault entries
      → r ≡ tables_fault outputs m
  entries_go_on {u} {v} {r} e f g =
      fault_goes_on (shape ++ tables) (rooms ++ entries) u r (sym (e ∙ sized)) (fault_goes_on rooms entries v r (sym f) g) ∙ rejoined

  -- what the whole check says is the answer of the list: a refusal, or done
  pub refusal_is : {x : Answer} → Err x ≡ tables_fault outputs m → x ≡ check_tables outputs m
  refusal_is {x} e = found (tests_of m (unsampled outputs)) x (sym e)

  pub is_refused : {x : Answer} → Err x ≡ tables_fault outputs m → is_done (check_tables outputs m) ≡ false
  is_refused {x} e = refuses_too (tests_of m (unsampled outputs)) (subst Refuses (sym all) refuses) x (sym e)

  pub is_passed : {u : Unit} → Ok u ≡ tables_fault outputs m → is_done (check_tables outputs m) ≡ true
  is_passed {u} e = passes_too (tests_of m (unsampled outputs)) u (sym e)
