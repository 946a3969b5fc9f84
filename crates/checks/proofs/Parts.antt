-- The checks of a call on one passage in their two parts: what the code makes of them, with the outputs' needed lengths between.
use Prim.Native.Nat.{◌*◌, ◌≤◌}
use mathlib.Core.Path.{◌≡◌, sym, ap, ◌∙◌}
use mathlib.Core.Bool.{Bool, true, false}
use mathlib.Core.List.{List, ◌++◌, append_assoc}
use native.Mathlib.Nat.{mul-le-mul}
use borrow.Author.Tests.{ltb-false}
use Rattle.std.specs.Prelude.{Result, Ok, Err}
use Rattle.answer.specs.Answer.{is_done}
use Rattle.answer.specs.Checks.{first_fault}
use Rattle.answer.specs.declared.Answer.{Answer}
use Rattle.answer.proofs.Checks.{Clear, passed, found, fault_stops, fault_goes_on, refuses_too, passes_too}
use Rattle.model.specs.Lent.{Lent, S, T}
use Rattle.checks.specs.declared.Room.{Room}
use Rattle.checks.specs.Checks.{shape_tests, count_tests, room_tests, table_rooms, sample_tests, tests_of, passage, check, check_fault}
use Rattle.checks.specs.inner.Parts.{sizes_of, size_tests, rest_tests}
use Rattle.checks.proofs.Tests.{in_range_lem}
use Rattle.checks.proofs.Done.{passage_refuses}

joined : {A : Type 0} (a b c d : List A) → (a ++ (b ++ c)) ++ d ≡ a ++ (b ++ (c ++ d))
joined a b c d = append_assoc a (b ++ c) d ∙ ap (λ r. a ++ r) (append_assoc b c d)

module _ (needs_sample : Bool) (l : Lent) where
  -- the most places that a table of T rows has: their number is within a usize
  pub few_places : {u : Unit} → Ok u ≡ first_fault (size_tests needs_sample l) → T l * S l ≤ 4096 * 64
  unfolding sizes_of shape_tests count_tests Clear
  few_places {u} e =
      let f = passed (size_tests needs_sample l) u (sym e) in
      mul-le-mul (ltb-false _ _ f.1.1.0) (in_range_lem (S l) 64 f.0).1

  module _ (outputs : List Room) where
    -- both parts, one after the other, are the checks
    parts : size_tests needs_sample l ++ rest_tests outputs l ≡ tests_of l.tables (passage needs_sample outputs l)
    unfolding sizes_of rest_tests tests_of sample_tests
    parts = joined (shape_tests l.tables.shape) (count_tests needs_sample (T l)) (room_tests true 0 (table_rooms l.tables)) (rest_tests outputs l)

    pub sizes_stop : {x : Answer} → Err x ≡ first_fault (size_tests needs_sample l) → Err x ≡ check_fault needs_sample outputs l
    sizes_stop {x} e = fault_stops (size_tests needs_sample l) (rest_tests outputs l) x (sym e) ∙ ap first_fault parts

    pub rest_goes_on : {u : Unit} {r : Result Unit Answer} → Ok u ≡ first_fault (size_tests needs_sample l) → r ≡ first_fault (rest_tests outputs l)
        → r ≡ check_fault needs_sample outputs l
    rest_goes_on {u} {r} e f = fault_goes_on (size_tests needs_sample l) (rest_tests outputs l) u r (sym e) f ∙ ap first_fault parts

    -- what the whole check says is the answer of the list: a refusal, or done
    pub refusal_is : {x : Answer} → Err x ≡ check_fault needs_sample outputs l → x ≡ check needs_sample outputs l
    refusal_is {x} e = found (tests_of l.tables (passage needs_sample outputs l)) x (sym e)

    pub is_refused : {x : Answer} → Err x ≡ check_fault needs_sample outputs l → is_done (check needs_sample outputs l) ≡ false
    is_refused {x} e = refuses_too (tests_of l.tables (passage needs_sample outputs l)) (passage_refuses needs_sample outputs l) x (sym e)

    pub is_passed : {u : Unit} → Ok u ≡ check_fault needs_sample outputs l → is_done (check needs_sample outputs l) ≡ true
    is_passed {u} e = passes_too (tests_of l.tables (passage needs_sample outputs l)) u (sym e)
