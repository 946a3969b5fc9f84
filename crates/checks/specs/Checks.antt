-- The checks of a call on a model, as one list of tests in order (RULES 3.3). A call fills the slots that it needs and leaves the others empty.
use Rattle.std.specs.Prelude.{ℕ, suc, ◌*◌, Bool, true, false, not, ◌&&◌, ◌||◌, List, [], ◌∷◌, ◌++◌, eqb, ltb, length, Float, Result}
use Rattle.lists.specs.Lists.{first_bad, some_bad}
use Rattle.answer.specs.Answer.{refuse}
use Rattle.answer.specs.Checks.{Tests, first_of, first_fault}
use Rattle.answer.specs.declared.Answer.{Answer}
use Rattle.answer.specs.declared.Refusal.TheVariants.{BadStates, BadSymbols, TooManySamples, NoSamples, WrongLength, OutputTooShort, NotGood, UnknownSymbol}
use Rattle.model.specs.declared.Shape.{Shape}
use Rattle.model.specs.Lent.{Tables, Lent, M, T}
use Rattle.model.specs.Good.{good, good_end}
use Rattle.checks.specs.declared.Room.{Room}
use Rattle.checks.specs.Rooms.{room}

-- 1 and 2
unfoldable pub shape_tests : Shape → Tests
shape_tests shape =
    (eqb shape.states 0 || ltb 64 shape.states, refuse BadStates 0 shape.states)
    ∷ (eqb shape.symbols 0 || ltb 256 shape.symbols, refuse BadSymbols 0 shape.symbols)
    ∷ []

-- 3 and 4, of n samples; 4 is asked where the call needs a sample
unfoldable pub count_tests : Bool → ℕ → Tests
count_tests needs_sample n = (ltb 4096 n, refuse TooManySamples 4 n) ∷ (needs_sample && eqb n 0, refuse NoSamples 4 0) ∷ []

-- a buffer does not fit: 5, its length is not exactly the one that it needs; 6, it is too short
abbrev pub unfit_test : Bool → ℕ → Room → Bool × Answer
unfit_test true number o = (not (eqb o.lent o.needed), refuse WrongLength number o.lent)
unfit_test false number o = (ltb o.lent o.needed, refuse OutputTooShort number o.lent)

-- buffers in order, numbered from `first` on
unfoldable pub room_tests : Bool → ℕ → List Room → Tests
room_tests exact first [] = []
room_tests exact first (o ∷ os) = unfit_test exact first o ∷ room_tests exact (suc first) os

-- the lengths of tables 0 to 3
abbrev pub table_rooms : Tables → List Room
table_rooms m =
    room (m.shape.states * m.shape.states) (length m.transition)
    ∷ room (m.shape.states * m.shape.symbols) (length m.emission)
    ∷ room m.shape.states (length m.initial)
    ∷ room m.shape.states (length m.end)
    ∷ []

-- 7 of one table, at the first index that is not good
abbrev pub entry_test : ℕ → (Float → Bool) → List Float → Bool × Answer
entry_test table is_good xs = (some_bad is_good xs, refuse NotGood table (first_bad is_good xs))

unfoldable pub entry_tests : Tables → Tests
entry_tests m =
    entry_test 0 good m.transition
    ∷ entry_test 1 good m.emission
    ∷ entry_test 2 good m.initial
    ∷ entry_test 3 (good_end m.shape.ends) m.end
    ∷ []

-- a sample is a symbol
abbrev pub is_symbol : ℕ → ℕ → Bool
is_symbol symbols x = ltb x symbols

-- 8, at the first sample that is none
unfoldable pub sample_tests : ℕ → List ℕ → Tests
sample_tests symbols samples = (some_bad (is_symbol symbols) samples, refuse UnknownSymbol 4 (first_bad (is_symbol symbols) samples)) ∷ []

-- what a call asks besides its tables: tests ahead of all others, of the number of samples, of further inputs, of outputs, of the samples
-- themselves, and after all others
pub record Slots : Type 0 where
  pub before : Tests
  pub counts : Tests
  pub inputs : Tests
  pub outputs : Tests
  pub samples : Tests
  pub more : Tests

-- every test of a call on these tables, in order
unfoldable pub tests_of : Tables → Slots → Tests
tests_of m s =
    s.before
    ++ (shape_tests m.shape
    ++ (s.counts
    ++ (room_tests true 0 (table_rooms m)
    ++ (s.inputs
    ++ (s.outputs
    ++ (entry_tests m
    ++ (s.samples
    ++ s.more)))))))

-- a call with one passage of samples and outputs, which are numbered from 5
abbrev pub passage : Bool → List Room → Lent → Slots
passage needs_sample outputs l =
    record {
      before = [];
      counts = count_tests needs_sample (T l);
      inputs = [];
      outputs = room_tests false 5 outputs;
      samples = sample_tests (M l) l.samples;
      more = [];
    }

abbrev pub check : Bool → List Room → Lent → Answer
check needs_sample outputs l = first_of (tests_of l.tables (passage needs_sample outputs l))

-- the same as the code's check says it
abbrev pub check_fault : Bool → List Room → Lent → Result Unit Answer
check_fault needs_sample outputs l = first_fault (tests_of l.tables (passage needs_sample outputs l))

-- a call without samples, whose outputs are numbered from 5
abbrev pub unsampled : List Room → Slots
unsampled outputs = record { before = []; counts = []; inputs = []; outputs = room_tests false 5 outputs; samples = []; more = [] }

abbrev pub check_tables : List Room → Tables → Answer
check_tables outputs m = first_of (tests_of m (unsampled outputs))

abbrev pub tables_fault : List Room → Tables → Result Unit Answer
tables_fault outputs m = first_fault (tests_of m (unsampled outputs))
