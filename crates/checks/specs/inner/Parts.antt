-- The list of checks of a call on one passage in two parts, between which the code works the outputs' needed lengths out.
use Rattle.std.specs.Prelude.{ℕ, ◌*◌, ◌≤◌, ◌≡◌, Bool, true, false, List, [], ◌∷◌, ◌++◌, length, drop, ◌+◌, Float, Option, Some, None, Result, Ok, Err}
use Rattle.lists.specs.Lists.{first_bad}
use Rattle.answer.specs.Answer.{refuse}
use Rattle.answer.specs.Checks.{Tests}
use Rattle.answer.specs.declared.Answer.{Answer}
use Rattle.answer.specs.declared.Refusal.{Refusal}
use Rattle.model.specs.Good.{good}
use Rattle.model.specs.declared.Shape.{Shape}
use Rattle.model.specs.Lent as Lent
use Rattle.model.specs.Lent.{Lent, M}
use Rattle.checks.specs.declared.Room.{Room}
use Rattle.checks.specs.Rooms.{room}
use Rattle.checks.specs.Checks.{shape_tests, count_tests, room_tests, entry_tests, sample_tests}

-- so many whole blocks of 128 entries are within the list, and its first bad entry is that of the entries after them
pub record GoodBlocks (xs : List Float) (n : ℕ) : Type 0 where
  pub within : n * 128 ≤ length xs
  pub rest : first_bad good xs ≡ n * 128 + first_bad good (drop (n * 128) xs)

-- the refusal of a table's first bad place, where there is one
abbrev pub refused_at : Refusal → ℕ → Option ℕ → Result Unit Answer
refused_at r table None = Ok tt
refused_at r table (Some place) = Err (refuse r table place)

-- 1 to 5, by the shape and lengths alone: those of tables 0 to 3, and n of the samples
unfoldable pub sizes_of : Bool → Shape → ℕ → ℕ → ℕ → ℕ → ℕ → Tests
sizes_of needs_sample shape transition emission initial end n =
    let S = shape.states in
    shape_tests shape
    ++ (count_tests needs_sample n
    ++ room_tests true 0 (room (S * S) transition ∷ room (S * shape.symbols) emission ∷ room S initial ∷ room S end ∷ []))

abbrev pub size_tests : Bool → Lent → Tests
size_tests needs_sample l =
    let m = l.tables in
    sizes_of needs_sample m.shape (length m.transition) (length m.emission) (length m.initial) (length m.end) (Lent.T l)

-- 6 to 8
unfoldable pub rest_tests : List Room → Lent → Tests
rest_tests outputs l = room_tests false 5 outputs ++ (entry_tests l.tables ++ sample_tests (M l) l.samples)
