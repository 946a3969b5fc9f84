-- The checks of the reader, as one list of tests in order (RULES 2.7). The writer's are those of every call on a model (RULES 3.3).
use Rattle.std.specs.Prelude.{ℕ, suc, ◌*◌, Bool, true, false, cond, not, ◌||◌, List, [], ◌∷◌, ◌++◌, map, eqb, ltb, length, replicate}
use Rattle.lists.specs.Lists.{tab, flat, first_bad, some_bad}
use Rattle.little_endian.specs.Bytes.{sum}
use Rattle.answer.specs.Answer.{refuse}
use Rattle.answer.specs.Checks.{Tests}
use Rattle.answer.specs.declared.Answer.{Answer}
use Rattle.answer.specs.declared.Refusal.TheVariants.{NotGood, BadLayout, BadSum}
use Rattle.model.specs.declared.Shape.{Shape}
use Rattle.model.specs.Good.{good_bits}
use Rattle.checks.specs.declared.Room.{Room}
use Rattle.checks.specs.Rooms.{room}
use Rattle.checks.specs.Checks.{shape_tests, room_tests}
use Rattle.file_layout.specs.Layout.{count, size, file_length, first, label}
use Rattle.file_layout.specs.Reading.{shape_of, body_of, sum_of}

-- what is demanded at a place: any byte, or this one
pub data Demand : Type 0 where
  any : Demand
  byte : ℕ → Demand

abbrev pub meets : Demand → ℕ → Bool
meets any b = true
meets (byte x) b = eqb x b

abbrev pub known : List ℕ → List Demand
known = map byte

abbrev pub holes : ℕ → List Demand
holes n = replicate n any

-- what a shape demands of its file: every byte is known but those of the sums and the bodies
unfoldable pub pattern : Shape → List Demand
pattern shape =
    known (first shape)
    ++ (flat (count shape) (λ (i : ℕ). known (label shape i) ++ holes 8)
    ++ flat (count shape) (λ (i : ℕ). holes (8 * size shape i)))

-- the first place that does not meet its demand; where there is none, the shorter length
unfoldable pub first_wrong : List Demand → List ℕ → ℕ
first_wrong [] file = 0
first_wrong (d ∷ ds) [] = 0
first_wrong (d ∷ ds) (b ∷ file) = cond (meets d b) (suc (first_wrong ds file)) 0

-- some byte is wrong, missing or left over
abbrev pub some_wrong : List Demand → List ℕ → Bool
some_wrong ds file = ltb (first_wrong ds file) (length ds) || ltb (first_wrong ds file) (length file)

-- a file too short for its first four numbers is 13; then 1 and 2, and 13 for any other layout than the shape's
unfoldable pub layout_tests : List ℕ → Tests
layout_tests file =
    let demanded = pattern (shape_of file) in
    (ltb (length file) 8, refuse BadLayout 0 (length file))
    ∷ (shape_tests (shape_of file)
    ++ ((some_wrong demanded file, refuse BadLayout 0 (first_wrong demanded file)) ∷ []))

-- 14: the sum of table i is not that of its body
abbrev pub sum_test : List ℕ → ℕ → Bool × Answer
sum_test file i = (not (eqb (sum (body_of file i)) (sum_of file i)), refuse BadSum i 0)

unfoldable pub sum_tests : List ℕ → Tests
sum_tests file = tab (count (shape_of file)) (sum_test file)

-- 1, 2, 13 and 14: that these bytes are a model file
abbrev pub file_tests : List ℕ → Tests
file_tests file = layout_tests file ++ sum_tests file

-- 7: a word of body i is not good
abbrev pub word_test : List ℕ → ℕ → Bool × Answer
word_test file i = (some_bad good_bits (body_of file i), refuse NotGood i (first_bad good_bits (body_of file i)))

unfoldable pub word_tests : List ℕ → Tests
word_tests file = tab (count (shape_of file)) (word_test file)

-- the room that a reader needs in the four tables that it is lent, by their lengths
abbrev pub read_rooms : Shape → ℕ → ℕ → ℕ → ℕ → List Room
read_rooms shape transition emission initial end =
    room (size shape 0) transition ∷ room (size shape 1) emission ∷ room (size shape 2) initial ∷ room (size shape 3) end ∷ []

-- every test of a reader: the file is input 5, so that the tables are outputs 6 to 9
unfoldable pub read_tests : List ℕ → ℕ → ℕ → ℕ → ℕ → Tests
read_tests file transition emission initial end =
    file_tests file ++ (room_tests false 6 (read_rooms (shape_of file) transition emission initial end) ++ word_tests file)

-- the room that a writer needs for the file, output 5
abbrev pub write_rooms : Shape → ℕ → List Room
write_rooms shape file = room (file_length shape) file ∷ []
