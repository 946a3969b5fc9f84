-- A check is a list of tests in order, each with the answer that it gives where it finds fault: the first that finds fault answers.
use Rattle.std.specs.Prelude.{Bool, cond, List, [], ◌∷◌, Result, Ok, Err}
use Rattle.floats.specs.Float.{minus_infinity}
use Rattle.answer.specs.declared.Answer.{Answer}
use Rattle.answer.specs.Answer.{done}

abbrev pub Tests : Type 0
Tests = List (Bool × Answer)

unfoldable pub first_of : Tests → Answer
first_of [] = done minus_infinity
first_of (t ∷ ts) = cond t.0 t.1 (first_of ts)

-- the same as a check in the code says it: nothing, or the answer of the first test that finds fault
unfoldable pub first_fault : Tests → Result Unit Answer
first_fault [] = Ok tt
first_fault (t ∷ ts) = cond t.0 (Err t.1) (first_fault ts)
