-- What differs from a frozen case: its words are the bits of numbers, bytes, or the parts of an answer.
use Rattle.std.specs.Prelude.{ℕ, zero, suc, Bool, false, cond, not, ◌&&◌, ◌||◌, List, eqb, ltb, Float, length, get_or}
use Rattle.std.specs.Float.{binary64}
use Rattle.std.specs.Float.Ieee.{to_bits}
use Rattle.floats.specs.Float.{is_number}
use Rattle.answer.specs.declared.Answer.{Answer}
use Rattle.answer.specs.Answer.{number_of}
use Rattle.model.specs.declared.Shape.{Shape}
use Rattle.program_io.specs.Words.{word_at}

-- the two numbers are not one
abbrev pub is_other : ℕ → ℕ → Bool
is_other a b = not (eqb a b)

-- x has not these bits; a NaN has none
abbrev pub is_other_number : Float → ℕ → Bool
is_other_number x bits = not (is_number x && eqb (to_bits binary64 x) bits)

-- some place below n is another
unfoldable pub some_other : (ℕ → Bool) → ℕ → Bool
some_other other zero = false
some_other other (suc n) = other n || some_other other n

-- place i of an output is another than the list's, by what tells a value from a word; past the output's end stands `blank`
abbrev pub other_place : {A : Type 0} → (A → ℕ → Bool) → A → List A → List ℕ → ℕ → Bool
other_place differs blank output list i = differs (get_or output i blank) (word_at list i)

-- a list of n words is too long for an output, or some place is another
abbrev pub differ : (ℕ → Bool) → ℕ → Bool
differ other n = ltb 1024 n || some_other other n

-- the front of an output is not the list, where `other` tells places apart
abbrev pub changed : (List ℕ → ℕ → Bool) → List ℕ → Bool
changed other list = differ (other list) (length list)

-- the answer is not the case's, which stands in its words 1 to 4
abbrev pub answer_differs : List ℕ → Answer → Bool
answer_differs case a =
    is_other (number_of a.refusal) (word_at case 1)
    || is_other a.table (word_at case 2)
    || is_other a.place (word_at case 3)
    || is_other_number a.value (word_at case 4)

-- the shape is not the list's: states, symbols, and 1 for an end state, 0 for none
abbrev pub shape_differs : List ℕ → Shape → Bool
shape_differs list shape =
    is_other shape.states (word_at list 0)
    || is_other shape.symbols (word_at list 1)
    || is_other (cond shape.ends 1 0) (word_at list 2)
    || is_other (length list) 3

-- the state and the value are not the list's
abbrev pub choice_differs : List ℕ → ℕ → Float → Bool
choice_differs list state value =
    is_other state (word_at list 0) || is_other_number value (word_at list 1) || is_other (length list) 2
