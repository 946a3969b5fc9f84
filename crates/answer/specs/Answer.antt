-- How an answer is made (RULES 3.1, 3.2): the number of each refusal, and the two ways to answer.
use Rattle.std.specs.Prelude.{ℕ, Bool, cond, eqb, Float}
use Rattle.floats.specs.Float.{minus_infinity}
use Rattle.answer.specs.declared.Answer.{Answer}
use Rattle.answer.specs.declared.Refusal.{Refusal}
use Rattle.answer.specs.declared.Refusal.TheVariants.{Done, BadStates, BadSymbols, TooManySamples, NoSamples, WrongLength}
use Rattle.answer.specs.declared.Refusal.TheVariants.{OutputTooShort, NotGood, UnknownSymbol, ZeroMass, NegativeDifference}
use Rattle.answer.specs.declared.Refusal.TheVariants.{Overshoot, BadLayout, BadSum, NoRival, BadIndex}

-- RULES 3.2: the number of each refusal
abbrev pub number_of : Refusal → ℕ
number_of Done = 0
number_of BadStates = 1
number_of BadSymbols = 2
number_of TooManySamples = 3
number_of NoSamples = 4
number_of WrongLength = 5
number_of OutputTooShort = 6
number_of NotGood = 7
number_of UnknownSymbol = 8
number_of ZeroMass = 9
number_of NegativeDifference = 10
number_of Overshoot = 11
number_of BadLayout = 13
number_of BadSum = 14
number_of NoRival = 15
number_of BadIndex = 16

-- RULES 3.1: a call that is done names no table and no place
abbrev pub done : Float → Answer
done v = record { refusal = Done; table = 0; place = 0; value = v }

-- RULES 3.1: the value of a refusal is minus infinity
abbrev pub refuse : Refusal → ℕ → ℕ → Answer
refuse r table place = record { refusal = r; table = table; place = place; value = minus_infinity }

abbrev pub is_done : Answer → Bool
is_done a = eqb (number_of a.refusal) 0

-- the answer of a call that has passed or failed its checks: their refusal, else v
abbrev pub answered : Answer → Float → Answer
answered checks v = cond (is_done checks) (done v) checks
