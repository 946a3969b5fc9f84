-- That a refusal is given exactly when its line is the first at fault (RULES 3.2).
use Rattle.std.specs.Prelude.{ℕ, ◌≡◌, true, false, List}
use Rattle.floats.specs.Float.{minus_infinity}
use Rattle.answer.specs.Answer.{number_of, is_done}
use Rattle.answer.specs.declared.Answer.{Answer}
use Rattle.checks.specs.Faults.{Fault, First, Faultless}

-- the answer is this refusal, whose value is minus infinity
pub record Refused (r : Answer) (number table place : ℕ) : Type 0 where
  pub number_is : number_of r.refusal ≡ number
  pub table_is : r.table ≡ table
  pub place_is : r.place ≡ place
  pub value_is : r.value ≡ minus_infinity

-- the first fault is the refusal that is given, and none is given without a fault
pub record Exactly (faults : List Fault) (r : Answer) : Type 0 where
  pub given : (number table place : ℕ) → First faults number table place → Refused r number table place
  pub only_then : is_done r ≡ false → First faults (number_of r.refusal) r.table r.place
  pub done : Faultless faults → is_done r ≡ true
  pub done_only_then : is_done r ≡ true → Faultless faults
