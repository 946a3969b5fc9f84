-- The promise of either call in one word, by the flag that says which way: true is backward. The forward walk alone needs a sample.
use Rattle.std.specs.Prelude.{ℕ, ◌*◌, Bool, not, List, [], ◌∷◌, Float, Result}
use Rattle.lists.specs.Lists.{table}
use Rattle.answer.specs.declared.Answer.{Answer}
use Rattle.model.specs.Lent.{Lent, S, T}
use Rattle.model.specs.Model.{model_of}
use Rattle.checks.specs.Rooms.{room}
use Rattle.checks.specs.Checks.{check_fault}
use Rattle.likelihood.specs.Call.{Walked}
use Rattle.likelihood.specs.inner.Walk.{row_of, value_of}

abbrev pub Answered : Bool → Lent → List Float → Answer → List Float → Type 0
Answered back l = Walked (not back) (value_of back (model_of l) (T l)) (table (T l) (S l) (row_of back (model_of l) (T l))) l

-- the checks of either call, where output 5 has n places
abbrev pub fault_for : Bool → Lent → ℕ → Result Unit Answer
fault_for needs_sample l n = check_fault needs_sample (room (T l * S l) n ∷ []) l
