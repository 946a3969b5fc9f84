-- What a call of `forward` or `backward` answers and what it leaves in its lent output, for all inputs.
use Rattle.std.specs.Prelude.{ℕ, ◌*◌, ◌≡◌, Bool, true, false, List, [], ◌∷◌, length, Float}
use Rattle.lists.specs.Lists.{table, after}
use Rattle.answer.specs.Answer.{is_done, answered}
use Rattle.answer.specs.declared.Answer.{Answer}
use Rattle.model.specs.Lent.{Lent, S, T}
use Rattle.model.specs.Model.{model_of}
use Rattle.checks.specs.Rooms.{room}
use Rattle.checks.specs.Checks.{check}
use Rattle.likelihood.specs.Walk.{alpha, forward_value, beta, backward_value}

-- the checks, where output 5 has n places and needs T·S (RULES 2.4); `needs_sample` says whether no samples are refused
abbrev pub checked : Bool → Lent → ℕ → Answer
checked needs_sample l n = check needs_sample (room (T l * S l) n ∷ []) l

-- the answer of `forward`, which needs a sample (RULES 6.2), and of `backward` (RULES 6.3)
abbrev pub forward_answer : Lent → ℕ → Answer
forward_answer l n = answered (checked true l n) (forward_value (model_of l) (T l))

abbrev pub backward_answer : Lent → ℕ → Answer
backward_answer l n = answered (checked false l n) (backward_value (model_of l) (T l))

-- A walk's promise, where v is its value and rows are what it writes: o is what was lent as output and e what it holds at the end.
pub record Walked (needs_sample : Bool) (v : Float) (rows : List Float) (l : Lent) (o : List Float) (r : Answer) (e : List Float)
    : Type 0 where
  pub answer : r ≡ answered (checked needs_sample l (length o)) v
  pub values : e ≡ after (is_done (checked needs_sample l (length o))) rows o

abbrev pub Forward : Lent → List Float → Answer → List Float → Type 0
Forward l = Walked true (forward_value (model_of l) (T l)) (table (T l) (S l) (alpha (model_of l))) l

abbrev pub Backward : Lent → List Float → Answer → List Float → Type 0
Backward l = Walked false (backward_value (model_of l) (T l)) (table (T l) (S l) (beta (model_of l) (T l))) l
