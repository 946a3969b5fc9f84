-- What the calls give, as ways to decode: a result of a call by its contract, and the definitions that the contracts cite.
use Rattle.std.specs.Prelude.{ℕ, ◌<◌, ◌≡◌, true, List, take, Float}
use Rattle.answer.specs.Answer.{is_done}
use Rattle.answer.specs.declared.Answer.{Answer}
use Rattle.model.specs.Lent.{Lent, T}
use Rattle.model.specs.Accepted.{Accepted}
use Rattle.model.specs.Model.{model_of}
use Rattle.checks.specs.Rooms.{Roomy}
use Rattle.best_path.specs.Walk.{best_path, best_value}
use Rattle.viterbi.specs.Call.{Outputs, rooms, Decoded}

-- a call of `viterbi` that is done, on at least one sample: by its promise `Decoded`, it answers the value and leaves the path
-- in the first T bytes of output 5, whatever outputs it is lent
pub record Viterbi (l : Lent) (value : Float) (path : List ℕ) : Type 0 where
  pub lent : Outputs
  pub answer : Answer
  pub left : Outputs
  pub promised : Decoded l lent answer left
  pub done : is_done answer ≡ true
  pub some_sample : 0 < T l
  pub value_is : value ≡ answer.value
  pub path_is : path ≡ take (T l) left.path

-- it is done for all that is accepted, where its outputs have room
abbrev pub ViterbiIsDone : Type 0
ViterbiIsDone =
    (l : Lent) (lent left : Outputs) (answer : Answer) → Accepted l → Roomy (rooms l lent)
    → Decoded l lent answer left → is_done answer ≡ true

-- the best path and its value by their definitions, for what the checks let through
pub record Defined (l : Lent) (value : Float) (path : List ℕ) : Type 0 where
  pub accepted : Accepted l
  pub some_sample : 0 < T l
  pub value_is : value ≡ best_value (model_of l) (T l)
  pub path_is : path ≡ best_path (model_of l) (T l)
