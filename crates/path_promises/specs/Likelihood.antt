-- How likely the samples are beside their best path (RULES 8.6): the likelihood counts every path, and the best one is among them. It is
-- said of the definitions first, and then of the calls.
use Rattle.std.specs.Prelude.{ℕ, ◌+◌, ◌*◌, ◌≤◌, ◌<◌, ◌≡◌, true, List, T, length, Float}
use Rattle.std.specs.Float.Ieee.{le}
use Rattle.floats.specs.Float.{at}
use Rattle.answer.specs.Answer.{is_done}
use Rattle.answer.specs.declared.Answer.{Answer}
use Rattle.model.specs.Lent as Lent
use Rattle.model.specs.Lent.{Lent, S}
use Rattle.model.specs.Accepted.{Accepted}
use Rattle.model.specs.Model.{model_of}
use Rattle.best_path.specs.Walk.{value, best_value}
use Rattle.viterbi.specs.Call.{Outputs, Decoded}
use Rattle.likelihood.specs.Walk.{alpha, forward_value}
use Rattle.likelihood.specs.Call.{Forward}
use Rattle.path_promises.specs.BestPath.{Decoder}

-- each forward cell is at least the Viterbi cell of the same sample and state
abbrev pub ForwardIsAbove : Type 0
ForwardIsAbove = (l : Lent) → Accepted l → (t j : ℕ) → t < Lent.T l → j < S l → T (le (value (model_of l) t j) (alpha (model_of l) t j))

-- and so is the answer, with an end state or without one
abbrev pub LikelihoodIsAbove : Type 0
LikelihoodIsAbove = (l : Lent) → Accepted l → 0 < Lent.T l → T (le (best_value (model_of l) (Lent.T l)) (forward_value (model_of l) (Lent.T l)))

-- a call of `forward` that is done: by its promise `Forward` it answers the likelihood and leaves these values in output 5, whatever
-- output it is lent
pub record Likely (l : Lent) (likelihood : Float) (values : List Float) : Type 0 where
  pub lent : List Float
  pub answer : Answer
  pub promised : Forward l lent answer values
  pub done : is_done answer ≡ true
  pub likelihood_is : likelihood ≡ answer.value

-- it is done for all that is accepted, where there is a sample and its output has room
abbrev pub ForwardIsDone : Type 0
ForwardIsDone =
    (l : Lent) (lent left : List Float) (answer : Answer) → Accepted l → 0 < Lent.T l → Lent.T l * S l ≤ length lent
    → Forward l lent answer left → is_done answer ≡ true

-- of a way to decode: the likelihood of the same samples is never under the value that it gives
abbrev pub NeverUnder : Decoder → Type 0
NeverUnder gives =
    (l : Lent) (value likelihood : Float) (path : List ℕ) (values : List Float) → gives l value path → Likely l likelihood values
    → T (le value likelihood)

-- and no cell of it is under the one that a call of `viterbi`, done on the same, leaves for that sample and state
abbrev pub CellsNeverUnder : Type 0
CellsNeverUnder =
    (l : Lent) (o e : Outputs) (r : Answer) (likelihood : Float) (values : List Float) → Decoded l o r e → is_done r ≡ true
    → Likely l likelihood values → (t j : ℕ) → t < Lent.T l → j < S l → let i = t * S l + j in T (le (at e.values i) (at values i))
