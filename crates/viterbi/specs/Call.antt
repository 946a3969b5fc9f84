-- What a call of `viterbi` answers and what it leaves in each lent output, for all inputs (RULES 6.1).
use Rattle.std.specs.Prelude.{ℕ, ◌*◌, ◌≡◌, false, List, [], ◌∷◌, length, Float}
use Rattle.lists.specs.Lists.{table, after}
use Rattle.answer.specs.Answer.{is_done, answered}
use Rattle.answer.specs.declared.Answer.{Answer}
use Rattle.model.specs.Lent.{Lent, S, T}
use Rattle.model.specs.Model.{model_of}
use Rattle.checks.specs.declared.Room.{Room}
use Rattle.checks.specs.Rooms.{room}
use Rattle.checks.specs.Checks.{check}
use Rattle.best_path.specs.Walk.{value, from, best_path, best_value}

-- outputs 5, 6 and 7: path bytes T, values T·S, predecessor bytes T·S
pub record Outputs : Type 0 where
  pub path : List ℕ
  pub values : List Float
  pub from : List ℕ

abbrev pub outputs : List ℕ → List Float → List ℕ → Outputs
outputs path values from = record { path = path; values = values; from = from }

module _ (l : Lent) (o : Outputs) where
  abbrev pub rooms : List Room
  rooms = room (T l) (length o.path) ∷ room (T l * S l) (length o.values) ∷ room (T l * S l) (length o.from) ∷ []

  -- the checks 1 to 8; no sample is needed
  abbrev pub checked : Answer
  checked = check false rooms l

  -- the promise: o is what was lent and e what it holds at the end
  pub record Decoded (r : Answer) (e : Outputs) : Type 0 where
    pub answer : r ≡ answered checked (best_value (model_of l) (T l))
    pub path : e.path ≡ after (is_done checked) (best_path (model_of l) (T l)) o.path
    pub values : e.values ≡ after (is_done checked) (table (T l) (S l) (value (model_of l))) o.values
    pub from : e.from ≡ after (is_done checked) (table (T l) (S l) (from (model_of l))) o.from
