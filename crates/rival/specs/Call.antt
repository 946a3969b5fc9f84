-- What a call of `rival` answers and what it leaves in each lent output, for all inputs (RULES 6.4).
use Rattle.std.specs.Prelude.{ℕ, ◌*◌, ◌≡◌, false, cond, not, List, [], ◌∷◌, ◌++◌, ltb, length, Float}
use Rattle.floats.specs.Float.{minus_infinity, is_minus_infinity}
use Rattle.lists.specs.Lists.{table, after}
use Rattle.answer.specs.Answer.{is_done, refuse, answered}
use Rattle.answer.specs.Checks.{Tests, first_of}
use Rattle.answer.specs.declared.Answer.{Answer}
use Rattle.answer.specs.declared.Refusal.TheVariants.{NoRival, BadIndex}
use Rattle.model.specs.Lent.{Lent, S, T}
use Rattle.model.specs.Model.{Model, model_of}
use Rattle.checks.specs.declared.Room.{Room}
use Rattle.checks.specs.Rooms.{room}
use Rattle.checks.specs.Checks.{tests_of, passage}
use Rattle.best_path.specs.Walk.{value, from, best_path, best_value}
use Rattle.best_path.specs.Score.{state_at}
use Rattle.walk.specs.Barred.{barred}
use Rattle.rival.specs.declared.Rivalry.{Rivalry}

-- what is asked: what is lent to read, and the index of a sample
pub record Asked : Type 0 where
  pub lent : Lent
  pub index : ℕ

abbrev pub asked : Lent → ℕ → Asked
asked l index = record { lent = l; index = index }

-- outputs 5 to 8: path bytes T, rival path bytes T, values T·S, predecessor bytes T·S
pub record Outputs : Type 0 where
  pub path : List ℕ
  pub rival_path : List ℕ
  pub values : List Float
  pub from : List ℕ

abbrev pub outputs : List ℕ → List ℕ → List Float → List ℕ → Outputs
outputs path rival_path values from = record { path = path; rival_path = rival_path; values = values; from = from }

module _ (q : Asked) where
  -- the state that the best path has at the sample
  abbrev pub chosen : ℕ
  chosen = state_at (best_path (model_of q.lent) (T q.lent)) q.index

  -- the model in which it cannot be there, and the value of that model's best path
  abbrev pub without : Model
  without = barred q.index chosen (model_of q.lent)

  abbrev pub rival_value : Float
  rival_value = best_value without (T q.lent)

  -- 16: there is no such sample; 15: there is no rival
  abbrev pub rival_tests : Tests
  rival_tests =
      (not (ltb q.index (T q.lent)), refuse BadIndex 0 0) ∷ (is_minus_infinity rival_value, refuse NoRival 0 0) ∷ []

  module _ (o : Outputs) where
    abbrev pub rooms : List Room
    rooms =
        let l = q.lent in
        room (T l) (length o.path)
        ∷ room (T l) (length o.rival_path)
        ∷ room (T l * S l) (length o.values)
        ∷ room (T l * S l) (length o.from)
        ∷ []

    -- the checks 1 to 8, where no sample is needed, then 16, and 15 last
    abbrev pub checked : Answer
    checked = first_of (tests_of q.lent.tables (passage false rooms q.lent) ++ rival_tests)

    -- what is given back: refused, nothing but the refusal is told
    abbrev pub rivalry : Rivalry
    rivalry =
        record {
          answer = answered checked rival_value;
          chosen = cond (is_done checked) chosen 0;
          best = cond (is_done checked) (best_value (model_of q.lent) (T q.lent)) minus_infinity;
        }

    -- the promise: o is what was lent and e what it holds at the end
    pub record Told (r : Rivalry) (e : Outputs) : Type 0 where
      pub told : r ≡ rivalry
      pub path : e.path ≡ after (is_done checked) (best_path (model_of q.lent) (T q.lent)) o.path
      pub rival_path : e.rival_path ≡ after (is_done checked) (best_path without (T q.lent)) o.rival_path
      pub values : e.values ≡ after (is_done checked) (table (T q.lent) (S q.lent) (value without)) o.values
      pub from : e.from ≡ after (is_done checked) (table (T q.lent) (S q.lent) (from without)) o.from
