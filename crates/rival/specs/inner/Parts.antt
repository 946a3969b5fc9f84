-- What the parts of a call ask and promise: its checks by lengths alone, what it tells, and both walks.
use Rattle.std.specs.Prelude.{ℕ, ◌*◌, ◌<◌, ◌≡◌, false, cond, [], ◌∷◌, Result}
use Rattle.floats.specs.Float.{minus_infinity}
use Rattle.lists.specs.Lists.{table, over}
use Rattle.answer.specs.Answer.{is_done, answered}
use Rattle.answer.specs.Checks.{first_of}
use Rattle.answer.specs.declared.Answer.{Answer}
use Rattle.model.specs.Lent.{Lent, S, T}
use Rattle.model.specs.Model.{model_of}
use Rattle.model.specs.Accepted.{Accepted}
use Rattle.checks.specs.Rooms.{Roomy, room}
use Rattle.checks.specs.Checks.{check_fault}
use Rattle.best_path.specs.Walk.{value, from, best_path, best_value}
use Rattle.walk.specs.Barred.{barred}
use Rattle.rival.specs.Call.{Asked, asked, Outputs, chosen, rival_value, rival_tests, rooms}
use Rattle.rival.specs.declared.Rivalry.{Rivalry}

-- the checks 1 to 8 of a call whose outputs have these lengths
abbrev pub fault_for : Lent → ℕ → ℕ → ℕ → ℕ → Result Unit Answer
fault_for l path rival_path values from =
    check_fault false (room (T l) path ∷ room (T l) rival_path ∷ room (T l * S l) values ∷ room (T l * S l) from ∷ []) l

-- what is told with a refusal
abbrev pub nothing_told : Answer → Rivalry
nothing_told a = record { answer = a; chosen = 0; best = minus_infinity }

-- what is told once the checks 1 to 8 are passed
abbrev pub told : Asked → Rivalry
told q =
    let passed = is_done (first_of (rival_tests q)) in
    record {
      answer = answered (first_of (rival_tests q)) (rival_value q);
      chosen = cond passed (chosen q) 0;
      best = cond passed (best_value (model_of q.lent) (T q.lent)) minus_infinity;
    }

-- what both walks ask
pub record Walkable (l : Lent) (o : Outputs) : Type 0 where
  pub accepted : Accepted l
  pub some_sample : 0 < T l
  pub roomy : Roomy (rooms (asked l 0) o)

-- what they leave: the best path, and path and rows of the model in which state d cannot be at time u
pub record Found (l : Lent) (u d : ℕ) (o e : Outputs) : Type 0 where
  pub path_stored : e.path ≡ over 0 (best_path (model_of l) (T l)) o.path
  pub rival_stored : e.rival_path ≡ over 0 (best_path (barred u d (model_of l)) (T l)) o.rival_path
  pub values_stored : e.values ≡ over 0 (table (T l) (S l) (value (barred u d (model_of l)))) o.values
  pub from_stored : e.from ≡ over 0 (table (T l) (S l) (from (barred u d (model_of l)))) o.from
