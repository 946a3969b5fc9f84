-- What a part of a call asks and promises: its checks, by lengths alone.
use Rattle.std.specs.Prelude.{ℕ, ◌*◌, false, [], ◌∷◌, Result}
use Rattle.answer.specs.declared.Answer.{Answer}
use Rattle.model.specs.Lent.{Lent, S, T}
use Rattle.checks.specs.Rooms.{room}
use Rattle.checks.specs.Checks.{check_fault}

-- the checks of a call whose outputs have these lengths
abbrev pub fault_for : Lent → ℕ → ℕ → ℕ → Result Unit Answer
fault_for l path values from = check_fault false (room (T l) path ∷ room (T l * S l) values ∷ room (T l * S l) from ∷ []) l
