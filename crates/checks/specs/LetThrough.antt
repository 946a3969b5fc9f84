-- A call that the checks let through.
use Rattle.std.specs.Prelude.{◌<◌, Bool, List, T}
use Rattle.model.specs.Lent as Lent
use Rattle.model.specs.Lent.{Tables, Lent}
use Rattle.model.specs.Accepted.{AcceptedTables, Accepted}
use Rattle.checks.specs.declared.Room.{Room}
use Rattle.checks.specs.Rooms.{Roomy}

-- what is lent is accepted, the outputs have room, and there is a sample where the call needs one
pub record LetThrough (needs_sample : Bool) (outputs : List Room) (l : Lent) : Type 0 where
  pub accepted : Accepted l
  pub roomy : Roomy outputs
  pub sampled : T needs_sample → 0 < Lent.T l

-- of a call without samples
pub record TablesLetThrough (outputs : List Room) (m : Tables) : Type 0 where
  pub accepted : AcceptedTables m
  pub roomy : Roomy outputs
