-- What a call on a model is lent (RULES 2): the model's tables and the samples, each a record, so that a contract names them in one word.
use Rattle.std.specs.Prelude.{ℕ, List, length, Float}
use Rattle.model.specs.declared.Shape.{Shape}
use Rattle.model.specs.declared.Tables as Code
use Rattle.model.specs.declared.Lent as CodeLent

-- a model as it is lent: S states and M symbols, with or without an end state, and the four tables by rows, numbered 0 to 3
pub record Tables : Type 0 where
  pub shape : Shape
  pub transition : List Float
  pub emission : List Float
  pub initial : List Float
  pub end : List Float

-- and number 4, the samples
pub record Lent : Type 0 where
  pub tables : Tables
  pub samples : List ℕ

abbrev pub tables_of : Shape → List Float → List Float → List Float → List Float → Tables
tables_of shape transition emission initial end =
    record { shape = shape; transition = transition; emission = emission; initial = initial; end = end }

abbrev pub lent : Shape → List Float → List Float → List Float → List Float → List ℕ → Lent
lent shape transition emission initial end samples =
    record { tables = tables_of shape transition emission initial end; samples = samples }

-- what lies behind the references that a call is given
abbrev pub tables_behind : Code.Tables → Tables
tables_behind m = tables_of m.shape m.transition.now m.emission.now m.initial.now m.end.now

abbrev pub behind : CodeLent.Lent → Lent
behind l = record { tables = tables_behind l.tables; samples = l.samples.now }

module _ (l : Lent) where
  -- S, M and T
  abbrev pub S : ℕ
  S = l.tables.shape.states

  abbrev pub M : ℕ
  M = l.tables.shape.symbols

  abbrev pub T : ℕ
  T = length l.samples
