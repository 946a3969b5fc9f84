-- What the checks let through, of a model's tables and of samples under them (RULES 2.1 to 2.5).
use Rattle.std.specs.Prelude.{◌≡◌, ℕ, ◌*◌, ◌<◌, ◌≤◌, Bool, T, List, length, Float}
use Rattle.std.specs.Float.{binary64}
use Rattle.std.specs.Float.Ieee.{fits}
use Rattle.floats.specs.Float.{at}
use Rattle.model.specs.declared.Shape.{Shape}
use Rattle.model.specs.Lent.{Tables, Lent}
use Rattle.model.specs.Good.{good, good_end}
use Rattle.model.specs.Model.{sample_at}

-- every entry passes the test
abbrev pub Every : (Float → Bool) → List Float → Type 0
Every is_good xs = (i : ℕ) → i < length xs → T (is_good (at xs i))

-- every entry is an f64, as each entry of a lent table is
pub record HeldTables (m : Tables) : Type 0 where
  pub transition : Every (fits binary64) m.transition
  pub emission : Every (fits binary64) m.emission
  pub initial : Every (fits binary64) m.initial
  pub end : Every (fits binary64) m.end

-- S is 1 to 64, and M is 1 to 256
pub record InRange (shape : Shape) : Type 0 where
  pub some_state : 0 < shape.states
  pub few_states : shape.states ≤ 64
  pub some_symbol : 0 < shape.symbols
  pub few_symbols : shape.symbols ≤ 256

-- the shape is in range, each table has exactly its length, and every entry is good
pub record AcceptedTables (m : Tables) : Type 0 where
  pub in_range : InRange m.shape
  pub transition_length : length m.transition ≡ m.shape.states * m.shape.states
  pub emission_length : length m.emission ≡ m.shape.states * m.shape.symbols
  pub initial_length : length m.initial ≡ m.shape.states
  pub end_length : length m.end ≡ m.shape.states
  pub transition_good : Every good m.transition
  pub emission_good : Every good m.emission
  pub initial_good : Every good m.initial
  pub end_good : Every (good_end m.shape.ends) m.end

-- T is 0 to 4,096, and every sample is a symbol
pub record AcceptedSamples (shape : Shape) (samples : List ℕ) : Type 0 where
  pub few_samples : length samples ≤ 4096
  pub known : (t : ℕ) → t < length samples → sample_at samples t < shape.symbols

pub record Accepted (l : Lent) : Type 0 where
  pub tables : AcceptedTables l.tables
  pub samples : AcceptedSamples l.tables.shape l.samples
