-- The model as Rabiner writes it: N states, A, B and π as functions, with the end beside them. The walks are stated over this alone.
use Rattle.std.specs.Prelude.{ℕ, ◌+◌, ◌*◌, Bool, List, slice_index, Float}
use Rattle.floats.specs.Float.{at}
use Rattle.model.specs.Lent.{Lent, S, M}

-- initial j, transition k j (from k to j), emission t j (of the sample at time t, in state j) and end j: log-probabilities
pub record Model : Type 0 where
  pub states : ℕ
  pub ends : Bool
  pub initial : ℕ → Float
  pub transition : ℕ → ℕ → Float
  pub emission : ℕ → ℕ → Float
  pub end : ℕ → Float

-- a transition table by rows, from and to (RULES 2.2)
abbrev pub transition_of : ℕ → List Float → ℕ → ℕ → Float
transition_of states table k j = at table (k * states + j)

-- the symbol at time t
abbrev pub sample_at : List ℕ → ℕ → ℕ
sample_at samples t = slice_index samples t

-- an emission table by rows, of the sample at time t in state j
abbrev pub emission_of : ℕ → List Float → List ℕ → ℕ → ℕ → Float
emission_of symbols table samples t j = at table (j * symbols + sample_at samples t)

-- a model of tables by rows, with emissions by any rule
abbrev pub tabled : ℕ → List Float → List Float → (ℕ → ℕ → Float) → Bool → (ℕ → Float) → Model
tabled states transition initial emission ends end =
    record {
      states = states;
      ends = ends;
      initial = at initial;
      transition = transition_of states transition;
      emission = emission;
      end = end;
    }

-- the model that a call is lent, at its samples
abbrev pub model_of : Lent → Model
model_of l =
    let m = l.tables in
    tabled (S l) m.transition m.initial (emission_of (M l) m.emission l.samples) m.shape.ends (at m.end)
