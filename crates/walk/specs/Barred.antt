-- A model in which one state cannot be at one sample: the strongest rival is its best path (RULES 6.4).
use Rattle.std.specs.Prelude.{ℕ, Float, Option}
use Rattle.model.specs.Model.{Model}
use Rattle.emission.specs.declared.Bar.{Bar}
use Rattle.emission.specs.Barring.{barring, barring_by}

-- the model with these emissions in place of its own
abbrev pub emitting : (ℕ → ℕ → Float) → Model → Model
emitting e m = record { states = m.states; ends = m.ends; initial = m.initial; transition = m.transition; emission = e; end = m.end }

-- the model in which state d cannot be at time u
abbrev pub barred : ℕ → ℕ → Model → Model
barred u d m = emitting (barring u d m.emission) m

-- the same, where a state is barred, or none
abbrev pub barred_by : Option Bar → Model → Model
barred_by bar m = emitting (barring_by bar m.emission) m
