-- The emissions of a model in which one state cannot be at one sample (RULES 6.4).
use Rattle.std.specs.Prelude.{ℕ, cond, ◌&&◌, eqb, Float, Option, Some, None}
use Rattle.floats.specs.Float.{minus_infinity}
use Rattle.emission.specs.declared.Bar.{Bar}

-- the emissions e, but minus infinity at time u in state d
unfoldable pub barring : ℕ → ℕ → (ℕ → ℕ → Float) → ℕ → ℕ → Float
barring u d e t j = cond (eqb t u && eqb j d) minus_infinity (e t j)

-- the same, where a state is barred, or none
abbrev pub barring_by : Option Bar → (ℕ → ℕ → Float) → ℕ → ℕ → Float
barring_by None e = e
barring_by (Some bar) e = barring bar.index bar.state e
