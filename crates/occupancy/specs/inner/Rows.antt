-- What the functions over both walks ask and promise, as the rows lie in memory, and a list for each state or symbol.
use Rattle.std.specs.Prelude.{ℕ, ◌+◌, ◌*◌, ◌<◌, ◌≤◌, ◌≡◌, List, length, Float}
use Rattle.floats.specs.Float.{at, minus_infinity}
use Rattle.lists.specs.inner.Holds as Front
use Rattle.model.specs.Lent.{Lent, S, M, T, behind}
use Rattle.model.specs.Model.{transition_of, emission_of, sample_at}
use Rattle.occupancy.specs.declared.Pass.{Pass}
use Rattle.occupancy.specs.declared.Rows.{Rows}
use Rattle.occupancy.specs.Occupancy.{Walks, arc, arc_sum}

module _ (rows : Rows) where
  -- the walks as their rows lie in memory: a row for each sample, of a place for each state
  abbrev pub walks_in : Walks
  walks_in =
      record {
        count = rows.samples;
        alpha = λ (t i : ℕ). at rows.alpha.now (t * rows.shape.states + i);
        beta = λ (r i : ℕ). at rows.beta.now (r * rows.shape.states + i);
        probx = rows.probx;
      }

  -- both walks have a row of at most 64 states for each sample, of which there is one at least
  pub record RowsStand : Type 0 where
    pub few : rows.shape.states ≤ 64
    pub some : 0 < rows.samples
    pub alpha_room : rows.samples * rows.shape.states ≤ length rows.alpha.now
    pub beta_room : rows.samples * rows.shape.states ≤ length rows.beta.now

module _ (p : Pass) where
  -- what the pass is lent
  abbrev pub lent_of : Lent
  lent_of = behind p.lent

  -- the rows that it holds
  abbrev pub rows_in : Rows
  rows_in =
      record { shape = lent_of.tables.shape; samples = T lent_of; alpha = p.alpha; beta = p.beta; probx = p.probx }

  -- the walks in these rows
  abbrev pub rows_of : Walks
  rows_of = walks_in rows_in

  -- these rows stand
  abbrev pub Standing : Type 0
  Standing = RowsStand rows_in

  -- each sample is a symbol
  pub record Known : Type 0 where
    pub few : M lent_of ≤ 256
    pub known : (t : ℕ) → t < T lent_of → sample_at lent_of.samples t < M lent_of

  -- all that the arcs read: both walks, the samples, and tables of the shape's size
  pub record Readable : Type 0 where
    pub standing : Standing
    pub known : Known
    pub transition_length : length lent_of.tables.transition ≡ S lent_of * S lent_of
    pub emission_length : length lent_of.tables.emission ≡ S lent_of * M lent_of

  -- the arcs from state i to state j, by time, and their sum
  abbrev pub arcs_of : ℕ → ℕ → ℕ → Float
  arcs_of =
      arc (transition_of (S lent_of) lent_of.tables.transition) (emission_of (M lent_of) lent_of.tables.emission lent_of.samples) rows_of

  abbrev pub arc_sum_of : ℕ → ℕ → Float
  arc_sum_of =
      arc_sum (transition_of (S lent_of) lent_of.tables.transition) (emission_of (M lent_of) lent_of.tables.emission lent_of.samples) rows_of

-- a list whose first n entries are f 0, .., f (n - 1)
abbrev pub Holds : ℕ → (ℕ → Float) → List Float → Type 0
Holds n f xs = Front.Holds minus_infinity n f xs
