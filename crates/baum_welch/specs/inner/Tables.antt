-- What the inner functions of a pass ask and promise, over the lists in memory.
use Rattle.std.specs.Prelude.{ℕ, ◌*◌, ◌≤◌, ◌≡◌, true, false, List, length, Float, Result, Ok, Err}
use Rattle.std.specs.Float.{nan}
use Rattle.floats.specs.Float.{at}
use Rattle.lists.specs.Lists.{tab, table, after}
use Rattle.lists.specs.inner.Holds.{Holds}
use Rattle.answer.specs.Answer.{is_done, answered}
use Rattle.answer.specs.Checks.{first_of}
use Rattle.answer.specs.declared.Answer.{Answer}
use Rattle.model.specs.declared.Shape.{Shape}
use Rattle.model.specs.Lent.{Tables, tables_of, Lent, S, M, T}
use Rattle.checks.specs.Rooms.{rooms_of}
use Rattle.checks.specs.Checks.{check_fault}
use Rattle.occupancy.specs.declared.Pass.{Pass}
use Rattle.occupancy.specs.Occupancy.{gamma, denominator}
use Rattle.occupancy.specs.inner.Rows.{lent_of, rows_of, arc_sum_of}
use Rattle.baum_welch.specs.declared.mass.Mass.{Mass}
use Rattle.baum_welch.specs.Pass.{share, new_emission, new_initial, new_end}
use Rattle.baum_welch.specs.Call.{needed, mass_tests}

-- the shares of sums that are divided by d
abbrev pub shares_of : List Float → Float → ℕ → Float
shares_of sums d k = share (at sums k) d

-- the checks of a call whose outputs have these lengths
abbrev pub fault_for : Lent → List ℕ → Result Unit Answer
fault_for l lent = check_fault true (rooms_of (needed l.tables.shape (T l)) lent) l

-- what state i is measured by
abbrev pub mass_of : Pass → ℕ → Mass
mass_of p i =
    record { gamma = gamma (rows_of p) i; denominator = denominator (lent_of p).tables.shape.ends (rows_of p) i }

-- the first n states' masses stand; past the end of an array NaNs are read
abbrev pub Masses : ℕ → Pass → List Mass → Type 0
Masses n p masses = Holds (record { gamma = nan; denominator = nan }) n (mass_of p) masses

-- over both walks of a pass, of which alpha and beta are the rows
module _ (p : Pass) where
  abbrev pub shape_of : Shape
  shape_of = (lent_of p).tables.shape

  -- the refusal for want of mass, or done
  abbrev pub mass_refusal : Answer
  mass_refusal = first_of (mass_tests (S (lent_of p)) shape_of.ends (rows_of p))

  -- every state is found to have mass, or the pass is refused
  abbrev pub Weighed : Result (List Mass) Answer → Type 0
  Weighed (Ok masses) = (is_done mass_refusal ≡ true) × Masses (S (lent_of p)) p masses
  Weighed (Err refusal) = (is_done refusal ≡ false) × (refusal ≡ mass_refusal)

  -- the new transition from state i to state j
  abbrev pub transitions_of : ℕ → ℕ → Float
  transitions_of i j = share (arc_sum_of p i j) (denominator shape_of.ends (rows_of p) i)

  -- the new tables
  abbrev pub new_tables : Tables
  new_tables =
      let n = S (lent_of p) in
      let w = rows_of p in
      tables_of shape_of
      (table n n transitions_of) (table n (M (lent_of p)) (new_emission w (lent_of p).samples))
      (tab n (new_initial w)) (tab n (new_end w shape_of.ends))

  -- the outputs have room for them
  pub record Roomy (transition emission initial end : List Float) : Type 0 where
    pub transition_room : S (lent_of p) * S (lent_of p) ≤ length transition
    pub emission_room : S (lent_of p) * M (lent_of p) ≤ length emission
    pub initial_room : S (lent_of p) ≤ length initial
    pub end_room : S (lent_of p) ≤ length end

  -- what a pass answers, and the new tables where it is done: o is what was lent for them and e what it holds at the end
  pub record Retrained (o e : Tables) (r : Answer) : Type 0 where
    pub answer : r ≡ answered mass_refusal p.probx
    pub laid_transition : e.transition ≡ after (is_done r) new_tables.transition o.transition
    pub laid_emission : e.emission ≡ after (is_done r) new_tables.emission o.emission
    pub laid_initial : e.initial ≡ after (is_done r) new_tables.initial o.initial
    pub laid_end : e.end ≡ after (is_done r) new_tables.end o.end
