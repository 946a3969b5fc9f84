-- What a call of `baum_welch` answers and what it leaves in each lent output, for all inputs.
use Rattle.std.specs.Prelude.{ℕ, ◌*◌, ◌≡◌, Bool, true, cond, ◌&&◌, List, [], ◌∷◌, ltb, length, Float}
use Rattle.floats.specs.Float.{nought, is_minus_infinity}
use Rattle.lists.specs.Lists.{tab, table, after}
use Rattle.lists.specs.First.{first}
use Rattle.answer.specs.Answer.{is_done, refuse, answered}
use Rattle.answer.specs.Checks.{Tests, first_of}
use Rattle.answer.specs.declared.Answer.{Answer}
use Rattle.answer.specs.declared.Refusal.TheVariants.{ZeroMass}
use Rattle.model.specs.declared.Shape.{Shape}
use Rattle.model.specs.Lent.{Lent, S, M, T}
use Rattle.model.specs.Model.{Model, model_of}
use Rattle.checks.specs.declared.Room.{Room}
use Rattle.checks.specs.Rooms.{rooms_of}
use Rattle.checks.specs.Checks.{check}
use Rattle.occupancy.specs.Occupancy.{Walks, massless}
use Rattle.baum_welch.specs.Pass.{walks, new_transition, new_emission, new_initial, new_end}

-- outputs 5 to 10: the new model's tables, then two scratch tables of T·S
pub record Outputs : Type 0 where
  pub transition : List Float
  pub emission : List Float
  pub initial : List Float
  pub end : List Float
  pub alpha : List Float
  pub beta : List Float

abbrev pub outputs : List Float → List Float → List Float → List Float → List Float → List Float → Outputs
outputs transition emission initial end alpha beta =
    record { transition = transition; emission = emission; initial = initial; end = end; alpha = alpha; beta = beta }

-- the places that they need over n samples
abbrev pub needed : Shape → ℕ → List ℕ
needed shape n =
    let S = shape.states in
    S * S ∷ S * shape.symbols ∷ S ∷ S ∷ n * S ∷ n * S ∷ []

-- and the places that they have
abbrev pub lengths : Outputs → List ℕ
lengths o =
    length o.transition
    ∷ length o.emission
    ∷ length o.initial
    ∷ length o.end
    ∷ length o.alpha
    ∷ length o.beta
    ∷ []

abbrev pub rooms : Lent → Outputs → List Room
rooms l o = rooms_of (needed l.tables.shape (T l)) (lengths o)

-- 9 (RULES 7): at S where the samples cannot be at all, else at the first of the S states that has no mass
abbrev pub mass_tests : ℕ → Bool → Walks → Tests
mass_tests S ends w =
    let hollow = first (massless ends w) S in
    (is_minus_infinity w.probx, refuse ZeroMass 0 S) ∷ (ltb hollow S, refuse ZeroMass 0 hollow) ∷ []

unfoldable pub mass_check : Model → Walks → Answer
mass_check m w = first_of (mass_tests m.states m.ends w)

-- what is answered once the checks 1 to 8 are passed: the value is the likelihood
abbrev pub mass_answer : Model → Walks → Answer
mass_answer m w = answered (mass_check m w) w.probx

-- the new model, of M symbols, is written where every state has mass: o is what was lent and e what it holds at the end
pub record Estimated (m : Model) (w : Walks) (M : ℕ) (samples : List ℕ) (written : Bool) (o e : Outputs) : Type 0 where
  pub transition : e.transition ≡ after written (table m.states m.states (new_transition m w)) o.transition
  pub emission : e.emission ≡ after written (table m.states M (new_emission w samples)) o.emission
  pub initial : e.initial ≡ after written (tab m.states (new_initial w)) o.initial
  pub end : e.end ≡ after written (tab m.states (new_end w m.ends)) o.end

-- both walks over what is lent
abbrev pub walks_of : Lent → Walks
walks_of l = walks (model_of l) (T l)

module _ (l : Lent) (o : Outputs) where
  -- the checks 1 to 8; a sample is needed
  abbrev pub checked : Answer
  checked = check true (rooms l o) l

  abbrev pub written : Bool
  written = is_done checked && is_done (mass_check (model_of l) (walks_of l))

  -- the needed scratch is all +0.0 once the checks are passed, whether 9 follows or the pass is done (RULES 3.4)
  abbrev pub cleared : List Float → List Float
  cleared scratch = after (is_done checked) (tab (T l * S l) (λ (k : ℕ). nought)) scratch

  -- the promise: o is what was lent and e what it holds at the end
  pub record Trained (r : Answer) (e : Outputs) : Type 0 where
    pub answer : r ≡ cond (is_done checked) (mass_answer (model_of l) (walks_of l)) checked
    pub new : Estimated (model_of l) (walks_of l) (M l) l.samples written o e
    pub alpha : e.alpha ≡ cleared o.alpha
    pub beta : e.beta ≡ cleared o.beta
