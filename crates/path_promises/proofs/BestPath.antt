-- The best path (RULES 8.3), of every way to decode that gives the best path and its value by their definitions.
use Prim.Native.Nat.{ℕ, suc, ◌-◌, ◌<◌}
use mathlib.Core.Path.{◌≡◌, sym, ap, subst, ◌∙◌}
use mathlib.Core.List.{List, ◌++◌}
use native.Mathlib.Omega.{arith}
use lib.Dec.{T}
use lib.ListN.{length}
use lib.Ieee.{Float, le}
use Rattle.model.specs.Lent as Lent
use Rattle.model.specs.Lent.{Lent, S}
use Rattle.model.specs.Model.{model_of}
use Rattle.model.proofs.Low.{Low, accepted_low}
use Rattle.best_path.specs.Walk.{best_path, best_value}
use Rattle.best_path.specs.Score.{state_at}
use Rattle.best_path.proofs.Below.{Below}
use Rattle.best_path.proofs.Still.{Agree}
use Rattle.best_path.proofs.BestPath.{states, states_length, states_below, value_is_score, optimum, raising, lowering}
use Rattle.path_promises.specs.BestPath.{IsPath, score_of, used_to, used_at_end, used, Raised, Decoder, GivesTheBest}
use Rattle.path_promises.specs.Calls.{Defined}
use Rattle.path_promises.proofs.Tables.{raised_below}
use Rattle.path_promises.proofs.Used.{used_agree}

-- what is given where the last sample is at time n
module _ (n : ℕ) (l : Lent) (value : Float) (path : List ℕ) (d : Defined l value path) (long : Lent.T l ≡ suc n) where
  value_at : value ≡ best_value (model_of l) (suc n)
  value_at = d.value_is ∙ ap (best_value (model_of l)) long

  path_at : path ≡ best_path (model_of l) (suc n)
  path_at = d.path_is ∙ ap (best_path (model_of l)) long

-- raised tables have the same samples
samples_long : (low high : Lent) → Raised low high → Lent.T low ≡ Lent.T high
samples_long low high r = ap length r.samples

module _ (l : Lent) (value : Float) (path : List ℕ) (d : Defined l value path) where
  -- the time of the last sample
  abbrev n : ℕ
  n = Lent.T l - 1

  long : Lent.T l ≡ suc n
  long = omega (arith, d.some_sample)

  some : 0 < S l
  some = d.accepted.tables.in_range.some_state

  low : Low (model_of l) (suc n)
  low = rw long at (accepted_low l d.accepted)

  value_is_lem : value ≡ best_value (model_of l) (suc n)
  value_is_lem = value_at n l value path d long

  path_is_lem : path ≡ best_path (model_of l) (suc n)
  path_is_lem = path_at n l value path d long

  is_path_lem : IsPath l path
  is_path_lem =
      record {
        long = ap length path_is_lem ∙ states_length n (model_of l) ∙ sym long;
        states = λ (t : ℕ) i. rw path_is_lem (states_below n (model_of l) some t (omega (arith, long)));
      }

  is_scored : value ≡ score_of l path
  is_scored = rw (value_is_lem, path_is_lem) (value_is_score n (model_of l))

  is_highest : (other : List ℕ) → IsPath l other → T (le (score_of l other) value)
  is_highest other p = rw value_is_lem (optimum n (model_of l) some low (state_at other) (λ (t : ℕ) i. p.states t (omega (arith, long))))

  module _ (l' : Lent) (value' : Float) (path' : List ℕ) (d' : Defined l' value' path') where
    is_raised : Raised l l' → T (le value value')
    is_raised r =
        let e : Lent.T l' ≡ suc n = sym (samples_long l l' r) ∙ long in
        let low' : Low (model_of l') (suc n) = rw e at (accepted_low l' d'.accepted) in
        let below : Below (suc n) (model_of l) (model_of l') = rw long at (raised_below l l' d.accepted r) in
        rw (value_is_lem, value_at n l' value' path' d' e) (raising n (model_of l) (model_of l') below d'.accepted.tables.in_range.some_state low')

    is_lowered : Raised l' l → used l' path ≡ used l path → (path' ≡ path) × (value' ≡ value)
    is_lowered r u =
        let e : Lent.T l' ≡ suc n = samples_long l' l r ∙ long in
        let z : Lent.T l' - 1 ≡ n = omega arith in
        let v : used_to (model_of l') (state_at path) n ++ used_at_end (model_of l') (state_at path n) ≡ used l path
        = subst (λ (t : ℕ). used_to (model_of l') (state_at path) t ++ used_at_end (model_of l') (state_at path t) ≡ used l path) z u in
        let a : Agree n (states n (model_of l)) (model_of l') (model_of l)
        = subst (λ (p : List ℕ). Agree n (state_at p) (model_of l') (model_of l)) path_is_lem
        (used_agree (model_of l') (model_of l) (state_at path) n v) in
        let below : Below (suc n) (model_of l') (model_of l) = rw e at (raised_below l' l d'.accepted r) in
        let w = lowering n (model_of l') (model_of l) below some low a in (
          path_at n l' value' path' d' e ∙ w.0 ∙ sym path_is_lem,
          value_at n l' value' path' d' e ∙ w.1 ∙ sym value_is_lem,
        )

-- where all that is given is so by the definitions, all that is given is the best
pub gives_the_best : (gives : Decoder) → ((l : Lent) (value : Float) (path : List ℕ) → gives l value path → Defined l value path)
    → GivesTheBest gives
gives_the_best gives defined l value path g =
    let d = defined l value path g in
    record {
      is_path = is_path_lem l value path d;
      scored = is_scored l value path d;
      highest = is_highest l value path d;
      raising = λ (l' : Lent) (value' : Float) (path' : List ℕ) g' r.
          is_raised l value path d l' value' path' (defined l' value' path' g') r;
      lowering = λ (l' : Lent) (value' : Float) (path' : List ℕ) g' r u.
          is_lowered l value path d l' value' path' (defined l' value' path' g') r u;
    }

-- of accepted tables, by the definitions
pub accepted_best : GivesTheBest Defined
accepted_best = gives_the_best Defined (λ (l : Lent) (value : Float) (path : List ℕ) d. d)
