-- Raised tables are a model above.
use Prim.Native.Nat.{ℕ, ◌+◌, ◌*◌, ◌<◌}
use mathlib.Core.Path.{◌≡◌, ap, ap₂, subst}
use mathlib.Core.List.{List}
use native.Mathlib.Omega.{arith}
use lib.Dec.{T}
use lib.ListN.{length}
use lib.Ieee.{Float, le}
use Rattle.floats.specs.Float.{at}
use Rattle.lists.proofs.Places.{within_rows}
use Rattle.model.specs.Lent as Lent
use Rattle.model.specs.Lent.{Lent, S, M}
use Rattle.model.specs.Accepted.{Accepted}
use Rattle.model.specs.Model.{model_of, sample_at}
use Rattle.model.specs.declared.Shape.{Shape}
use Rattle.best_path.proofs.Below.{Below}
use Rattle.path_promises.specs.BestPath.{AtMost, Raised}

-- at a place that both shapes name
raised_at : (low high : List Float) (i k : ℕ) → AtMost low high → i ≡ k → i < length low → T (le (at low i) (at high k))
raised_at low high i k r e b = subst (λ (z : ℕ). T (le (at low i) (at high z))) e (r i b)

module _ (low high : Lent) (a : Accepted low) (r : Raised low high) where
  states_same : S low ≡ S high
  states_same = ap (λ (s : Shape). s.states) r.shape

  over_to : (j : ℕ) → j < S high → j < S low
  over_to j s = omega (arith, states_same)

  transition_same : (k j : ℕ) → k * S low + j ≡ k * S high + j
  transition_same k j = ap (λ (z : ℕ). k * z + j) states_same

  emission_same : (t j : ℕ) → j * M low + sample_at low.samples t ≡ j * M high + sample_at high.samples t
  emission_same t j = ap₂ (λ (s : Shape) (x : List ℕ). j * s.symbols + sample_at x t) r.shape r.samples

  pub raised_below : Below (Lent.T low) (model_of low) (model_of high)
  raised_below =
      let m = low.tables in
      let h = high.tables in
      let b = a.tables in
      record {
        states = states_same;
        ends = ap (λ (s : Shape). s.ends) r.shape;
        initial = λ (j : ℕ) s. r.initial j (rw b.initial_length (over_to j s));
        transition = λ (k j : ℕ) i s.
            raised_at m.transition h.transition _ _ r.transition (transition_same k j)
            (rw b.transition_length (within_rows (over_to k i) (over_to j s)));
        emission = λ (t j : ℕ) l s.
            raised_at m.emission h.emission _ _ r.emission (emission_same t j)
            (rw b.emission_length (within_rows (over_to j s) (a.samples.known t l)));
        end = λ (j : ℕ) s. r.end j (rw b.end_length (over_to j s));
      }
