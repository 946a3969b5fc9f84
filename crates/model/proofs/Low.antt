-- The one bound of all walks: no entry that a walk over n samples reads is above 2^10, which holds of all that is accepted.
use Rattle.std.proofs.Common.{ℕ, ◌+◌, ◌*◌, ◌<◌, T}
use lib.Ieee.{Float, le, lt}
use Rattle.floats.specs.Float.{nought, one, at}
use Rattle.floats.proofs.Order.{le_le}
use Rattle.floats.proofs.Ceiling.{most}
use Rattle.lists.proofs.Places.{within_rows}
use Rattle.model.specs.Lent as Memory
use Rattle.model.specs.Lent.{Lent, S, M}
use Rattle.model.specs.Model.{Model, model_of, sample_at}
use Rattle.model.specs.Accepted.{Accepted}
use Rattle.model.proofs.Entries.{good_low, end_low}

pub record Low (m : Model) (n : ℕ) : Type 0 where
  pub initial : (j : ℕ) → j < m.states → T (le (m.initial j) most)
  pub transition : (k j : ℕ) → k < m.states → j < m.states → T (le (m.transition k j) most)
  pub emission : (t j : ℕ) → t < n → j < m.states → T (le (m.emission t j) most)
  pub end : (j : ℕ) → j < m.states → T (le (m.end j) most)

below_most : (x : Float) → T (le x nought) → T (le x most)
below_most x h = le_le x nought most h (unfold le lt in tt)

pub accepted_low : (l : Lent) → Accepted l → Low (model_of l) (Memory.T l)
accepted_low l a =
    let m = l.tables in
    let b = a.tables in
    record {
      initial = λ j s. below_most (at m.initial j) (good_low _ (b.initial_good j (rw b.initial_length s)));
      transition = λ k j r s. below_most (at m.transition (k * S l + j)) (good_low _ (b.transition_good _ (rw b.transition_length (within_rows r s))));
      emission = λ t j h s.
          below_most (at m.emission (j * M l + sample_at l.samples t))
          (good_low _ (b.emission_good _ (rw b.emission_length (within_rows s (a.samples.known t h)))));
      end = λ j s. le_le (at m.end j) one most (end_low m.shape.ends _ (b.end_good j (rw b.end_length s))) (unfold le lt in tt);
    }
