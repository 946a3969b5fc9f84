-- The best path as a list, and the four laws of it (RULES 8.3), over any low model and the samples 0, .., n.
use Prim.Native.Nat.{ℕ, suc, ◌≤◌, ◌<◌}
use mathlib.Core.Path.{◌≡◌, sym, ap, ◌∙◌}
use lib.Dec.{T}
use lib.ListN.{length}
use lib.Ieee.{le}
use Rattle.model.specs.Model.{Model}
use Rattle.model.proofs.Low.{Low}
use Rattle.best_path.specs.Walk.{closed, value, from, last_state, best_path, best_value}
use Rattle.best_path.specs.Score.{state_at, score}
use Rattle.best_path.proofs.Paths.{path_length, path_end, path_follows, path_states, same_path}
use Rattle.best_path.proofs.Below.{Below, below_itself}
use Rattle.best_path.proofs.Optimum.{Follows, sum_is_value, score_below, best_value_below}
use Rattle.best_path.proofs.States.{from_below, last_below_lem}
use Rattle.best_path.proofs.Still.{Agree, follows_still, last_still, value_still}

module _ (n : ℕ) (m : Model) where
  -- the state of the best path at time t
  abbrev pub states : ℕ → ℕ
  states = state_at (best_path m (suc n))

  pub states_length : length (best_path m (suc n)) ≡ suc n
  unfolding best_path
  states_length = path_length (from m) n (last_state m n)

  pub states_follow : Follows m states n
  unfolding best_path
  states_follow t l = path_follows (from m) n (last_state m n) t l

  pub states_end : states n ≡ last_state m n
  unfolding best_path
  states_end = path_end (from m) n (last_state m n)

  pub states_below : 0 < m.states → (t : ℕ) → t ≤ n → states t < m.states
  unfolding best_path
  states_below some t l = path_states (from m) m.states (from_below m some) n (last_state m n) t (last_below_lem m some n) l

  -- the value is the path's own score, to the bit
  pub value_is_score : best_value m (suc n) ≡ score m states n
  unfolding best_value score
  value_is_score =
      ap (λ (j : ℕ). closed m j (value m n j)) (sym states_end)
      ∙ ap (closed m (states n)) (sym (sum_is_value m states n states_follow))

  -- no states score above it
  pub optimum : 0 < m.states → Low m (suc n) → (p : ℕ → ℕ) → ((t : ℕ) → t ≤ n → p t < m.states)
      → T (le (score m p n) (best_value m (suc n)))
  optimum some low p s = score_below n m some low m (below_itself (suc n) m low) p s

module _ (n : ℕ) (m h : Model) (o : Below (suc n) m h) (some : 0 < h.states) (low : Low h (suc n)) where
  -- raising entries, from m to h, does not lower the value
  pub raising : T (le (best_value m (suc n)) (best_value h (suc n)))
  raising = best_value_below n h some low m o

  -- lowering entries, from h to m, but none that h's path uses, leaves the path and the value to the bit
  pub lowering : Agree n (states n h) m h → (best_path m (suc n) ≡ best_path h (suc n)) × (best_value m (suc n) ≡ best_value h (suc n))
  unfolding best_path
  lowering a =
      let p = states n h in
      let f = states_follow n h in
      let z = states_end n h in
      let s = states_below n h some in
      let g = follows_still n m h o some low p f s a in (
        same_path (from m) (from h) p n (last_state m n) (last_state h n) g f (last_still n m h o some low p f s a z) z,
        value_still n m h o some low p f s a z,
      )
