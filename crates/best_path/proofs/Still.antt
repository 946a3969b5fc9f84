-- A model m below h with the same entries along h's best path: the path stays the best, with the same value to the bit.
-- The winner keeps its rank and no other rises, at each predecessor and at the last state.
use Prim.Native.Nat.{ℕ, zero, suc, ◌≤◌, ◌<◌}
use mathlib.Core.Path.{◌≡◌, sym, ap, ap₂, subst, ◌∙◌}
use native.Mathlib.Nat.{le_refl, le_of_lt}
use native.Mathlib.Omega.{arith}
use lib.Ieee.{Float}
use Rattle.floats.specs.Float.{◌⊕◌}
use Rattle.model.specs.Model.{Model}
use Rattle.model.proofs.Low.{Low}
use Rattle.best_path.specs.Walk.{closed, value, from, last_state, best_value}
use Rattle.best_path.proofs.Best.{Wins, still_wins}
use Rattle.best_path.proofs.Ranks.{place, le_to, rank_of, rank_falls}
use Rattle.best_path.proofs.Ending.{closed_mono}
use Rattle.best_path.proofs.Below.{Below, some_below, low_below}
use Rattle.best_path.proofs.Optimum.{Follows, value_step, ranks, last_ranks, transition_capped, values_capped, from_wins, from_is}
use Rattle.best_path.proofs.Optimum.{last_wins, last_is, last_placed, end_below, value_below}

-- what the states p 0, .., p n use is the same
pub record Agree (n : ℕ) (p : ℕ → ℕ) (m h : Model) : Type 0 where
  pub initial : m.initial (p 0) ≡ h.initial (p 0)
  pub transition : (t : ℕ) → t < n → m.transition (p t) (p (suc t)) ≡ h.transition (p t) (p (suc t))
  pub emission : (t : ℕ) → t ≤ n → m.emission t (p t) ≡ h.emission t (p t)
  pub end : (x : Float) → closed m (p n) x ≡ closed h (p n) x

module _ (n : ℕ) (m h : Model) (o : Below (suc n) m h) (some : 0 < h.states) (low : Low h (suc n)) where
  -- the model below has a state, and is low too
  some_too : 0 < m.states
  some_too = some_below (suc n) m h o some

  low_too : Low m (suc n)
  low_too = low_below (suc n) m h o low

  module _ (p : ℕ → ℕ) (f : Follows h p n) (s : (t : ℕ) → t ≤ n → p t < h.states) (a : Agree n p m h) where
    -- the winners of h's states are those of m's
    wins_there : (ρ : ℕ → ℕ) (w : ℕ) → Wins ρ h.states w → Wins ρ m.states w
    wins_there ρ w i = subst (λ (k : ℕ). Wins ρ k w) (sym o.states) i

    -- the rank of each predecessor falls, if it moves
    ranks_fall : (t j k : ℕ) → t < n → j < h.states → k < h.states → ranks m t j k ≤ ranks h t j k
    unfolding ranks
    ranks_fall t j k l q i =
        let here : k < m.states = omega (arith, o.states) in
        let there : j < m.states = omega (arith, o.states) in
        rank_falls (value m t k) (m.transition k j) (value h t k) (h.transition k j)
        (values_capped n m some_too low_too t k (le_of_lt l) here) (transition_capped n m some_too low_too k j here there)
        (values_capped n h some low t k (le_of_lt l) i) (transition_capped n h some low k j i q)
        (value_below n h some low m o t k (le_of_lt l) i) (o.transition k j i q)

    stays : (t : ℕ) → t < n → value m t (p t) ≡ value h t (p t) → p t ≡ from m (suc t) (p (suc t))
    stays t l e =
        let j = p (suc t) in
        let q = s (suc t) l in
        from_is n m some_too low_too t j (p t) l (omega (arith, q, o.states))
        (wins_there (ranks m t j) (p t)
        (still_wins (ranks h t j) (ranks m t j) h.states (p t)
        (unfold ranks in ap₂ rank_of e (a.transition t l))
        (λ (k : ℕ) i. ranks_fall t j k l q i)
        (rw (f t l) (from_wins n h some low t j l q))))

    values_same : (t : ℕ) → t ≤ n → value m t (p t) ≡ value h t (p t)
    unfolding value
    values_same zero l = ap₂ ◌⊕◌ a.initial (a.emission 0 l)
    values_same (suc t) l =
        let e = values_same t (omega arith) in
        value_step m p t (stays t l e)
        ∙ ap₂ ◌⊕◌ (ap₂ ◌⊕◌ e (a.transition t l)) (a.emission (suc t) l)
        ∙ sym (value_step h p t (f t l))

    pub follows_still : Follows m p n
    follows_still t l = stays t l (values_same t (le_of_lt l))

    module _ (z : p n ≡ last_state h n) where
      end_same : closed m (p n) (value m n (p n)) ≡ closed h (p n) (value h n (p n))
      end_same = ap (closed m (p n)) (values_same n (le_refl n)) ∙ a.end (value h n (p n))

      last_falls : (k : ℕ) → k < h.states → last_ranks m n k ≤ last_ranks h n k
      unfolding last_ranks
      last_falls k i =
          le_to (closed m k (value m n k)) (closed h k (value h n k))
          (last_placed n m some_too low_too k (omega (arith, o.states))) (last_placed n h some low k i)
          (closed_mono m h k (value m n k) (value h n k) (end_below n h some low m o k i)
          (values_capped n h some low n k (le_refl n) i) (value_below n h some low m o n k (le_refl n) i))

      pub last_still : p n ≡ last_state m n
      last_still =
          last_is n m some_too low_too (p n)
          (wins_there (last_ranks m n) (p n)
          (still_wins (last_ranks h n) (last_ranks m n) h.states (p n)
          (unfold last_ranks in ap place end_same) last_falls (rw z (last_wins n h some low))))

      pub value_still : best_value m (suc n) ≡ best_value h (suc n)
      unfolding best_value
      value_still = ap (λ (j : ℕ). closed m j (value m n j)) (sym last_still) ∙ end_same ∙ ap (λ (j : ℕ). closed h j (value h n j)) z
