-- The best path is best: along the predecessors the score is the value, and no path of a model below, nor its own values, come above it.
use Prim.Native.Nat.{ℕ, zero, suc, ◌≤◌, ◌<◌, zero-le, suc-le-suc}
use mathlib.Core.Path.{◌≡◌, refl, sym, ap, ◌∙◌}
use native.Mathlib.Nat.{le_refl, le_of_lt}
use native.Mathlib.Omega.{arith}
use lib.Dec.{T, leb}
use lib.Ieee.{Float, binary64, le}
use Rattle.floats.specs.Float.{◌⊕◌, capped}
use Rattle.floats.proofs.Order.{le_le}
use Rattle.floats.proofs.Add.{add_mono}
use Rattle.model.specs.Model.{Model}
use Rattle.model.proofs.Low.{Low}
use Rattle.best_path.specs.Best.{ranks_at_least, predecessor, greatest}
use Rattle.best_path.specs.Walk.{cell, closed, value, from, last_state, best_value}
use Rattle.best_path.specs.Score.{sum_to, score}
use Rattle.best_path.proofs.Best.{Wins, winner, winner_is}
use Rattle.best_path.proofs.States.{from_below, last_below_lem}
use Rattle.best_path.proofs.Ranks.{place, Placed, placed_sum, le_place, to_le, rank_of, rank_rule, rank_le}
use Rattle.best_path.proofs.Ending.{EndBelow, closed_mono, ended_placed}
use Rattle.best_path.proofs.Bounds.{entry_capped, value_capped, sum_capped}
use Rattle.best_path.proofs.Below.{Below, some_below}

-- p goes back by the predecessors, from time n on
abbrev pub Follows : Model → (ℕ → ℕ) → ℕ → Type 0
Follows m p n = (t : ℕ) → t < n → p t ≡ from m (suc t) (p (suc t))

-- ---- along the predecessors, the score is the value
module _ (m : Model) (p : ℕ → ℕ) where
  pub value_step : (t : ℕ) → p t ≡ from m (suc t) (p (suc t))
      → value m (suc t) (p (suc t)) ≡ (value m t (p t) ⊕ m.transition (p t) (p (suc t))) ⊕ m.emission (suc t) (p (suc t))
  unfolding value from cell
  value_step t e = ap (λ (k : ℕ). (value m t k ⊕ m.transition k (p (suc t))) ⊕ m.emission (suc t) (p (suc t))) (sym e)

  pub sum_is_value : (t : ℕ) → Follows m p t → sum_to m p t ≡ value m t (p t)
  unfolding sum_to value
  sum_is_value zero f = refl
  sum_is_value (suc t) f =
      ap (λ (x : Float). (x ⊕ m.transition (p t) (p (suc t))) ⊕ m.emission (suc t) (p (suc t)))
      (sum_is_value t (λ (u : ℕ) h. f u (omega arith)))
      ∙ sym (value_step t (f t (le_refl (suc t))))

-- the ranks of the predecessors of state j at time t + 1, and those of the last states at time n
unfoldable pub ranks : Model → ℕ → ℕ → ℕ → ℕ
ranks m t j k = rank_of (value m t k) (m.transition k j)

unfoldable pub last_ranks : Model → ℕ → ℕ → ℕ
last_ranks m n j = place (closed m j (value m n j))

-- a model h with a state, over the samples 0, .., n
module _ (n : ℕ) (h : Model) (some : 0 < h.states) (low : Low h (suc n)) where
  -- no entry and no value is NaN or +∞
  initial_capped : (j : ℕ) → j < h.states → T (capped (h.initial j))
  initial_capped j s = entry_capped (h.initial j) (low.initial j s)

  pub transition_capped : (k j : ℕ) → k < h.states → j < h.states → T (capped (h.transition k j))
  transition_capped k j i s = entry_capped (h.transition k j) (low.transition k j i s)

  emission_capped : (t j : ℕ) → t ≤ n → j < h.states → T (capped (h.emission t j))
  emission_capped t j l s = entry_capped (h.emission t j) (low.emission t j (suc-le-suc l) s)

  end_capped : (j : ℕ) → j < h.states → T (capped (h.end j))
  end_capped j s = entry_capped (h.end j) (low.end j s)

  pub values_capped : (t j : ℕ) → t ≤ n → j < h.states → T (capped (value h t j))
  values_capped t j l s = value_capped (suc n) h some low t j (suc-le-suc l) s

  pub rule : (t j : ℕ) → t < n → j < h.states → (b k : ℕ) → b < h.states → k < h.states
      → ranks_at_least (value h t b) (h.transition b j) (value h t k) (h.transition k j) ≡ leb (ranks h t j b) (ranks h t j k)
  unfolding ranks
  rule t j l s b k i q =
      rank_rule (value h t b) (h.transition b j) (value h t k) (h.transition k j)
      (values_capped t b (le_of_lt l) i) (transition_capped b j i s) (values_capped t k (le_of_lt l) q) (transition_capped k j q s)

  pub from_wins : (t j : ℕ) → t < n → j < h.states → Wins (ranks h t j) h.states (from h (suc t) j)
  unfolding from predecessor
  from_wins t j l s = winner _ (ranks h t j) h.states (rule t j l s) some

  pub from_is : (t j w : ℕ) → t < n → j < h.states → Wins (ranks h t j) h.states w → w ≡ from h (suc t) j
  unfolding from predecessor
  from_is t j w l s i = winner_is _ (ranks h t j) h.states (rule t j l s) w i

  -- the best sum before the emission
  best_sum_capped : (t j : ℕ) → t < n → j < h.states → T (capped (value h t (from h (suc t) j) ⊕ h.transition (from h (suc t) j) j))
  best_sum_capped t j l s = sum_capped (suc n) h some low t (from h (suc t) j) j (omega arith) (from_below h some t j) s

  value_placed : (t j : ℕ) → t ≤ n → j < h.states → Placed (value h t j)
  unfolding value from cell
  value_placed zero j l s = placed_sum (h.initial j) (h.emission 0 j) (initial_capped j s) (emission_capped 0 j l s)
  value_placed (suc t) j l s = placed_sum _ (h.emission (suc t) j) (best_sum_capped t j l s) (emission_capped (suc t) j l s)

  pub last_placed : (j : ℕ) → j < h.states → Placed (closed h j (value h n j))
  last_placed j s = ended_placed h.ends (h.end j) (value h n j) (end_capped j s) (values_capped n j (le_refl n) s) (value_placed n j (le_refl n) s)

  pub last_rule : (b k : ℕ) → b < h.states → k < h.states
      → le (closed h b (value h n b)) (closed h k (value h n k)) ≡ leb (last_ranks h n b) (last_ranks h n k)
  unfolding last_ranks
  last_rule b k i q = le_place _ _ (last_placed b i) (last_placed k q)

  pub last_wins : Wins (last_ranks h n) h.states (last_state h n)
  unfolding last_state greatest
  last_wins = winner _ (last_ranks h n) h.states last_rule some

  pub last_is : (w : ℕ) → Wins (last_ranks h n) h.states w → w ≡ last_state h n
  unfolding last_state greatest
  last_is w i = winner_is _ (last_ranks h n) h.states last_rule w i

  -- one step on from state k: at most the next value
  step : (t k j : ℕ) (x a e : Float) → t < n → k < h.states → j < h.states
      → T (le x (value h t k)) → T (le a (h.transition k j)) → T (le e (h.emission (suc t) j)) → T (le ((x ⊕ a) ⊕ e) (value h (suc t) j))
  unfolding value from cell
  step t k j x a e l i s X A E =
      let w = from h (suc t) j in
      let z = from_below h some t j in
      let v = values_capped t k (le_of_lt l) i in
      let c = transition_capped k j i s in
      let top : rank_of (value h t k) (h.transition k j) ≤ rank_of (value h t w) (h.transition w j)
      = unfold ranks in (from_wins t j l s).top k i in
      add_mono binary64 (x ⊕ a) (value h t w ⊕ h.transition w j) e (h.emission (suc t) j)
      (best_sum_capped t j l s) (emission_capped (suc t) j l s)
      (le_le (x ⊕ a) (value h t k ⊕ h.transition k j) (value h t w ⊕ h.transition w j)
      (add_mono binary64 x (value h t k) a (h.transition k j) v c X A)
      (rank_le (value h t k) (h.transition k j) (value h t w) (h.transition w j)
      v c (values_capped t w (le_of_lt l) z) (transition_capped w j z s) top))
      E

  module _ (m : Model) (o : Below (suc n) m h) where
    pub end_below : (j : ℕ) → j < h.states → EndBelow m h j
    end_below j s = record { ends = o.ends; end_capped = end_capped j s; end_below = o.end j s }

    -- the end of m's score from x in state k: at most the best value
    last_step : (k : ℕ) (x : Float) → k < h.states → T (le x (value h n k)) → T (le (closed m k x) (best_value h (suc n)))
    unfolding best_value last_ranks
    last_step k x s i =
        le_le (closed m k x) (closed h k (value h n k)) _
        (closed_mono m h k x (value h n k) (end_below k s) (values_capped n k (le_refl n) s) i)
        (to_le _ _ (last_placed k s) (last_placed (last_state h n) (last_below_lem h some n)) (last_wins.top k s))

    -- the first row of m is below that of h
    first_below : (j : ℕ) → j < h.states → T (le (m.initial j ⊕ m.emission 0 j) (h.initial j ⊕ h.emission 0 j))
    first_below j s =
        add_mono binary64 (m.initial j) (h.initial j) (m.emission 0 j) (h.emission 0 j)
        (initial_capped j s) (emission_capped 0 j zero-le s) (o.initial j s) (o.emission 0 j (suc-le-suc zero-le) s)

    -- ---- no path of a model below scores above the best value
    sum_below : (p : ℕ → ℕ) (t : ℕ) → t ≤ n → ((u : ℕ) → u ≤ t → p u < h.states) → T (le (sum_to m p t) (value h t (p t)))
    unfolding sum_to value
    sum_below p zero l s = first_below (p 0) (s 0 (le_refl 0))
    sum_below p (suc t) l s =
        let here = s t (omega arith) in
        let next = s (suc t) (le_refl (suc t)) in
        step t (p t) (p (suc t)) (sum_to m p t) (m.transition (p t) (p (suc t))) (m.emission (suc t) (p (suc t))) l here next
        (sum_below p t (omega arith) (λ (u : ℕ) i. s u (omega arith)))
        (o.transition (p t) (p (suc t)) here next) (o.emission (suc t) (p (suc t)) (suc-le-suc l) next)

    pub score_below : (p : ℕ → ℕ) → ((u : ℕ) → u ≤ n → p u < h.states) → T (le (score m p n) (best_value h (suc n)))
    unfolding score
    score_below p s = last_step (p n) (sum_to m p n) (s n (le_refl n)) (sum_below p n (le_refl n) s)

    -- ---- nor is its best value above it
    pub value_below : (t j : ℕ) → t ≤ n → j < h.states → T (le (value m t j) (value h t j))
    unfolding value from cell
    value_below zero j l s = first_below j s
    value_below (suc t) j l s =
        let w = from m (suc t) j in
        let i : w < h.states = omega (arith, from_below m (some_below (suc n) m h o some) t j, o.states) in
        step t w j (value m t w) (m.transition w j) (m.emission (suc t) j) l i s
        (value_below t w (omega arith) i) (o.transition w j i s) (o.emission (suc t) j (suc-le-suc l) s)

    pub best_value_below : T (le (best_value m (suc n)) (best_value h (suc n)))
    unfolding best_value
    best_value_below =
        let w = last_state m n in
        let i : w < h.states = omega (arith, last_below_lem m (some_below (suc n) m h o some) n, o.states) in
        last_step w (value m n w) i (value_below n w (le_refl n) i)
