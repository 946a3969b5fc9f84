-- The barred model: off the barred state a path scores as it did, and through it minus infinity. So its best path is the strongest rival.
use Prim.Native.Nat.{ℕ, zero, suc, ◌≤◌, ◌<◌, suc-le-suc}
use mathlib.Core.Path.{◌≡◌, refl, sym, ap, ap₂, subst, ◌∙◌}
use mathlib.Core.Logic.{⊎_elim}
use mathlib.Core.Bool.{Bool, true, false, true≢false, cond, ◌&&◌}
use native.Mathlib.Nat.{le_refl, eq-or-lt_of_le, le_of_suc-le-suc}
use native.Mathlib.Omega.{arith}
use borrow.Author.Tests.{le-leb, lt-leb}
use lib.Dec.{T, eqb, leb}
use lib.Ieee.{Float, binary64, le, eq}
use Rattle.floats.specs.Float.{◌⊕◌, minus_infinity, is_minus_infinity, capped}
use Rattle.floats.proofs.Finite.{minus_infinity_is}
use Rattle.floats.proofs.Order.{le_antisym, le_left, le_self, bottom_le}
use Rattle.floats.proofs.Add.{capped_num, add_comm, add_bottom}
use Rattle.floats.proofs.Ceiling.{lid, lid_add, most_lid, lid_capped}
use Rattle.model.specs.Model.{Model}
use Rattle.model.proofs.Low.{Low}
use Rattle.emission.specs.Barring.{barring}
use Rattle.emission.proofs.Barring.{barring_off, barring_on}
use Rattle.best_path.specs.Best.{ranks_at_least}
use Rattle.best_path.specs.Walk.{ended, closed, value, best_value}
use Rattle.best_path.specs.Score.{sum_to, score}
use Rattle.best_path.proofs.Bounds.{entry_capped}
use Rattle.best_path.proofs.Below.{Below, below_itself, low_below}
use Rattle.best_path.proofs.Best.{Wins}
use Rattle.best_path.proofs.Optimum.{ranks, last_ranks, rule, last_rule, from_wins, last_wins, best_value_below}
use Rattle.best_path.proofs.BestPath.{states, states_follow, states_end, states_below, value_is_score, optimum}
use Rattle.walk.specs.Barred.{barred}
use Rattle.rival_laws.specs.Among.{WinsAmong}

-- the barred emissions are at most what they were
barring_below : (u d : ℕ) (e : ℕ → ℕ → Float) (t j : ℕ) → T (capped (e t j)) → T (le (barring u d e t j) (e t j))
unfolding barring
barring_below u d e t j c = go (eqb t u && eqb j d)
  where
    go : (b : Bool) → T (le (cond b minus_infinity (e t j)) (e t j))
    go true = bottom_le (e t j) (capped_num (e t j) c)
    go false = le_self (e t j) (capped_num (e t j) c)

-- what is at most minus infinity is minus infinity
at_bottom : (x : Float) → T (le x minus_infinity) → x ≡ minus_infinity
at_bottom x h = minus_infinity_is x (le_antisym x minus_infinity h (bottom_le x (le_left x minus_infinity h)))

bottom_add : (x : Float) → T (capped x) → x ⊕ minus_infinity ≡ minus_infinity
bottom_add x c = add_comm binary64 x minus_infinity ∙ add_bottom binary64 x c

ended_bottom : (ends : Bool) (e : Float) → T (capped e) → ended ends e minus_infinity ≡ minus_infinity
unfolding ended
ended_bottom true e c = add_bottom binary64 e c
ended_bottom false e c = refl

-- a winner of all is one of the allowed, where it is allowed; ρ is the rule's rank
among : (allowed : ℕ → Type 0) (at_least : ℕ → ℕ → Bool) (ρ : ℕ → ℕ) (n w : ℕ)
    → ((c k : ℕ) → c < n → k < n → at_least c k ≡ leb (ρ c) (ρ k)) → allowed w → Wins ρ n w → WinsAmong allowed at_least n w
among allowed at_least ρ n w rule a h =
    record {
      itself = a;
      below = h.below;
      top = λ (k : ℕ) i c. rule k w i h.below ∙ le-leb (ρ k) (ρ w) (h.top k i);
      last = λ (k : ℕ) i j c. rule w k h.below i ∙ lt-leb (ρ w) (ρ k) (h.last k j i);
    }

-- ---- the barred model is below the model, and so low where that is low
module _ (n : ℕ) (m : Model) (low : Low m n) (u d : ℕ) where
  barred_below : Below n (barred u d m) m
  barred_below =
      let i = below_itself n m low in
      record {
        states = refl;
        ends = refl;
        initial = i.initial;
        transition = i.transition;
        emission = λ (t j : ℕ) l s. barring_below u d m.emission t j (entry_capped (m.emission t j) (low.emission t j l s));
        end = i.end;
      }

  pub barred_low : Low (barred u d m) n
  barred_low = low_below n (barred u d m) m barred_below low

-- over the samples 0, .., n
module _ (n : ℕ) (m : Model) (some : 0 < m.states) (low : Low m (suc n)) (u d : ℕ) where
  abbrev b : Model
  b = barred u d m

  low_too : Low b (suc n)
  low_too = barred_low (suc n) m low u d

  -- ---- off the barred state a path scores as it did, to the bit
  module _ (p : ℕ → ℕ) (off : p u ≡ d → ⊥) where
    same_emission : (t : ℕ) → b.emission t (p t) ≡ m.emission t (p t)
    same_emission t = barring_off u d m.emission t (p t) (λ k. off (subst (λ (z : ℕ). p z ≡ d) k.0 k.1))

    sum_off : (t : ℕ) → sum_to b p t ≡ sum_to m p t
    unfolding sum_to
    sum_off zero = ap (λ (x : Float). m.initial (p 0) ⊕ x) (same_emission 0)
    sum_off (suc t) = ap₂ (λ (x e : Float). (x ⊕ m.transition (p t) (p (suc t))) ⊕ e) (sum_off t) (same_emission (suc t))

    score_off : score b p n ≡ score m p n
    unfolding score
    score_off = ap (closed m (p n)) (sum_off n)

  -- ---- through it, minus infinity
  module _ (p : ℕ → ℕ) (on : p u ≡ d) (s : (t : ℕ) → t ≤ n → p t < m.states) where
    capped_emission : (t : ℕ) → t ≤ n → T (capped (b.emission t (p t)))
    capped_emission t l = entry_capped (b.emission t (p t)) (low_too.emission t (p t) (suc-le-suc l) (s t l))

    -- no sum of the barred model is above the lid, with a transition or without
    stepped : (t : ℕ) → suc t ≤ n → T (le (sum_to b p t) lid) → T (le (sum_to b p t ⊕ m.transition (p t) (p (suc t))) lid)
    stepped t l h =
        lid_add (sum_to b p t) (m.transition (p t) (p (suc t))) h (low.transition (p t) (p (suc t)) (s t (omega arith)) (s (suc t) l))

    sum_lid : (t : ℕ) → t ≤ n → T (le (sum_to b p t) lid)
    unfolding sum_to
    sum_lid zero l =
        lid_add (m.initial (p 0)) (b.emission 0 (p 0))
        (most_lid (m.initial (p 0)) (low.initial (p 0) (s 0 l))) (low_too.emission 0 (p 0) (suc-le-suc l) (s 0 l))
    sum_lid (suc t) l =
        lid_add _ (b.emission (suc t) (p (suc t))) (stepped t l (sum_lid t (omega arith)))
        (low_too.emission (suc t) (p (suc t)) (suc-le-suc l) (s (suc t) l))

    there : (t : ℕ) → t ≡ u → b.emission t (p t) ≡ minus_infinity
    there t e = subst (λ (z : ℕ). barring u d m.emission z (p z) ≡ minus_infinity) (sym e)
        (ap (barring u d m.emission u) on ∙ barring_on u d m.emission)

    sum_there : (t : ℕ) → t ≡ u → t ≤ n → sum_to b p t ≡ minus_infinity
    unfolding sum_to
    sum_there zero e l =
        ap (λ (x : Float). m.initial (p 0) ⊕ x) (there 0 e)
        ∙ bottom_add (m.initial (p 0)) (entry_capped (m.initial (p 0)) (low.initial (p 0) (s 0 l)))
    sum_there (suc t) e l =
        ap (λ (x : Float). (sum_to b p t ⊕ m.transition (p t) (p (suc t))) ⊕ x) (there (suc t) e)
        ∙ bottom_add _ (lid_capped _ (stepped t l (sum_lid t (omega arith))))

    sum_further : (t : ℕ) → suc t ≤ n → sum_to b p t ≡ minus_infinity → sum_to b p (suc t) ≡ minus_infinity
    unfolding sum_to
    sum_further t l e =
        let i = s t (omega arith) in
        ap (λ (x : Float). (x ⊕ m.transition (p t) (p (suc t))) ⊕ b.emission (suc t) (p (suc t))) e
        ∙ ap (λ (x : Float). x ⊕ b.emission (suc t) (p (suc t)))
        (add_bottom binary64 _ (entry_capped (m.transition (p t) (p (suc t))) (low.transition (p t) (p (suc t)) i (s (suc t) l))))
        ∙ add_bottom binary64 _ (capped_emission (suc t) l)

    sum_on : (t : ℕ) → u ≤ t → t ≤ n → sum_to b p t ≡ minus_infinity
    sum_on zero h l = sum_there zero (omega arith) l
    sum_on (suc t) h l =
        ⊎_elim
        (λ (e : u ≡ suc t). sum_there (suc t) (sym e) l)
        (λ (i : u < suc t). sum_further t l (sum_on t (le_of_suc-le-suc i) (omega arith)))
        (eq-or-lt_of_le h)

    score_on : u ≤ n → score b p n ≡ minus_infinity
    unfolding score
    score_on l =
        ap (closed m (p n)) (sum_on n l (le_refl n))
        ∙ ended_bottom m.ends (m.end (p n)) (entry_capped (m.end (p n)) (low.end (p n) (s n (le_refl n))))

  -- ---- its best path and value
  module _ (l : u ≤ n) where
    below : (t : ℕ) → t ≤ n → states n b t < m.states
    below t i = states_below n b some t i

    -- where the value is above minus infinity, the path is not in state d at time u
    pub rival_avoids : is_minus_infinity (best_value b (suc n)) ≡ false → states n b u ≡ d → ⊥
    unfolding eq
    rival_avoids h on = true≢false (sym (ap is_minus_infinity (value_is_score n b ∙ score_on (states n b) on below l)) ∙ h)

    -- and the value is the path's own score in m, to the bit
    pub rival_scored : is_minus_infinity (best_value b (suc n)) ≡ false → best_value b (suc n) ≡ score m (states n b) n
    rival_scored h = value_is_score n b ∙ score_off (states n b) (rival_avoids h)

    -- no states with another one at time u score above it
    pub rival_highest : (p : ℕ → ℕ) → ((t : ℕ) → t ≤ n → p t < m.states) → (p u ≡ d → ⊥) → T (le (score m p n) (best_value b (suc n)))
    rival_highest p s off = subst (λ (x : Float). T (le x (best_value b (suc n)))) (score_off p off) (optimum n b some low_too p s)

    -- it is at most the best value of m
    pub rival_below : T (le (best_value b (suc n)) (best_value m (suc n)))
    rival_below = best_value_below n m some low b (barred_below (suc n) m low u d)

    -- it is minus infinity where all others score so, and only there
    pub none_all : best_value b (suc n) ≡ minus_infinity → (p : ℕ → ℕ) → ((t : ℕ) → t ≤ n → p t < m.states)
        → (p u ≡ d → ⊥) → score m p n ≡ minus_infinity
    none_all e p s off = at_bottom (score m p n) (subst (λ (x : Float). T (le (score m p n) x)) e (rival_highest p s off))

    pub all_none : ((states n b u ≡ d → ⊥) → score m (states n b) n ≡ minus_infinity) → is_minus_infinity (best_value b (suc n)) ≡ true
    unfolding eq
    all_none h = go (is_minus_infinity (best_value b (suc n))) refl
      where
        go : (q : Bool) → is_minus_infinity (best_value b (suc n)) ≡ q → q ≡ true
        go true e = refl
        go false e = sym e ∙ ap is_minus_infinity (rival_scored e ∙ h (rival_avoids e))

    -- ---- ties: each state of the rival is Viterbi's choice among the allowed ones
    -- state k may be at time t
    abbrev pub Allowed : ℕ → ℕ → Type 0
    Allowed t k = (t ≡ u) × (k ≡ d) → ⊥

    module _ (h : is_minus_infinity (best_value b (suc n)) ≡ false) where
      allowed : (t : ℕ) → Allowed t (states n b t)
      allowed t k = rival_avoids h (subst (λ (z : ℕ). states n b z ≡ d) k.0 k.1)

      -- before the last sample it ranks highest as a predecessor of the next state
      pub rival_ties : (t : ℕ) → t < n → WinsAmong (Allowed t) (λ (c k : ℕ). let j = states n b (suc t) in
          ranks_at_least (value b t c) (m.transition c j) (value b t k) (m.transition k j)) m.states (states n b t)
      rival_ties t i =
          let j = states n b (suc t) in
          let s = below (suc t) i in
          among (Allowed t) _ (ranks b t j) m.states (states n b t) (rule n b some low_too t j i s) (allowed t)
          (subst (Wins (ranks b t j) m.states) (sym (states_follow n b t i)) (from_wins n b some low_too t j i s))

      -- and at the last sample it has the greatest score
      pub rival_last : WinsAmong (Allowed n) (λ (c k : ℕ). le (closed m c (value b n c)) (closed m k (value b n k))) m.states (states n b n)
      rival_last =
          among (Allowed n) _ (last_ranks b n) m.states (states n b n) (last_rule n b some low_too) (allowed n)
          (subst (Wins (last_ranks b n) m.states) (sym (states_end n b)) (last_wins n b some low_too))
