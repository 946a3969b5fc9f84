-- The way back: a path that is written from its end, one state a turn.
use Prim.Native.Nat.{ℕ, zero, suc, ◌+◌, ◌-◌, ◌≤◌, ◌<◌}
use mathlib.Core.Path.{◌≡◌, refl, sym, ap, ◌∙◌}
use mathlib.Core.List.{List, [], ◌∷◌, ◌++◌, append_assoc, append-nil}
use native.Mathlib.Numerals.{sub-one}
use native.Mathlib.Nat.{add-zero, add-suc, suc-add, not-suc-le-zero}
use native.Mathlib.Omega.{arith}
use lib.ListN.{length, set}
use Rattle.lists.specs.Lists.{over}
use Rattle.lists.proofs.Over.{over_none, over_before}
use Rattle.best_path.specs.Walk.{path_to}

-- the path to `last` at time n is the path to k at time t, which is left to write, and the suffix, which is written over l from place b on
pub record Traced (b : ℕ) (from : ℕ → ℕ → ℕ) (S n last : ℕ) (l cur : List ℕ) (t k : ℕ) : Type 0 where
  pub within : t ≤ n
  pub below : k < S
  pub suffix : List ℕ
  pub long : t + length suffix ≡ n
  pub joins : path_to from t k ++ suffix ≡ path_to from n last
  pub holds : cur ≡ over (b + t + 1) suffix l

module _ (b : ℕ) (from : ℕ → ℕ → ℕ) (S n last : ℕ) (l : List ℕ) (room : b + n < length l) where
  pub traced_none : last < S → Traced b from S n last l l n last
  traced_none h =
      record { within = omega arith; below = h; suffix = []; long = add-zero n; joins = append-nil _; holds = sym (over_none _ l) }

  step : (t : ℕ) (cur : List ℕ) (k : ℕ) → Traced b from S n last l cur (suc t) k → from (suc t) k < S
      → Traced b from S n last l (set cur (b + suc t) k) t (from (suc t) k)
  unfolding path_to
  step t cur k inv h =
      let next : b + t + 1 ≡ b + suc t = omega arith in
      record {
        within = omega arith;
        below = h;
        suffix = k ∷ inv.suffix;
        long = add-suc t (length inv.suffix) ∙ sym (suc-add t (length inv.suffix)) ∙ inv.long;
        joins = sym (append_assoc (path_to from t (from (suc t) k)) (k ∷ []) inv.suffix) ∙ inv.joins;
        holds = rw (inv.holds, over_before (b + suc t) inv.suffix l k (omega arith), ← next);
      }

  pub traced_more : (t : ℕ) (cur : List ℕ) (k : ℕ) → Traced b from S n last l cur t k → 0 < t → from t k < S
      → Traced b from S n last l (set cur (b + t) k) (t - 1) (from t k)
  traced_more zero cur k inv h low = absurd (not-suc-le-zero h)
  traced_more (suc t) cur k inv h low = rw (sub-one (suc t)) (step t cur k inv low)

  pub traced_all : (t : ℕ) (cur : List ℕ) (k : ℕ) → Traced b from S n last l cur t k → t ≤ 0 → set cur b k ≡ over b (path_to from n last) l
  unfolding path_to
  traced_all zero cur k inv h =
      let here : cur ≡ over (b + 1) inv.suffix l = rw (add-zero b) at inv.holds in
      rw (here, over_before b inv.suffix l k (omega arith), ← inv.joins)
  traced_all (suc t) cur k inv h = absurd (not-suc-le-zero h)

-- a path asks for predecessors of states only, and for none in the first row
pub path_same : (f g : ℕ → ℕ → ℕ) (S n : ℕ) → ((t k : ℕ) → suc t < n → k < S → f (suc t) k ≡ g (suc t) k)
    → ((t k : ℕ) → suc t < n → k < S → g (suc t) k < S) → (t k : ℕ) → t < n → k < S → path_to f t k ≡ path_to g t k
unfolding path_to
path_same f g S n e b zero k h l = refl
path_same f g S n e b (suc t) k h l =
    rw (e t k h l)
    (ap (λ (p : List ℕ). p ++ (k ∷ [])) (path_same f g S n e b t (g (suc t) k) (omega arith) (b t k h l)))
