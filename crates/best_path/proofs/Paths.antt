-- A path by its predecessors, as a list: its length, its last state, and each state from the one after it.
use Prim.Native.Nat.{ℕ, zero, suc, ◌≤◌, ◌<◌}
use mathlib.Core.Path.{◌≡◌, refl, sym, ap, ap₂, ◌∙◌}
use mathlib.Core.Logic.{⊎_elim}
use mathlib.Core.List.{List, [], ◌∷◌, ◌++◌}
use native.Mathlib.Nat.{not-suc-le-zero, le_of_suc-le-suc, eq-or-lt_of_le, le_refl}
use native.Mathlib.Numerals.{add-one}
use native.Mathlib.Omega.{arith}
use lib.ListN.{length, length-append, get_or-append}
use lib.Seq.{get_or_at}
use Rattle.best_path.specs.Walk.{path_to}
use Rattle.best_path.specs.Score.{state_at}

module _ (from : ℕ → ℕ → ℕ) where
  pub path_length : (t j : ℕ) → length (path_to from t j) ≡ suc t
  unfolding path_to
  path_length zero j = refl
  path_length (suc t) j = length-append (path_to from t (from (suc t) j)) (j ∷ []) ∙ rw (path_length t (from (suc t) j)) (add-one (suc t))

  pub path_end : (t j : ℕ) → state_at (path_to from t j) t ≡ j
  unfolding path_to
  path_end zero j = refl
  path_end (suc t) j = get_or_at (path_to from t (from (suc t) j)) j [] 0 (suc t) (path_length t (from (suc t) j))

  -- what is before the end is the path to the state before it
  pub path_before : (t j u : ℕ) → u ≤ t → state_at (path_to from (suc t) j) u ≡ state_at (path_to from t (from (suc t) j)) u
  unfolding path_to
  path_before t j u h = get_or-append (path_to from t (from (suc t) j)) (j ∷ []) 0 u (omega (arith, path_length t (from (suc t) j)))

  pub path_follows : (t j u : ℕ) → u < t → state_at (path_to from t j) u ≡ from (suc u) (state_at (path_to from t j) (suc u))
  path_follows zero j u h = absurd (not-suc-le-zero h)
  path_follows (suc t) j u h =
      path_before t j u (le_of_suc-le-suc h)
      ∙ ⊎_elim
      (λ (e : u ≡ t). rw e (path_end t (from (suc t) j) ∙ ap (from (suc t)) (sym (path_end (suc t) j))))
      (λ (l : u < t). path_follows t (from (suc t) j) u l ∙ ap (from (suc u)) (sym (path_before t j (suc u) l)))
      (eq-or-lt_of_le (le_of_suc-le-suc h))

  -- every state is below S where every predecessor and the last state are
  pub path_states : (S : ℕ) → ((u j : ℕ) → from (suc u) j < S) → (t j u : ℕ) → j < S → u ≤ t → state_at (path_to from t j) u < S
  path_states S f t j u h l =
      ⊎_elim
      (λ (e : u ≡ t). rw (e, path_end t j) h)
      (λ (i : u < t). rw (path_follows t j u i) (f u (state_at (path_to from t j) (suc u))))
      (eq-or-lt_of_le l)

-- what goes back by both, and ends where both end, is the path of both
pub same_path : (f g : ℕ → ℕ → ℕ) (p : ℕ → ℕ) (t j k : ℕ) → ((u : ℕ) → u < t → p u ≡ f (suc u) (p (suc u)))
    → ((u : ℕ) → u < t → p u ≡ g (suc u) (p (suc u))) → p t ≡ j → p t ≡ k → path_to f t j ≡ path_to g t k
unfolding path_to
same_path f g p zero j k F G a b = ap (λ (x : ℕ). x ∷ []) (sym a ∙ b)
same_path f g p (suc t) j k F G a b =
    ap₂ (λ (l : List ℕ) (x : ℕ). l ++ (x ∷ []))
    (same_path f g p t (f (suc t) j) (g (suc t) k) (λ (u : ℕ) l. F u (omega arith)) (λ (u : ℕ) l. G u (omega arith))
    (F t (le_refl (suc t)) ∙ ap (f (suc t)) a) (G t (le_refl (suc t)) ∙ ap (g (suc t)) b))
    (sym a ∙ b)
