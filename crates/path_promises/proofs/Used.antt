-- What a path uses: the score adds it, and two models in which it is the same agree along the path.
use Prim.Native.Nat.{ℕ, zero, suc, ◌-◌, ◌≤◌, ◌<◌}
use mathlib.Core.Path.{◌≡◌, refl, sym, ap, ◌∙◌}
use mathlib.Core.Logic.{⊎_elim}
use mathlib.Core.Bool.{Bool, true, false, cond}
use mathlib.Core.List.{List, [], ◌∷◌, ◌++◌, foldl, foldl-append}
use native.Mathlib.Nat.{not-suc-le-zero, eq-or-lt_of_le, le_of_suc-le-suc}
use native.Mathlib.Omega.{arith}
use lib.ListN.{length, take, drop, length-append}
use lib.Seq.{take_at, drop_at}
use lib.Ieee.{Float}
use Rattle.floats.specs.Float.{◌⊕◌}
use Rattle.model.specs.Lent as Lent
use Rattle.model.specs.Lent.{Lent}
use Rattle.model.specs.Model.{Model, model_of}
use Rattle.best_path.specs.Walk.{ended, closed}
use Rattle.best_path.specs.Score.{state_at, sum_to, score}
use Rattle.best_path.proofs.Still.{Agree}
use Rattle.path_promises.specs.BestPath.{used_to, used_at_end, added, ScoreAddsWhatIsUsed}

-- ---- the end of a path: the score ends with what the last state uses there, and in the same way where that is the same
ended_adds : (ends : Bool) (e x : Float) → ended ends e x ≡ foldl ◌⊕◌ x (cond ends (e ∷ []) [])
unfolding ended
ended_adds true e x = refl
ended_adds false e x = refl

end_adds : (m : Model) (j : ℕ) (x : Float) → closed m j x ≡ foldl ◌⊕◌ x (used_at_end m j)
unfolding used_at_end
end_adds m j x = ended_adds m.ends (m.end j) x

end_same : (m h : Model) (j : ℕ) → used_at_end m j ≡ used_at_end h j → (x : Float) → closed m j x ≡ closed h j x
end_same m h j e x = end_adds m j x ∙ ap (foldl ◌⊕◌ x) e ∙ sym (end_adds h j x)

-- ---- the score adds what is used
-- to a list that is not empty
added_more : (xs ys : List Float) → 0 < length xs → added (xs ++ ys) ≡ foldl ◌⊕◌ (added xs) ys
added_more [] ys h = absurd (not-suc-le-zero h)
added_more (x ∷ xs) ys h = foldl-append ◌⊕◌ x xs ys

module _ (m : Model) (p : ℕ → ℕ) where
  used_some : (t : ℕ) → 0 < length (used_to m p t)
  unfolding used_to
  used_some zero = omega arith
  used_some (suc t) = simp length-append (omega (arith, used_some t))

  sum_adds : (t : ℕ) → sum_to m p t ≡ added (used_to m p t)
  unfolding sum_to used_to
  sum_adds zero = refl
  sum_adds (suc t) =
      ap (λ (x : Float). (x ⊕ m.transition (p t) (p (suc t))) ⊕ m.emission (suc t) (p (suc t))) (sum_adds t)
      ∙ sym (added_more (used_to m p t) _ (used_some t))

pub score_adds : ScoreAddsWhatIsUsed
unfolding score
score_adds l path =
    let m = model_of l in
    let n = Lent.T l - 1 in
    end_adds m (state_at path n) (sum_to m (state_at path) n)
    ∙ ap (λ (x : Float). foldl ◌⊕◌ x (used_at_end m (state_at path n))) (sum_adds m (state_at path) n)
    ∙ sym (added_more (used_to m (state_at path) n) _ (used_some m (state_at path) n))

-- ---- the same list is used: the same entries are
-- two lists of equal halves
halves : (a b c d : List Float) → length a ≡ length c → a ++ b ≡ c ++ d → (a ≡ c) × (b ≡ d)
halves a b c d e h = (
  sym (take_at a b (length c) e) ∙ ap (take (length c)) h ∙ take_at c d (length c) refl,
  sym (drop_at a b (length c) e) ∙ ap (drop (length c)) h ∙ drop_at c d (length c) refl,
)

module _ (m h : Model) (p : ℕ → ℕ) where
  used_long : (t : ℕ) → length (used_to m p t) ≡ length (used_to h p t)
  unfolding used_to
  used_long zero = refl
  used_long (suc t) = simp length-append (omega (arith, used_long t))

  -- the entries that p uses up to time t are the same
  record AgreeTo (t : ℕ) : Type 0 where
    initial : m.initial (p 0) ≡ h.initial (p 0)
    transition : (u : ℕ) → u < t → m.transition (p u) (p (suc u)) ≡ h.transition (p u) (p (suc u))
    emission : (u : ℕ) → u ≤ t → m.emission u (p u) ≡ h.emission u (p u)

  agree_to : (t : ℕ) → used_to m p t ≡ used_to h p t → AgreeTo t
  unfolding used_to
  agree_to zero e =
      let f : m.emission 0 (p 0) ≡ h.emission 0 (p 0) = cc in
      record {
        initial = cc;
        transition = λ (u : ℕ) l. absurd (not-suc-le-zero l);
        emission = λ (u : ℕ) l. let z : u ≡ 0 = omega arith in rw z f;
      }
  agree_to (suc t) e =
      let k = halves (used_to m p t) _ (used_to h p t) _ (used_long t) e in
      let a = agree_to t k.0 in
      let s = k.1 in
      let f : m.transition (p t) (p (suc t)) ≡ h.transition (p t) (p (suc t)) = cc s in
      let g : m.emission (suc t) (p (suc t)) ≡ h.emission (suc t) (p (suc t)) = cc s in
      record {
        initial = a.initial;
        transition = λ (u : ℕ) l. ⊎_elim (λ (z : u ≡ t). rw z f) (λ (i : u < t). a.transition u i) (eq-or-lt_of_le (le_of_suc-le-suc l));
        emission = λ (u : ℕ) l.
            ⊎_elim (λ (z : u ≡ suc t). rw z g) (λ (i : u < suc t). a.emission u (le_of_suc-le-suc i)) (eq-or-lt_of_le l);
      }

  pub used_agree : (n : ℕ) → used_to m p n ++ used_at_end m (p n) ≡ used_to h p n ++ used_at_end h (p n) → Agree n p m h
  used_agree n e =
      let k = halves (used_to m p n) _ (used_to h p n) _ (used_long n) e in
      let a = agree_to n k.0 in
      record { initial = a.initial; transition = a.transition; emission = a.emission; end = end_same m h (p n) k.1 }
