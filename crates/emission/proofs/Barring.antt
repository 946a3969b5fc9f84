-- What barring a state at a sample does to the emissions: minus infinity there, and elsewhere nothing; and that `bar` does it in memory.
use Rattle.std.proofs.Common.{◌≡◌, ℕ, ◌+◌, ◌<◌, Bool, true, false, cond, ◌&&◌, eqb, ltb, List, ◌++◌, length, set, drop}
use Rattle.std.proofs.Common.{refl, sym, ap, ap₂, ◌∙◌, arith, length-set}
use Rattle.std.proofs.lemmas.Bool.Decides.{nat_tests}
use Rattle.std.proofs.lemmas.Grind.{elements}
use Rattle.std.proofs.Math.Seq.{ext_get_or, set-append_left}
use Rattle.std.specs.Prelude.{Float}
use Rattle.floats.specs.Float.{minus_infinity}
use Rattle.lists.specs.Lists.{tab, over}
use Rattle.lists.proofs.Over.{length_tab, get_or_tab, tab_same}
use Rattle.emission.specs.Barring.{barring}

module _ (u d : ℕ) (e : ℕ → ℕ → Float) where
  pub barring_off : (t j : ℕ) → ((t ≡ u) × (j ≡ d) → ⊥) → barring u d e t j ≡ e t j
  unfolding barring
  barring_off t j h = grind (arith, nat_tests)

  pub barring_on : barring u d e u d ≡ minus_infinity
  unfolding barring
  barring_on = grind (arith, nat_tests)

-- ---- one place of a front is stored anew
module _ {A : Type 0} (S d : ℕ) (f g : ℕ → A) (x : A) (within : d < S) (there : g d ≡ x) (else : (j : ℕ) → (j ≡ d → ⊥) → g j ≡ f j) where
  set_tab : set (tab S f) d x ≡ tab S g
  set_tab =
      ext_get_or x (set (tab S f) d x) (tab S g) (length-set (tab S f) d x ∙ length_tab S f ∙ sym (length_tab S g))
      (λ (j : ℕ) h. grind (arith, elements, length_tab {A = A}, get_or_tab {A = A}, else j))

  set_front : (l : List A) → set (over 0 (tab S f) l) d x ≡ over 0 (tab S g) l
  unfolding over
  set_front l =
      set-append_left (tab S f) (drop (0 + length (tab S f)) l) d x (rw length_tab within)
      ∙ ap₂ (λ (p : List A) (n : ℕ). p ++ drop (0 + n) l) set_tab (length_tab S f ∙ sym (length_tab S g))

-- ---- what `bar` leaves of laid emissions
module _ (S u d t : ℕ) (e : ℕ → ℕ → Float) (l : List Float) where
  -- what is stored, where b says whether a state of the row is barred
  stored : (b : Bool) → (eqb t u && ltb d S) ≡ b
      → cond b (set (over 0 (tab S (e t)) l) d minus_infinity) (over 0 (tab S (e t)) l) ≡ over 0 (tab S (barring u d e t)) l
  stored true h =
      let here : t ≡ u = grind (arith, nat_tests) in
      set_front S d (e t) (barring u d e t) minus_infinity (grind (arith, nat_tests)) (rw here (barring_on u d e))
      (λ (j : ℕ) k. barring_off u d e t j (λ b. k b.1)) l
  stored false h =
      ap (λ (p : List Float). over 0 p l) (tab_same S _ _ (λ (j : ℕ) i. sym (barring_off u d e t j (λ b. grind (arith, nat_tests)))))

  pub bar_laid : (laid new : List Float) → laid ≡ over 0 (tab S (e t)) l
      → new ≡ cond (eqb t u && ltb d S) (set laid d minus_infinity) laid → new ≡ over 0 (tab S (barring u d e t)) l
  bar_laid laid new f g = rw (g, f) (stored (eqb t u && ltb d S) refl)
