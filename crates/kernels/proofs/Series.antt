-- The loop of ln_1m_exp's series: what is left to do from k on.
use mathlib.Core.Path.{◌≡◌, refl, sym, ap, ◌∙◌}
use Prim.Native.Nat.{ℕ, zero, suc, ◌-◌, ◌≤◌, ◌<◌}
use native.Mathlib.Omega.{arith}
use lib.Ieee.{Float}
use Rattle.kernels.specs.Ln1m.{horner_step, horner}

-- one turn, at a k from 2 up
pub turn : (q h : Float) (k : ℕ) → 2 ≤ k → horner k q h ≡ horner (k - 1) q (horner_step q k h)
unfolding horner
turn q h k lo =
    let e : k ≡ suc (suc (k - 2)) = omega arith in
    let f : suc (k - 2) ≡ k - 1 = omega arith in
    ap (λ (n : ℕ). horner n q h) e ∙ ap (λ (n : ℕ). horner (suc (k - 2)) q (horner_step q n h)) (sym e) ∙ ap (λ (n : ℕ). horner n q (horner_step q k h)) f

-- below 2 there is nothing to do
pub turned : (q h : Float) (k : ℕ) → k < 2 → horner k q h ≡ h
unfolding horner
turned q h zero l = refl
turned q h (suc zero) l = refl
turned q h (suc (suc k)) l = absurd (never k l)
  where
    never : (n : ℕ) → suc (suc n) < 2 → ⊥
    never n m = omega arith
