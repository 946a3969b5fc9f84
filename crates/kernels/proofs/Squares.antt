-- The thirty squarings of ln: what a turn does to what is left to do.
use mathlib.Core.Path.{◌≡◌, refl, sym, ap, ◌∙◌}
use mathlib.Core.Bool.{Bool, cond}
use Prim.Native.Nat.{ℕ, suc, ◌+◌, ◌-◌, ◌*◌, ◌/◌, ◌^◌, ◌≤◌, ◌<◌}
use native.Mathlib.Nat.{le_of_lt, mul-le-mul_left, pow-suc, add-zero}
use native.Mathlib.Omega.{arith}
use native.Mathlib.Numerals.{add-one}
use borrow.Author.Tests.{le-leb, lt-leb}
use Rattle.kernels.specs.Ln.{squared, bit_of, halved, log_bits}

pub square_lt : (a : ℕ) → a < 2 ^ 32 → a * a < 2 ^ 64
square_lt a h =
    let p : a * a ≤ a * 4294967296 = mul-le-mul_left a (le_of_lt h) in
    omega arith

pub more : (i f d : ℕ) → f < 2 ^ i → d < 2 → f * 2 + d < 2 ^ (i + 1)
more i f d h k =
    let p : 2 ^ (i + 1) ≡ 2 ^ i * 2 = ap (λ (n : ℕ). 2 ^ n) (add-one i) ∙ pow-suc 2 i in
    omega arith

again : (i a f : ℕ) → i < 30 → log_bits (30 - i) a f ≡ log_bits (30 - (i + 1)) (halved (squared a)) (f * 2 + bit_of (squared a))
unfolding log_bits
again i a f h =
    let p : 30 - i ≡ suc (30 - (i + 1)) = omega arith in
    ap (λ (k : ℕ). log_bits k a f) p

pub turn_one : (i a f : ℕ) → i < 30 → 2 ^ 32 ≤ a * a / 2 ^ 31 → log_bits (30 - i) a f ≡ log_bits (30 - (i + 1)) (a * a / 2 ^ 31 / 2) (f * 2 + 1)
turn_one i a f h k =
    again i a f h
    ∙ ap (λ (t : Bool). log_bits (30 - (i + 1)) (cond t (a * a / 2 ^ 31 / 2) (a * a / 2 ^ 31)) (f * 2 + cond t 1 0)) (le-leb (2 ^ 32) (a * a / 2 ^ 31) k)

pub turn_zero : (i a f : ℕ) → i < 30 → a * a / 2 ^ 31 < 2 ^ 32 → log_bits (30 - i) a f ≡ log_bits (30 - (i + 1)) (a * a / 2 ^ 31) (f * 2)
turn_zero i a f h k =
    again i a f h
    ∙ ap (λ (t : Bool). log_bits (30 - (i + 1)) (cond t (a * a / 2 ^ 31 / 2) (a * a / 2 ^ 31)) (f * 2 + cond t 1 0)) (lt-leb (2 ^ 32) (a * a / 2 ^ 31) k)
    ∙ ap (λ (n : ℕ). log_bits (30 - (i + 1)) (a * a / 2 ^ 31) n) (add-zero (f * 2))

pub log_done : (a f : ℕ) → log_bits 0 a f ≡ f
unfolding log_bits
log_done a f = refl

-- the invariant, and what the two arms of a turn do to it
abbrev pub Squared : ℕ → ℕ → ℕ → ℕ → Type 0
Squared m i a f = (i ≤ 30) × (a < 2 ^ 32) × (f < 2 ^ i) × (log_bits (30 - i) a f ≡ log_bits 30 m 0)

module _ (m i a f : ℕ) (k : Squared m i a f) (h : i < 30) where
  pub one_kept : 2 ^ 32 ≤ a * a / 2 ^ 31 → Squared m (i + 1) (a * a / 2 ^ 31 / 2) (f * 2 + 1)
  one_kept b = (omega arith, omega (arith, square_lt a k.1), more i f 1 k.2 (omega arith), sym (turn_one i a f h b) ∙ k.3)

  pub zero_kept : a * a / 2 ^ 31 < 2 ^ 32 → Squared m (i + 1) (a * a / 2 ^ 31) (f * 2)
  zero_kept b = (omega arith, b, omega (arith, more i f 0 k.2 (omega arith)), sym (turn_zero i a f h b) ∙ k.3)
