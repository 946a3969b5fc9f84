-- How many binary digits a number has, and ln's mantissa by those digits.
use mathlib.Core.Path.{◌≡◌, refl, sym, ap, ◌∙◌, subst}
use Prim.Native.Nat.{ℕ, zero, suc, ◌+◌, ◌-◌, ◌*◌, ◌/◌, ◌%◌, ◌^◌, ◌≤◌, ◌<◌}
use native.Mathlib.Nat.{le_antisymm, le_trans, le_of_eq, lt_of_not-le, lt_of_lt_of_le, lt_irrefl, mul-le-mul_right, mul_assoc}
use native.Mathlib.Omega.{arith}
use lib.Pow.{pow-add, pow_pos, pow_mono, shl_lt, shl_exact}
use lib.Count.{count_leading_zeros, leading_top}
use lib.Ieee.{size}
use lib.Ieee.Digits.{size-lt, size-le, size_reaches}
use lib.Ieee.Nearest.{div_same}
use Rattle.kernels.specs.Ln.{mantissa}

-- a number's size is one more than its highest place
pub size_is : (n j : ℕ) → 2 ^ j ≤ n → n < 2 ^ suc j → size n ≡ suc j
size_is n j lo hi =
    le_antisymm (size-le n (suc j) hi)
    (lt_of_not-le (λ (h : size n ≤ j). lt_irrefl n (lt_of_lt_of_le (size-lt n) (le_trans (pow_mono h) lo))))

-- and a number above 0 has a highest place
pub size_low : (n : ℕ) → 0 < n → (j : ℕ) × (size n ≡ suc j) × (2 ^ j ≤ n) × (n < 2 ^ suc j)
size_low n h = go (size n) refl
  where
    go : (z : ℕ) → size n ≡ z → (j : ℕ) × (size n ≡ suc j) × (2 ^ j ≤ n) × (n < 2 ^ suc j)
    go zero e = absurd (below (subst (λ (k : ℕ). n < 2 ^ k) e (size-lt n)))
      where
        below : n < 1 → ⊥
        below k = omega arith
    go (suc j) e = (j, e, size_reaches n j (subst (λ (k : ℕ). j < k) (sym e) (omega arith)), subst (λ (k : ℕ). n < 2 ^ k) e (size-lt n))

pub size_pos : (n : ℕ) → 0 < n → 0 < size n
size_pos n h = let l = size_low n h in omega (arith, l.1)

-- a shift adds to the size
pub size_shifted : (q p : ℕ) → 0 < q → size (q * 2 ^ p) ≡ p + size q
size_shifted q p h =
    let l = size_low q h in
    let j = l.0 in
    let e : suc j + p ≡ suc (j + p) = omega arith in
    size_is (q * 2 ^ p) (j + p)
    (le_trans (le_of_eq (pow-add 2 j p)) (mul-le-mul_right (2 ^ p) l.2))
    (subst (λ (k : ℕ). q * 2 ^ p < 2 ^ k) e (shl_lt (suc j) p l.3))
    ∙ tidy j (size q) l.1
  where
    tidy : (j z : ℕ) → z ≡ suc j → suc (j + p) ≡ p + z
    tidy j z k = omega arith

pub leading_size : (q : ℕ) → 0 < q → q < 2 ^ 64 → (64 - count_leading_zeros 64 q ≡ size q) × (0 < 64 - count_leading_zeros 64 q)
leading_size q h k =
    let t = leading_top 64 q h k in
    let e : size q ≡ suc t.0 = size_is q t.0 t.2 t.3 in
    go (count_leading_zeros 64 q) t.0 (size q) t.1 e
  where
    go : (z j s : ℕ) → z + suc j ≡ 64 → s ≡ suc j → (64 - z ≡ s) × (0 < 64 - z)
    go z j s a b = (omega arith, omega arith)

-- the mantissa is that of the digits, wherever they stand
pub mantissa_is : (q p : ℕ) → 0 < q → size q ≤ 64 → q * 2 ^ (64 - size q) % 2 ^ 64 / 2 ^ 32 ≡ mantissa (q * 2 ^ p)
mantissa_is q p h k =
    let z = 64 - size q in
    let o = size_pos q h in
    let a : size q + z ≡ 64 = omega arith in
    let b : z + (p + size q - 1) ≡ p + 63 = omega arith in
    ap (λ (n : ℕ). n / 2 ^ 32) (shl_exact (size q) z 64 (size-lt q) (le_of_eq a))
    ∙ div_same (q * 2 ^ z) (2 ^ 32) (q * 2 ^ p * 2 ^ 31) (2 ^ (size (q * 2 ^ p) - 1)) (pow_pos 32) (pow_pos (size (q * 2 ^ p) - 1))
    (ap (λ (n : ℕ). q * 2 ^ z * 2 ^ (n - 1)) (size_shifted q p h)
    ∙ mul_assoc q (2 ^ z) (2 ^ (p + size q - 1))
    ∙ ap (λ (n : ℕ). q * n) (sym (pow-add 2 z (p + size q - 1)) ∙ ap (λ (n : ℕ). 2 ^ n) b ∙ pow-add 2 p 63)
    ∙ sym (mul_assoc q (2 ^ p) (2 ^ 63))
    ∙ sym (mul_assoc (q * 2 ^ p) (2 ^ 31) (2 ^ 32)))
