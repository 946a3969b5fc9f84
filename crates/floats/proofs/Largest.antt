-- The largest finite f64: every f64 that is neither NaN nor plus infinity is at most it.
use Prim.Native.Nat.{ℕ, zero, suc, ◌+◌, ◌-◌, ◌*◌, ◌^◌, ◌≤◌, ◌<◌}
use native.Mathlib.Nat.{le_trans, le_of_eq, mul-one, zero-mul, mul_assoc, mul-le-mul, lt_of_not-le, not-le_of_lt, mul-le-mul_right}
use native.Mathlib.Omega.{arith}
use mathlib.Core.Path.{◌≡◌, sym, ap, ◌∙◌}
use mathlib.Core.Bool.{Bool, true, false, not}
use lib.Dec.{T, leb, leb→le, nleb→lt}
use lib.IntN.{ℤ, pos, negsuc}
use lib.Pow.{pow-add, pow_mono, pow_pos}
use lib.Ieee.{Float, nan, inf, fin, binary64, up, down, le, lt, eq, fits}
use Rattle.floats.specs.Float.{nought, capped}
use Rattle.floats.proofs.Order.{le_le}
use Rattle.floats.proofs.Round.{fit_of}
use Rattle.floats.proofs.Fraction.{cross→le, nonneg_ge, nonpos_le}

-- (2 ^ 53 - 1) * 2 ^ 971
abbrev pub largest : Float
largest = fin false 9007199254740991 (pos 971)

-- ---- a whole number m * 2 ^ k with at most P digits in m, below 2 ^ (P + t), is at most (2 ^ P - 1) * 2 ^ t
below : {m n : ℕ} → m < n → m ≤ n - 1
below h = omega arith

module _ (m P t : ℕ) where
  small : (k : ℕ) → m < 2 ^ P → k ≤ t → m * 2 ^ k ≤ (2 ^ P - 1) * 2 ^ t
  small k h l = mul-le-mul (below h) (pow_mono l)

  large : (k : ℕ) → t < k → m * 2 ^ k < 2 ^ (P + t) → m * 2 ^ k ≤ (2 ^ P - 1) * 2 ^ t
  large k l h =
      let split : 2 ^ k ≡ 2 ^ (k - t) * 2 ^ t = ap (λ (i : ℕ). 2 ^ i) (apart k t l) ∙ pow-add 2 (k - t) t in
      let whole : m * 2 ^ k ≡ m * 2 ^ (k - t) * 2 ^ t = ap (λ (i : ℕ). m * i) split ∙ sym (mul_assoc m (2 ^ (k - t)) (2 ^ t)) in
      let less : m * 2 ^ (k - t) < 2 ^ P
      = lt_of_not-le (λ (g : 2 ^ P ≤ m * 2 ^ (k - t)). not-le_of_lt h
      (le_trans (le_of_eq (pow-add 2 P t)) (le_trans (mul-le-mul_right (2 ^ t) g) (le_of_eq (sym whole))))) in
      le_trans (le_of_eq whole) (mul-le-mul_right (2 ^ t) (below less))
    where
      apart : (k t : ℕ) → t < k → k ≡ k - t + t
      apart k t l = omega arith

  either : (k : ℕ) → m < 2 ^ P → m * 2 ^ k < 2 ^ (P + t) → m * 2 ^ k ≤ (2 ^ P - 1) * 2 ^ t
  either k h g = go (leb k t) (leb→le k t) (nleb→lt k t)
    where
      go : (b : Bool) → (T b → k ≤ t) → (T (not b) → t < k) → m * 2 ^ k ≤ (2 ^ P - 1) * 2 ^ t
      go true i j = small k h (i tt)
      go false i j = large k (j tt) g

grown : (m n a b : ℕ) → m ≤ n → 0 < a → 0 < b → m ≤ n * a * b
grown m n a b h i j =
    let one_more : m * 1 ≤ n * a * b = mul-le-mul (le_trans (le_of_eq (sym (mul-one m))) (mul-le-mul h i)) j in
    le_trans (le_of_eq (sym (mul-one m))) one_more

below_largest : (m : ℕ) (e : ℤ) → m < 2 ^ 53 → m * up e < 2 ^ 1024 * down e → m * up e * 1 ≤ 9007199254740991 * 2 ^ 971 * down e
below_largest m (pos k) h g = le_trans (le_of_eq (mul-one (m * 2 ^ k))) (either m 53 971 k h g)
below_largest m (negsuc k) h g =
    le_trans (le_of_eq (mul-one (m * 1) ∙ mul-one m))
    (grown m 9007199254740991 (2 ^ 971) (2 ^ suc k) (below h) (pow_pos 971) (pow_pos (suc k)))

pub capped_largest : (x : Float) → T (capped x) → T (fits binary64 x) → T (le x largest)
capped_largest nan c h = absurd c
capped_largest (inf true) c h = unfold le lt eq in tt
capped_largest (inf false) c h = absurd c
capped_largest (fin true m e) c h = le_le (fin true m e) nought largest (nonpos_le (fin true m e) tt) (nonneg_ge largest tt)
capped_largest (fin false zero e) c h =
    le_le (fin false 0 e) nought largest (cross→le 0 e 0 (pos 0) (omega (arith, zero-mul (up e), zero-mul (down e)))) (nonneg_ge largest tt)
capped_largest (fin false (suc m) e) c h =
    let fit = fit_of binary64 false m e h in
    cross→le (suc m) e 9007199254740991 (pos 971) (below_largest (suc m) e fit.digits fit.high)
