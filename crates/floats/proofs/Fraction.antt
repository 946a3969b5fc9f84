-- Values as fractions ±m * up e / down e: their order where the sign is clear, what a sign tells, and a product as one rounding of the product.
use mathlib.Core.Path.{◌≡◌, refl, sym, ap, ◌∙◌, subst}
use mathlib.Core.Bool.{Bool, true, false, beq, cond, true≢false}
use Prim.Native.Nat.{ℕ, zero, suc, ◌+◌, ◌*◌, ◌^◌, ◌≤◌, ◌<◌}
use native.Mathlib.Omega.{arith}
use native.Mathlib.Nat.{mul-one, one-mul, zero-mul, mul-pos, mul-mul-mul_comm}
use borrow.Author.Tests.{ltb-false}
use lib.Dec.{T, leb→le, eqb→eq, eqb-suc-zero}
use lib.Pow.{pow_mono}
use lib.IntN.{ℤ, pos, negsuc}
use lib.Ieee.{Float, nan, inf, fin, Format, up, down, round, mul, neg, le, lt, eq, fits, unlike}
use lib.Ieee.Fits.{down_pos, up_pos}
use lib.Ieee.Exact.{HasValue}
use lib.Ieee.Scale.{round_same}
use Rattle.floats.specs.Float.{nought, one}
use Rattle.floats.specs.inner.Sign.{has_sign, nonneg, nonpos, unit}
use Rattle.floats.proofs.Tests.{or_le, le_or}
use Rattle.floats.proofs.Order.{le_le, eq_le, zeros}
use Rattle.floats.proofs.Sub.{neg_anti}
use Rattle.floats.proofs.Sign.{round_sign}

-- ---- the order
module _ (m : ℕ) (e : ℤ) (n : ℕ) (d : ℤ) where
  pub le→cross : T (le (fin false m e) (fin false n d)) → m * up e * down d ≤ n * up d * down e
  unfolding le lt eq
  le→cross h = or_le (m * up e * down d) (n * up d * down e) h

  pub cross→le : m * up e * down d ≤ n * up d * down e → T (le (fin false m e) (fin false n d))
  unfolding le lt eq
  cross→le h = le_or (m * up e * down d) (n * up d * down e) h

-- ---- a sign, and the values from +0.0 to 1.0, as places in the order
pub nonneg_ge : (x : Float) → T (nonneg x) → T (le nought x)
nonneg_ge nan h = absurd h
nonneg_ge (inf true) h = absurd h
nonneg_ge (inf false) h = unfold le lt in tt
nonneg_ge (fin true m e) h = absurd h
nonneg_ge (fin false m e) h = cross→le 0 (pos 0) m e (omega (arith, zero-mul (down e)))

pub nonpos_le : (x : Float) → T (nonpos x) → T (le x nought)
nonpos_le nan h = absurd h
nonpos_le (inf true) h = unfold le lt in tt
nonpos_le (inf false) h = absurd h
nonpos_le (fin true m e) h =
    le_le (fin true m e) (fin true 0 (pos 0)) nought (mirrored (neg_anti nought (fin false m e) (nonneg_ge (fin false m e) tt)))
    (eq_le (fin true 0 (pos 0)) nought (zeros true false))
  where
    mirrored : T (le (neg (fin false m e)) (neg nought)) → T (le (fin true m e) (fin true 0 (pos 0)))
    mirrored k = unfold neg in k
nonpos_le (fin false m e) h = absurd h

pub unit_nonneg : (x : Float) → T (unit x) → T (nonneg x)
unit_nonneg nan h = absurd h
unit_nonneg (inf s) h = absurd h
unit_nonneg (fin true m e) h = absurd h
unit_nonneg (fin false m e) h = tt

-- so ln takes it
pub unit_domain : (x : Float) → T (unit x) → T (le nought x)
unit_domain x h = nonneg_ge x (unit_nonneg x h)

pub unit_le_one : (x : Float) → T (unit x) → T (le x one)
unit_le_one nan h = absurd h
unit_le_one (inf s) h = absurd h
unit_le_one (fin true m e) h = absurd h
unit_le_one (fin false m e) h = let k = leb→le (m * up e) (down e) h in cross→le m e 1 (pos 0) (omega (arith, mul-one (m * up e), one-mul (down e)))

-- ---- a value of the format that is at most 0, and not below it, is a zero of either sign
double : (k : ℕ) → 2 ^ suc k ≡ 1 → ⊥
double k h = let p : 2 ^ 1 ≤ 2 ^ suc k = pow_mono {i = 1} {j = suc k} (omega arith) in omega arith

zero_place : (f : Format) (s : Bool) (e : ℤ) → T (fits f (fin s 0 e)) → e ≡ pos 0
unfolding fits
zero_place f s (pos zero) h = refl
zero_place f s (pos (suc k)) h = absurd (double k (sym (mul-one (2 ^ suc k)) ∙ eqb→eq (2 ^ suc k * 1) 1 h))
zero_place f s (negsuc k) h = absurd (double k (sym (one-mul (2 ^ suc k)) ∙ eqb→eq (1 * 2 ^ suc k) 1 h))

no_digits : (f : Format) (s : Bool) (m : ℕ) (e : ℤ) → T (fits f (fin s m e)) → m * up e * 1 ≤ 0 * down e → (t : Bool) × (fin s m e ≡ fin t 0 (pos 0))
no_digits f s zero e h k = (s, ap (fin s 0) (zero_place f s e h))
no_digits f s (suc m) e h k =
    let p : 0 < suc m * up e = mul-pos (omega arith) (up_pos e) in
    absurd (never (suc m * up e) (0 * down e) p (zero-mul (down e)) k)
  where
    never : (a z : ℕ) → 0 < a → z ≡ 0 → a * 1 ≤ z → ⊥
    never a z p e k = omega arith

pub zero_is : (f : Format) (x : Float) → T (fits f x) → T (le x nought) → lt x nought ≡ false → (s : Bool) × (x ≡ fin s 0 (pos 0))
unfolding le lt eq
zero_is f nan h l k = absurd l
zero_is f (inf true) h l k = absurd (true≢false k)
zero_is f (inf false) h l k = absurd l
zero_is f (fin true m e) h l k = let z = ltb-false 0 (m * up e * 1 + 0 * down e) k in no_digits f true m e h (omega arith)
zero_is f (fin false m e) h l k = no_digits f false m e h (le→cross m e 0 (pos 0) (unfold le lt eq in l))

-- ---- products
-- of two numbers that are ±a / c and ±b / d
pub mul_value : (f : Format) (x y : Float) (s t : Bool) (a c b d : ℕ) → 0 < c → 0 < d → HasValue x s a c → HasValue y t b d
    → mul f x y ≡ round f (unlike s t) (a * b) (c * d)
unfolding mul
mul_value f nan y s t a c b d C D h k = absurd h
mul_value f (inf u) y s t a c b d C D h k = absurd h
mul_value f (fin u m e) nan s t a c b d C D h k = absurd k
mul_value f (fin u m e) (inf v) s t a c b d C D h k = absurd k
mul_value f (fin u m e) (fin v n g) s t a c b d C D h k =
    ap (λ (z : Bool). round f (unlike z v) (m * up e * (n * up g)) (down e * down g)) h.0
    ∙ ap (λ (z : Bool). round f (unlike s z) (m * up e * (n * up g)) (down e * down g)) k.0
    ∙ round_same f (unlike s t) (m * up e * (n * up g)) (down e * down g) (a * b) (c * d) (mul-pos (down_pos e) (down_pos g)) (mul-pos C D)
    (mul-mul-mul_comm (m * up e) (n * up g) c d
    ∙ ap (λ (z : ℕ). z * (n * up g * d)) h.1
    ∙ ap (λ (z : ℕ). a * down e * z) k.1
    ∙ mul-mul-mul_comm a (down e) b (down g))

-- a number above 0 as a factor keeps the sign, and makes no NaN
pub times_sign : (f : Format) (s : Bool) (x : Float) (n : ℕ) (d : ℤ) → T (has_sign s x) → T (has_sign s (mul f x (fin false (suc n) d)))
unfolding mul
times_sign f s nan n d h = h
times_sign f s (inf t) n d h = subst (λ (z : Bool). T (has_sign s (cond z nan (inf (unlike t false))))) (sym (eqb-suc-zero n)) (kept s t h)
  where
    kept : (s t : Bool) → T (beq s t) → T (beq s (unlike t false))
    kept true true h = h
    kept true false h = h
    kept false true h = h
    kept false false h = h
times_sign f true (fin true m e) n d h = round_sign f true (m * up e * (suc n * up d)) (down e * down d)
times_sign f true (fin false m e) n d h = absurd h
times_sign f false (fin true m e) n d h = absurd h
times_sign f false (fin false m e) n d h = round_sign f false (m * up e * (suc n * up d)) (down e * down d)
