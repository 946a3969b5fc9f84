-- Laws of ln: never a NaN; at least +0.0 from 1 up, at most 0 up to 1; ln(1) = 0, and minus infinity at either zero;
-- at most 64 up to 2^53; and x = m·2^e, (e·2^30 + F)·2^-30 are exact.
use mathlib.Core.Path.{◌≡◌, refl, sym, ap, ◌∙◌, subst}
use mathlib.Core.Bool.{Bool, true, false, not, cond, ◌||◌, ◌&&◌}
use mathlib.Core.Logic.{◌⊎◌, inl, inr}
use Prim.Native.Nat.{ℕ, zero, suc, ◌+◌, ◌-◌, ◌*◌, ◌/◌, ◌^◌, ◌≤◌, ◌<◌}
use native.Mathlib.Nat.{le_trans, le_of_eq, lt_of_lt_of_le, lt_of_le_of_lt, lt_of_not-le, lt_irrefl, mul-one, one-mul, mul_comm}
use native.Mathlib.Nat.{mul_assoc, mul_right_comm, mul-pos, mul-le-mul_right, mul-lt-mul_of_pos_right, div-le_of_le-mul}
use native.Mathlib.Nat.{le-div_iff_mul-le, div-lt_iff_lt-mul, eq-or-lt_of_le, zero-mul, pow-suc, add-zero}
use native.Mathlib.Omega.{arith}
use borrow.Author.Tests.{le-ltb, lt-ltb}
use lib.Dec.{T, eqb, leb, eqb→eq, leb→le, nleb→lt, lit<, lit≤}
use lib.IntN.{ℤ, pos, negsuc, neg_ℤ, ◌+ℤ◌, ◌-ℤ◌}
use lib.Signed.{mag}
use lib.Pow.{pow_pos, pow_mono, pow-add, pow-lt}
use lib.Ieee.{Float, nan, inf, fin, binary64, up, down, round, size, le, lt, eq, mul, is_nan, fits}
use lib.Ieee.Fits.{and_r, down_pos}
use lib.Ieee.Digits.{size-lt, size-le}
use lib.Ieee.Exact.{HasValue, round_exact}
use lib.Ieee.Order.{round_mono}
use Rattle.floats.specs.Float.{nought, one, minus_infinity, is_number}
use Rattle.floats.specs.inner.Sign.{has_sign, nonneg, nonpos, unit}
use Rattle.answer.specs.Answer.{done}
use Rattle.floats.proofs.Order.{le_le}
use Rattle.floats.proofs.Round.{fit_in}
use Rattle.floats.proofs.Keys.{steps}
use Rattle.floats.proofs.Sign.{round_nonneg, round_nonpos, sign_num}
use Rattle.floats.proofs.Fraction.{le→cross, nonpos_le, times_sign}
use Rattle.kernels.specs.Binary.{units_of, dyadic}
use Rattle.kernels.specs.Ln.{mantissa, squared, bit_of, halved, log_bits, joined, ln_fixed, ln2, ln_from, ln_of}
use Rattle.kernels.specs.Calls.{ln_answer}
use Rattle.kernels.proofs.Size.{size_low}
use Rattle.kernels.proofs.Exponent.{joined_small}
use Rattle.kernels.proofs.LnParts.{ln2_is, other_ln}

-- ---- F is below 2^30
bit_lt : (b : ℕ) → bit_of b < 2
bit_lt b = go (leb (2 ^ 32) b)
  where
    go : (t : Bool) → cond t 1 0 < 2
    go true = omega arith
    go false = omega arith

bits_lt : (k j a f : ℕ) → f < 2 ^ j → log_bits k a f < 2 ^ (j + k)
unfolding log_bits
bits_lt zero j a f h = subst (λ (n : ℕ). f < 2 ^ n) (sym (add-zero j)) h
bits_lt (suc k) j a f h =
    let n : suc j + k ≡ j + suc k = omega arith in
    subst (λ (n : ℕ). log_bits k (halved (squared a)) (f * 2 + bit_of (squared a)) < 2 ^ n) n
    (bits_lt k (suc j) (halved (squared a)) (f * 2 + bit_of (squared a)) (go (bit_of (squared a)) (2 ^ j) (2 ^ suc j) (bit_lt (squared a)) h (pow-suc 2 j)))
  where
    go : (d p q : ℕ) → d < 2 → f < p → q ≡ p * 2 → f * 2 + d < q
    go d p q a b c = omega arith

pub log_lt : (m : ℕ) → log_bits 30 m 0 < 2 ^ 30
log_lt m = bits_lt 30 0 m 0 (omega arith)

-- ---- the sign of e·2^30 + F is that of e
joined_pos : (s f : ℕ) → 1075 ≤ s → joined (pos s -ℤ pos 1075) f ≡ pos ((s - 1075) * 2 ^ 30 + f)
joined_pos s f h = ap (λ (t : Bool). joined (cond t (negsuc (1075 - suc s)) (pos (s - 1075))) f) (le-ltb s 1075 h)

negative : ℤ → Bool
negative (pos n) = false
negative (negsuc n) = true

below : (n f : ℕ) → f < n → T (negative (neg_ℤ (pos n) +ℤ pos f))
unfolding negative
below zero f h = absurd (never h)
  where
    never : f < 0 → ⊥
    never h = omega arith
below (suc n) f h = subst (λ (t : Bool). T (negative (cond t (negsuc (suc n - suc f)) (pos (f - suc n))))) (sym (lt-ltb f (suc n) h)) tt

joined_neg : (s f : ℕ) → s < 1075 → f < 2 ^ 30 → T (negative (joined (pos s -ℤ pos 1075) f))
joined_neg s f h k =
    subst (λ (t : Bool). T (negative (joined (cond t (negsuc (1075 - suc s)) (pos (s - 1075))) f))) (sym (lt-ltb s 1075 h))
    (below (suc (1075 - suc s) * 2 ^ 30) f (go (1075 - suc s)))
  where
    go : (d : ℕ) → f < suc d * 1073741824
    go d = omega arith

dyadic_nonpos : (z : ℤ) (k : ℕ) → T (negative z) → T (nonpos (dyadic z k))
unfolding negative
dyadic_nonpos (pos n) k h = absurd h
dyadic_nonpos (negsuc n) k h = round_nonpos (suc n) (2 ^ k)

-- ---- the sign of n units' logarithm: 1 is 2^1074 units
ln2_sign : (s : Bool) (x : Float) → T (has_sign s x) → T (has_sign s (mul binary64 x ln2))
ln2_sign s x h = subst (λ (c : Float). T (has_sign s (mul binary64 x c))) (sym ln2_is) (times_sign binary64 s x 6243314768165358 (negsuc 52) h)

size_from : (n : ℕ) → 2 ^ 1074 ≤ n → 1075 ≤ size n
size_from n h = lt_of_not-le (λ (g : size n ≤ 1074). lt_irrefl n (lt_of_lt_of_le (size-lt n) (le_trans (pow_mono g) h)))

-- from 1 up, with no sign: (e·2^30 + F)·2^-30
fixed_pos : (n : ℕ) → 2 ^ 1074 ≤ n → ln_fixed n ≡ pos ((size n - 1075) * 2 ^ 30 + log_bits 30 (mantissa n) 0)
fixed_pos n h = joined_pos (size n) (log_bits 30 (mantissa n) 0) (size_from n h)

from_nonneg : (n : ℕ) → 2 ^ 1074 ≤ n → T (nonneg (ln_from n))
unfolding ln_from
from_nonneg n h =
    let q = (size n - 1075) * 2 ^ 30 + log_bits 30 (mantissa n) 0 in
    subst (λ (z : ℤ). T (nonneg (mul binary64 (dyadic z 30) ln2))) (sym (fixed_pos n h)) (ln2_sign false (dyadic (pos q) 30) (round_nonneg q (2 ^ 30)))

from_nonpos : (n : ℕ) → n < 2 ^ 1074 → T (nonpos (ln_from n))
unfolding ln_from
from_nonpos n h =
    ln2_sign true (dyadic (ln_fixed n) 30) (dyadic_nonpos (ln_fixed n) 30
    (joined_neg (size n) (log_bits 30 (mantissa n) 0) (go (size n) (size-le n 1074 h)) (log_lt (mantissa n))))
  where
    go : (s : ℕ) → s ≤ 1074 → s < 1075
    go s k = omega arith

from_one : ln_from (2 ^ 1074) ≡ nought
unfolding ln_from log_bits size mul round ln2
from_one = refl

-- ---- x as units
units_from : (m : ℕ) (e : ℤ) → T (le one (fin false m e)) → 2 ^ 1074 ≤ units_of (fin false m e)
units_from m e h =
    let a : 1 * down e ≤ m * up e * 1 = le→cross 1 (pos 0) m e h in
    let b : down e ≤ m * up e = omega (arith, one-mul (down e), mul-one (m * up e)) in
    (le-div_iff_mul-le (down_pos e)).1 (le_trans (le_of_eq (mul_comm (2 ^ 1074) (down e))) (mul-le-mul_right (2 ^ 1074) b))

units_to : (m : ℕ) (e : ℤ) → T (unit (fin false m e)) → units_of (fin false m e) ≤ 2 ^ 1074
units_to m e h = div-le_of_le-mul (down e) (mul-le-mul_right (2 ^ 1074) (leb→le (m * up e) (down e) h))

signed_below : (m : ℕ) (e : ℤ) → T (le one (fin true m e)) → ⊥
unfolding le lt eq
signed_below m e h = go (down e) (m * up e * 1) (down_pos e) (leftmost (1 * down e) (m * up e * 1) h)
  where
    leftmost : (a b : ℕ) → T (false || (eqb a b && (false || eqb a 0))) → a ≡ 0
    leftmost a b t = eqb→eq a 0 (and_r (eqb a b) (eqb a 0) t)

    go : (d b : ℕ) → 0 < d → 1 * d ≡ 0 → ⊥
    go d b p z = omega arith

-- ---- the laws of the sign
-- from 1 up
pub ln_nonneg : (x : Float) → T (le one x) → T (nonneg (ln_of x))
unfolding ln_of
ln_nonneg nan h = absurd (unfold le lt eq in h)
ln_nonneg (inf true) h = absurd (unfold le lt eq in h)
ln_nonneg (inf false) h = tt
ln_nonneg (fin true m e) h = absurd (signed_below m e h)
ln_nonneg (fin false zero e) h =
    let a : 1 * down e ≤ 0 * up e * 1 = le→cross 1 (pos 0) 0 e h in
    absurd (go (down e) (up e) (down_pos e) a)
  where
    go : (d u : ℕ) → 0 < d → 1 * d ≤ 0 * u * 1 → ⊥
    go d u p a = omega (arith, zero-mul u)
ln_nonneg (fin false (suc m) e) h = from_nonneg (units_of (fin false (suc m) e)) (units_from (suc m) e h)

-- up to 1: the sign is set, or it is +0.0
ln_sign : (x : Float) → T (unit x) → T (nonpos (ln_of x)) ⊎ (ln_of x ≡ nought)
unfolding ln_of
ln_sign nan h = absurd h
ln_sign (inf s) h = absurd h
ln_sign (fin true m e) h = absurd h
ln_sign (fin false zero e) h = inl tt
ln_sign (fin false (suc m) e) h =
    let n = units_of (fin false (suc m) e) in
    elim (eq-or-lt_of_le (units_to (suc m) e h)) [ inl q ↦ inr (ap ln_from q ∙ from_one) | inr q ↦ inl (from_nonpos n q) ]

pub ln_nonpos : (x : Float) → T (unit x) → T (le (ln_of x) nought)
ln_nonpos x h = elim (ln_sign x h) [ inl s ↦ nonpos_le (ln_of x) s | inr e ↦ subst (λ (y : Float). T (le y nought)) (sym e) (unfold le lt eq in tt) ]

from_number : (n : ℕ) → T (is_number (ln_from n))
from_number n = go (leb (2 ^ 1074) n) (leb→le (2 ^ 1074) n) (nleb→lt (2 ^ 1074) n)
  where
    go : (t : Bool) → (T t → 2 ^ 1074 ≤ n) → (T (not t) → n < 2 ^ 1074) → T (is_number (ln_from n))
    go true f g = sign_num false (ln_from n) (from_nonneg n (f tt))
    go false f g = sign_num true (ln_from n) (from_nonpos n (g tt))

-- whatever x
pub ln_number : (x : Float) → T (is_number (ln_of x))
unfolding ln_of
ln_number nan = unfold is_nan in tt
ln_number (inf s) = unfold is_nan in tt
ln_number (fin true m e) = unfold is_nan in tt
ln_number (fin false zero e) = unfold is_nan in tt
ln_number (fin false (suc m) e) = from_number (units_of (fin false (suc m) e))

-- ---- at 1 and at 0
pub ln_one : ln_of one ≡ nought
unfolding ln_of ln_from log_bits size mul round ln2
ln_one = refl

pub ln_zero_lem : (s : Bool) (e : ℤ) → ln_of (fin s 0 e) ≡ minus_infinity
unfolding ln_of
ln_zero_lem true e = refl
ln_zero_lem false e = refl

-- both zeros are in the domain
pub ln_zero_done : (s : Bool) → ln_answer (fin s 0 (pos 0)) ≡ done minus_infinity
unfolding ln_of le lt eq
ln_zero_done true = refl
ln_zero_done false = refl

-- and outside of the domain, at a NaN and below 0
pub ln_bottom : (x : Float) → lt nought x ≡ false → ln_of x ≡ minus_infinity
ln_bottom x h = sym (other_ln x h)

-- ---- up to 2^53 it is at most 64
abbrev pub two53 : Float
two53 = fin false 1 (pos 53)

abbrev pub sixty_four : Float
sixty_four = fin false 1 (pos 6)

rounded_64 : round binary64 false 64 1 ≡ sixty_four
unfolding round size
rounded_64 = refl

times_small : (x : Float) → T (nonneg x) → T (le x sixty_four) → T (le (mul binary64 x (fin false 6243314768165359 (negsuc 52))) sixty_four)
unfolding mul
times_small nan n h = absurd n
times_small (inf true) n h = absurd n
times_small (inf false) n h = absurd (unfold le lt eq in h)
times_small (fin true m e) n h = absurd n
times_small (fin false m e) n h =
    le_le (round binary64 false (m * up e * 6243314768165359) (down e * 2 ^ 53)) (round binary64 false (64 * 6243314768165359) (2 ^ 53)) sixty_four
    (round_mono binary64 (m * up e * 6243314768165359) (down e * 2 ^ 53) (64 * 6243314768165359) (2 ^ 53) (mul-pos (down_pos e) (pow_pos 53)) (pow_pos 53)
    (step (m * up e) (down e) 6243314768165359 (2 ^ 53) (le_trans (le_of_eq (sym (mul-one (m * up e)))) (le→cross m e 1 (pos 6) h))))
    small
  where
    step : (a d l p : ℕ) → a ≤ 64 * d → a * l * p ≤ 64 * l * (d * p)
    step a d l p g = le_trans (mul-le-mul_right p (mul-le-mul_right l g)) (le_of_eq (ap (λ (z : ℕ). z * p) (mul_right_comm 64 d l) ∙ mul_assoc (64 * l) d p))

    small : T (le (round binary64 false (64 * 6243314768165359) (2 ^ 53)) sixty_four)
    small = unfold round size le lt in tt

from_small : (n : ℕ) → 2 ^ 1074 ≤ n → n < 2 ^ 1128 → T (le (ln_from n) sixty_four)
unfolding ln_from
from_small n h g =
    let q = (size n - 1075) * 2 ^ 30 + log_bits 30 (mantissa n) 0 in
    subst (λ (z : ℤ). T (le (mul binary64 (dyadic z 30) ln2) sixty_four)) (sym (fixed_pos n h))
    (subst (λ (c : Float). T (le (mul binary64 (dyadic (pos q) 30) c) sixty_four)) (sym ln2_is)
    (times_small (round binary64 false q (2 ^ 30)) (round_nonneg q (2 ^ 30))
    (subst (λ (z : Float). T (le (round binary64 false q (2 ^ 30)) z)) rounded_64
    (round_mono binary64 q (2 ^ 30) 64 1 (pow_pos 30) (omega arith) (step (size n) (log_bits 30 (mantissa n) 0) (size-le n 1128 g) (log_lt (mantissa n)))))))
  where
    step : (s f : ℕ) → s ≤ 1128 → f < 1073741824 → ((s - 1075) * 1073741824 + f) * 1 ≤ 64 * 1073741824
    step s f b l = omega arith

units_small : (m : ℕ) (e : ℤ) → T (le (fin false m e) two53) → units_of (fin false m e) < 2 ^ 1128
units_small m e h =
    let k : m * up e ≤ 2 ^ 53 * down e = le_trans (le_of_eq (sym (mul-one (m * up e)))) (le→cross m e 1 (pos 53) h) in
    lt_of_le_of_lt (div-le_of_le-mul (down e) (le_trans (mul-le-mul_right (2 ^ 1074) k)
    (le_of_eq (ap (λ (z : ℕ). z * 2 ^ 1074) (mul_comm (2 ^ 53) (down e)) ∙ mul_assoc (down e) (2 ^ 53) (2 ^ 1074)))))
    (lt_of_le_of_lt (le_of_eq (sym (pow-add 2 53 1074))) (pow-lt {i = 53 + 1074} {j = 1128} (lit< tt)))

pub ln_small : (x : Float) → T (le one x) → T (le x two53) → T (le (ln_of x) sixty_four)
unfolding ln_of
ln_small nan h g = absurd (unfold le lt eq in h)
ln_small (inf true) h g = absurd (unfold le lt eq in h)
ln_small (inf false) h g = absurd (unfold le lt eq in g)
ln_small (fin true m e) h g = absurd (signed_below m e h)
ln_small (fin false zero e) h g = unfold le lt in tt
ln_small (fin false (suc m) e) h g = from_small (units_of (fin false (suc m) e)) (units_from (suc m) e h) (units_small (suc m) e g)

-- ---- x = m·2^e with 1 ≤ m < 2, subnormals included: no digit of an f64 is below a unit, and A is from 2^31 to 2^32
pub units_exact : (s : Bool) (m : ℕ) (e : ℤ) → T (fits binary64 (fin s m e)) → HasValue (fin s m e) s (units_of (fin s m e)) (2 ^ 1074)
unfolding steps is_nan
units_exact s m e h = (refl, sym (fit_in binary64 (fin s m e) h tt).0)

pub mantissa_range : (n : ℕ) → 0 < n → (2 ^ 31 ≤ mantissa n) × (mantissa n < 2 ^ 32)
mantissa_range n h =
    let l = size_low n h in
    let j = l.0 in
    let e : size n - 1 ≡ j = omega (arith, l.1) in
    subst (λ (k : ℕ). (2 ^ 31 ≤ n * 2 ^ 31 / 2 ^ k) × (n * 2 ^ 31 / 2 ^ k < 2 ^ 32)) (sym e) (
      (le-div_iff_mul-le (pow_pos j)).1 (le_trans (le_of_eq (mul_comm (2 ^ 31) (2 ^ j))) (mul-le-mul_right (2 ^ 31) l.2)),
      (div-lt_iff_lt-mul (pow_pos j)).1 (lt_of_lt_of_le (mul-lt-mul_of_pos_right l.3 (pow_pos 31)) (le_of_eq (twice (2 ^ j) (2 ^ suc j) (pow-suc 2 j)))),
    )
  where
    twice : (p q : ℕ) → q ≡ p * 2 → q * 2147483648 ≡ 4294967296 * p
    twice p q e = omega arith

-- ---- (e·2^30 + F)·2^-30 is exact
abbrev pub Exactly : ℤ → ℕ → Float → Type 0
Exactly (pos n) k x = HasValue x false n (2 ^ k)
Exactly (negsuc n) k x = HasValue x true (suc n) (2 ^ k)

scaled_exact : (s : Bool) (n : ℕ) → n < 2 ^ 53 → HasValue (round binary64 s n (2 ^ 30)) s n (2 ^ 30)
scaled_exact s n h =
    round_exact binary64 s n (2 ^ 30) n 1044 (pow_pos 30) h
    (lt_of_lt_of_le (mul-lt-mul_of_pos_right h (pow_pos 1044)) (le_trans (le_of_eq (sym (pow-add 2 53 1044))) (pow_mono {i = 53 + 1044} {j = 2098} (lit≤ tt))))
    (ap (λ (p : ℕ). n * p) (pow-add 2 1044 30) ∙ sym (mul_assoc n (2 ^ 1044) (2 ^ 30)))

dyadic_exact : (z : ℤ) → mag z < 2 ^ 52 → Exactly z 30 (dyadic z 30)
dyadic_exact (pos n) h = scaled_exact false n (lt_of_lt_of_le h (lit≤ tt))
dyadic_exact (negsuc n) h = scaled_exact true (suc n) (lt_of_le_of_lt h (lit< tt))

fixed_small : (n : ℕ) → n < 2 ^ 2098 → mag (ln_fixed n) < 2 ^ 52
fixed_small n h = joined_small (size n) (log_bits 30 (mantissa n) 0) (size-le n 2098 h) (log_lt (mantissa n))

pub fixed_exact : (n : ℕ) → n < 2 ^ 2098 → Exactly (ln_fixed n) 30 (dyadic (ln_fixed n) 30)
fixed_exact n h = dyadic_exact (ln_fixed n) (fixed_small n h)
