-- What `round` makes, by its key: it grows with the fraction, through zero too, and it keeps a value that fits.
use mathlib.Core.Path.{◌≡◌, refl, sym, ap, ap₂, ◌∙◌, subst}
use Prim.Native.Nat.{ℕ, zero, suc, ◌+◌, ◌-◌, ◌*◌, ◌/◌, ◌%◌, ◌^◌, ◌≤◌, ◌<◌, zero-le, compare}
use native.Mathlib.Nat.{le_refl, le_trans, le_of_eq, le_of_lt, lt_of_le_of_lt, lt_of_lt_of_le, mul-one, zero-mul, zero-div, add-zero}
use native.Mathlib.Nat.{mul_comm, mul_assoc, mul_right_comm, mul-le-mul_right, mul-lt-mul_of_pos_right, lt_of_mul-lt-mul_right}
use native.Mathlib.Nat.{eq_of_mul-eq-mul_right, sub-add_cancel, sub_self, mul-pos, not-le_of_lt, le_of_suc-le-suc, lt_of_not-le}
use native.Mathlib.Omega.{arith}
use mathlib.Core.Bool.{Bool, true, false, not, ◌&&◌, cond}
use lib.IntN.{ℤ, pos, negsuc}
use lib.Dec.{T, leb, ltb, eqb, leb→le, nleb→lt, ltb→lt}
use lib.Pow.{pow-add, pow_pos, pow-lt}
use lib.Ieee.{Float, nan, inf, fin, Format, prec, emax, low, up, down, size, nearest, odd, units, round, neg, fits, is_nan}
use lib.Ieee.Fits.{down_pos, and_l, and_r, round-fits, round_is}
use lib.Ieee.Exact.{HasValue, round_exact}
use lib.Ieee.Order.{round_mono}
use Rattle.floats.proofs.Keys.{steps, key, Within, whole_steps, le→}
use Rattle.floats.proofs.Sign.{round_sign, sign_num}

-- the key of zero among a format's values
unfoldable pub mid : Format → ℕ
mid f = 2 ^ (low f + suc (emax f))

-- the key of a value among all of a format
abbrev pub rank : Format → Float → ℕ
rank f x = key (low f) (mid f) x

-- ---- a value that fits a format is on the format's scale, and within its bound
pow_le_inv : (i j : ℕ) → 2 ^ i ≤ 2 ^ j → i ≤ j
pow_le_inv i j h = le_of_suc-le-suc (lt_of_not-le (λ (g : suc j ≤ i). not-le_of_lt (pow-lt g) h))

-- m * 2 ^ e for a 2 ^ e of 2 ^ -l at least: a power of two of steps, m times
pub record Steps (l m : ℕ) (e : ℤ) : Type 0 where
  pub shift : ℕ
  pub is : steps l m e ≡ m * 2 ^ shift
  pub whole : steps l m e * down e ≡ m * up e * 2 ^ l

steps_w : (l m : ℕ) (e : ℤ) (w : ℕ) → w * down e ≡ 2 ^ l → steps l m e ≡ m * up e * w
steps_w l m e w p =
    eq_of_mul-eq-mul_right (down e) (down_pos e) (steps l m e) (m * up e * w)
    (whole_steps l m e w p ∙ ap (λ (z : ℕ). m * up e * z) (sym p) ∙ sym (mul_assoc (m * up e) w (down e)))

pub steps_of : (l m : ℕ) (e : ℤ) → down e ≤ 2 ^ l → Steps l m e
steps_of l m (pos k) h =
    let w : 2 ^ l * 1 ≡ 2 ^ l = mul-one (2 ^ l) in
    record {
      shift = k + l;
      is = steps_w l m (pos k) (2 ^ l) w ∙ mul_assoc m (2 ^ k) (2 ^ l) ∙ ap (λ (z : ℕ). m * z) (sym (pow-add 2 k l));
      whole = whole_steps l m (pos k) (2 ^ l) w;
    }
steps_of l m (negsuc k) h =
    let w : 2 ^ (l - suc k) * 2 ^ suc k ≡ 2 ^ l = sym (pow-add 2 (l - suc k) (suc k)) ∙ ap (λ (z : ℕ). 2 ^ z) (sub-add_cancel (pow_le_inv (suc k) l h)) in
    record {
      shift = l - suc k;
      is = steps_w l m (negsuc k) (2 ^ (l - suc k)) w ∙ ap (λ (z : ℕ). z * 2 ^ (l - suc k)) (mul-one m);
      whole = whole_steps l m (negsuc k) (2 ^ (l - suc k)) w;
    }

pub no_steps : (l : ℕ) (e : ℤ) → steps l 0 e ≡ 0
unfolding steps
no_steps l e = ap (λ (z : ℕ). z / down e) (ap (λ (z : ℕ). z * 2 ^ l) (zero-mul (up e)) ∙ zero-mul (2 ^ l)) ∙ zero-div (down e)

-- what `fits` says of a finite value that is not zero
pub record Fit (f : Format) (m : ℕ) (e : ℤ) : Type 0 where
  pub digits : m < 2 ^ prec f
  pub place : down e ≤ 2 ^ low f
  pub high : m * up e < 2 ^ suc (emax f) * down e

pub fit_of : (f : Format) (s : Bool) (m : ℕ) (e : ℤ) → T (fits f (fin s (suc m) e)) → Fit f (suc m) e
unfolding fits
fit_of f s m e h =
    let a : Bool = eqb (suc m % 2) 1 in
    let b : Bool = ltb (suc m) (2 ^ prec f) in
    let c : Bool = leb (down e) (2 ^ low f) in
    let d : Bool = ltb (suc m * up e) (2 ^ suc (emax f) * down e) in
    let l = and_l (a && b && c) d h in
    record {
      digits = ltb→lt (suc m) (2 ^ prec f) (and_r a b (and_l (a && b) c l));
      place = leb→le (down e) (2 ^ low f) (and_r (a && b) c l);
      high = ltb→lt (suc m * up e) (2 ^ suc (emax f) * down e) (and_r (a && b && c) d h);
    }

pub fit_in : (f : Format) (x : Float) → T (fits f x) → T (not (is_nan x)) → Within (low f) (mid f) x
unfolding is_nan mid
fit_in f nan h n = absurd n
fit_in f (inf s) h n = pow_pos (low f + suc (emax f))
fit_in f (fin s zero e) h n = (
  ap (λ (z : ℕ). z * down e) (no_steps (low f) e) ∙ zero-mul (down e) ∙ sym (zero-mul (2 ^ low f)) ∙ ap (λ (z : ℕ). z * 2 ^ low f) (sym (zero-mul (up e))),
  lt_of_le_of_lt (le_of_eq (no_steps (low f) e)) (pow_pos (low f + suc (emax f))),
)
fit_in f (fin s (suc m) e) h n =
    let w = (steps_of (low f) (suc m) e (fit_of f s m e h).place).whole in (
      w,
      lt_of_mul-lt-mul_right (down e)
          (lt_of_le_of_lt (le_of_eq w)
          (lt_of_lt_of_le (mul-lt-mul_of_pos_right (fit_of f s m e h).high (pow_pos (low f)))
          (le_of_eq (mul_right_comm (2 ^ suc (emax f)) (down e) (2 ^ low f)
          ∙ ap (λ (z : ℕ). z * down e) (mul_comm (2 ^ suc (emax f)) (2 ^ low f) ∙ sym (pow-add 2 (low f) (suc (emax f)))))))),
    )

-- ---- what `round` makes is no NaN, and has its sign
pub round_num : (f : Format) (s : Bool) (a c : ℕ) → T (not (is_nan (round f s a c)))
round_num f s a c = sign_num s (round f s a c) (round_sign f s a c)

units_neg : (f : Format) (q k : ℕ) → units f true q k ≡ neg (units f false q k)
unfolding units odd neg
units_neg f q k = go (ltb (q * 2 ^ k) (2 ^ (low f + suc (emax f)))) q
  where
    go : (t : Bool) (r : ℕ) → cond t (odd (suc (prec f)) true r k (low f)) (inf true) ≡ neg (cond t (odd (suc (prec f)) false r k (low f)) (inf false))
    go true zero = refl
    go true (suc r) = refl
    go false r = refl

pub round_neg : (f : Format) (a c : ℕ) → round f true a c ≡ neg (round f false a c)
round_neg f a c =
    let k = size (a * 2 ^ low f / c) - prec f in
    round_is f true a c
    ∙ units_neg f (nearest (a * 2 ^ low f / (c * 2 ^ k)) (compare (a * 2 ^ low f % (c * 2 ^ k) * 2) (c * 2 ^ k))) k
    ∙ ap neg (sym (round_is f false a c))

pub round_in : (f : Format) (s : Bool) (a c : ℕ) → Within (low f) (mid f) (round f s a c)
round_in f s a c = fit_in f (round f s a c) (round-fits f s a c) (round_num f s a c)

-- ---- negation, by keys
pub neg_in : (l b : ℕ) (x : Float) → Within l b x → Within l b (neg x)
unfolding neg
neg_in l b nan p = p
neg_in l b (inf s) p = p
neg_in l b (fin s m e) p = p

pub neg_key : (l b : ℕ) (x : Float) → Within l b x → key l b (neg x) + key l b x ≡ b + b
unfolding neg key
neg_key l b nan p = absurd p
neg_key l b (inf true) p = add-zero (b + b)
neg_key l b (inf false) p = omega arith
neg_key l b (fin true m e) p = omega arith
neg_key l b (fin false m e) p = omega arith

-- ---- a value by a fraction that it equals
pub value_key : (l b : ℕ) (x : Float) (s : Bool) (a c u : ℕ) → 0 < c → HasValue x s a c → Within l b x → a * 2 ^ l ≡ u * c → key l b x ≡ cond s (b - u) (b + u)
unfolding key
value_key l b nan s a c u C h p e = absurd h
value_key l b (inf t) s a c u C h p e = absurd h
value_key l b (fin t m d) s a c u C h p e =
    ap₂ (λ (z : Bool) (k : ℕ). cond z (b - k) (b + k)) h.0
    (eq_of_mul-eq-mul_right (down d * c) (mul-pos (down_pos d) C) (steps l m d) u is)
  where
    is : steps l m d * (down d * c) ≡ u * (down d * c)
    is =
        sym (mul_assoc (steps l m d) (down d) c)
        ∙ ap (λ (z : ℕ). z * c) p.0
        ∙ mul_right_comm (m * up d) (2 ^ l) c
        ∙ ap (λ (z : ℕ). z * 2 ^ l) h.1
        ∙ mul_right_comm a (down d) (2 ^ l)
        ∙ ap (λ (z : ℕ). z * down d) e
        ∙ mul_assoc u c (down d)
        ∙ ap (λ (z : ℕ). u * z) (mul_comm c (down d))

-- a whole number of steps that the format holds is kept
pub rank_exact : (f : Format) (s : Bool) (q j : ℕ) → q < 2 ^ prec f → q * 2 ^ j < mid f
    → rank f (round f s (q * 2 ^ j) (2 ^ low f)) ≡ cond s (mid f - q * 2 ^ j) (mid f + q * 2 ^ j)
rank_exact f s q j h k =
    value_key (low f) (mid f) (round f s (q * 2 ^ j) (2 ^ low f)) s (q * 2 ^ j) (2 ^ low f) (q * 2 ^ j) (pow_pos (low f))
    (round_exact f s (q * 2 ^ j) (2 ^ low f) q j (pow_pos (low f)) h (unfold mid in k) refl)
    (round_in f s (q * 2 ^ j) (2 ^ low f)) refl

-- ---- the rank of what a fraction rounds to
pub rank_neg : (f : Format) (a c : ℕ) → rank f (round f true a c) + rank f (round f false a c) ≡ mid f + mid f
rank_neg f a c =
    ap (λ (z : Float). rank f z + rank f (round f false a c)) (round_neg f a c)
    ∙ neg_key (low f) (mid f) (round f false a c) (round_in f false a c)

pub rank_mono : (f : Format) (a b c d : ℕ) → 0 < b → 0 < d → a * d ≤ c * b → rank f (round f false a b) ≤ rank f (round f false c d)
rank_mono f a b c d B D h =
    le→ (low f) (mid f) (round f false a b) (round f false c d) (round_in f false a b) (round_in f false c d) (round_mono f a b c d B D h)

pub rank_zero : (f : Format) (s : Bool) (c : ℕ) → 0 < c → rank f (round f s 0 c) ≡ mid f
rank_zero f s c C =
    value_key (low f) (mid f) (round f s 0 c) s 0 c 0 C
    (round_exact f s 0 c 0 0 C (pow_pos (prec f)) (pow_pos (low f + suc (emax f))) (zero-mul (2 ^ low f) ∙ sym (zero-mul c)))
    (round_in f s 0 c) (zero-mul (2 ^ low f) ∙ sym (zero-mul c))
    ∙ no s
  where
    no : (t : Bool) → cond t (mid f - 0) (mid f + 0) ≡ mid f
    no true = omega arith
    no false = omega arith

pub rank_above : (f : Format) (a c : ℕ) → 0 < c → mid f ≤ rank f (round f false a c)
rank_above f a c C = le_trans (le_of_eq (sym (rank_zero f false c C))) (rank_mono f 0 c a c C C (mul-le-mul_right c zero-le))

-- ---- a number of steps, n - (b + b) of them, rounded: below b + b it is negative
-- the rank of ±n steps of 2 ^ -l, rounded
abbrev pub rounded : Format → ℕ → Bool → ℕ → ℕ
rounded f l s n = rank f (round f s n (2 ^ l))

unfoldable pub settle : Format → ℕ → ℕ → ℕ → ℕ
settle f l b n = cond (leb (b + b) n) (rounded f l false (n - (b + b))) (rounded f l true (b + b - n))

module _ (f : Format) (l b : ℕ) where
  pub settle_pos : (n : ℕ) → b + b ≤ n → settle f l b n ≡ rounded f l false (n - (b + b))
  unfolding settle
  settle_pos n h = go (leb (b + b) n) (nleb→lt (b + b) n)
    where
      go : (t : Bool) → (T (not t) → n < b + b)
          → cond t (rounded f l false (n - (b + b))) (rounded f l true (b + b - n)) ≡ rounded f l false (n - (b + b))
      go true k = refl
      go false k = absurd (not-le_of_lt (k tt) h)

  pub settle_neg : (n : ℕ) → n ≤ b + b → settle f l b n ≡ rounded f l true (b + b - n)
  unfolding settle
  settle_neg n h = go (leb (b + b) n) (leb→le (b + b) n)
    where
      go : (t : Bool) → (T t → b + b ≤ n)
          → cond t (rounded f l false (n - (b + b))) (rounded f l true (b + b - n)) ≡ rounded f l true (b + b - n)
      go true k =
          let e : n - (b + b) ≡ 0 = omega (arith, k tt) in
          let g : b + b - n ≡ 0 = omega (arith, k tt) in
          ap (rounded f l false) e ∙ rank_zero f false (2 ^ l) (pow_pos l)
          ∙ sym (ap (rounded f l true) g ∙ rank_zero f true (2 ^ l) (pow_pos l))
      go false k = refl

  pub settle_zero : settle f l b (b + b) ≡ mid f
  settle_zero =
      settle_pos (b + b) (le_refl (b + b)) ∙ ap (rounded f l false) (sub_self (b + b)) ∙ rank_zero f false (2 ^ l) (pow_pos l)

  pub settle_mono : (n k : ℕ) → n ≤ k → settle f l b n ≤ settle f l b k
  settle_mono n k h = go (leb (b + b) n) (leb (b + b) k) (leb→le (b + b) n) (nleb→lt (b + b) n) (leb→le (b + b) k) (nleb→lt (b + b) k)
    where
      go : (s t : Bool) → (T s → b + b ≤ n) → (T (not s) → n < b + b) → (T t → b + b ≤ k) → (T (not t) → k < b + b) → settle f l b n ≤ settle f l b k
      go true t p q r w =
          let i : b + b ≤ n = p tt in
          le_trans (le_of_eq (settle_pos n i)) (le_trans
          (rank_mono f (n - (b + b)) (2 ^ l) (k - (b + b)) (2 ^ l) (pow_pos l) (pow_pos l) (mul-le-mul_right (2 ^ l) (omega arith)))
          (le_of_eq (sym (settle_pos k (omega arith)))))
      go false true p q r w =
          let x = settle_neg n (le_of_lt (q tt)) in
          let y = settle_pos k (r tt) in
          let z = rank_above f (n - (b + b)) (2 ^ l) (pow_pos l) in
          omega (arith, rank_neg f (b + b - n) (2 ^ l), rank_above f (b + b - n) (2 ^ l) (pow_pos l), rank_above f (k - (b + b)) (2 ^ l) (pow_pos l))
      go false false p q r w =
          let i : n < b + b = q tt in
          let j : k < b + b = w tt in
          let x = settle_neg n (omega arith) in
          let y = settle_neg k (omega arith) in
          let z = rank_mono f (b + b - k) (2 ^ l) (b + b - n) (2 ^ l) (pow_pos l) (pow_pos l) (mul-le-mul_right (2 ^ l) (omega arith)) in
          omega (arith, rank_neg f (b + b - n) (2 ^ l), rank_neg f (b + b - k) (2 ^ l))

-- ---- a value that fits is kept
pub fit_kept : (f : Format) (s : Bool) (m : ℕ) (e : ℤ) → T (fits f (fin s m e)) → (t : Bool)
    → rank f (round f t (steps (low f) m e) (2 ^ low f)) ≡ cond t (mid f - steps (low f) m e) (mid f + steps (low f) m e)
fit_kept f s zero e h t = rw (no_steps (low f) e) (rank_zero f t (2 ^ low f) (pow_pos (low f)) ∙ sym (no t))
  where
    no : (r : Bool) → cond r (mid f - 0) (mid f + 0) ≡ mid f
    no true = omega arith
    no false = omega arith
fit_kept f s (suc m) e h t =
    let r = steps_of (low f) (suc m) e (fit_of f s m e h).place in
    let b : steps (low f) (suc m) e < mid f = (fit_in f (fin s (suc m) e) h (unfold is_nan in tt)).1 in
    subst (λ (z : ℕ). rank f (round f t z (2 ^ low f)) ≡ cond t (mid f - z) (mid f + z)) (sym r.is)
    (rank_exact f t (suc m) r.shift (fit_of f s m e h).digits (subst (λ (z : ℕ). z < mid f) r.is b))
