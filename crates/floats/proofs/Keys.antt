-- An order key for floats that are not NaN: a natural number, with `le x y` exactly where the key of x is at most that of y.
-- A scale l and a bound m are chosen so that each value is a whole number of 2 ^ -l, and fewer than m of them. For all the values of
-- a format that is `low f` and `mid f`; for any few floats, fitting a format or not, there is a choice (`Scale`, below).
use mathlib.Core.Path.{◌≡◌, refl, sym, ap, ap₂, ◌∙◌, subst}
use Prim.Native.Nat.{ℕ, suc, ◌+◌, ◌-◌, ◌*◌, ◌/◌, ◌^◌, ◌≤◌, ◌<◌}
use native.Mathlib.Nat.{le_of_eq, le_of_lt, lt_of_le_of_lt, lt_of_lt_of_le, mul-one, zero-mul, add-mul, mul_comm, mul_assoc}
use native.Mathlib.Nat.{mul_right_comm, mul-lt-mul_of_pos_right, lt_of_mul-lt-mul_right, eq_of_mul-eq-mul_right, mul-div_cancel}
use native.Mathlib.Nat.{sub-add_cancel, mul-pos}
use native.Mathlib.Omega.{arith}
use mathlib.Core.Bool.{Bool, true, false, not, ◌&&◌, ◌||◌, cond}
use borrow.Author.Tests.{lt-ltb, le-ltb, eq-eqb, ne_eqb}
use lib.IntN.{ℤ, pos, negsuc}
use lib.Dec.{T, leb, ltb, eqb, leb→le, le→leb, ltb→lt, lt→ltb, eqb→eq}
use lib.Pow.{pow-add, pow_pos}
use lib.Ieee.{Float, nan, inf, fin, up, down, below, level, lt, eq, le, is_nan}
use lib.Ieee.Fits.{down_pos, and_i, and_l, and_r}
use Rattle.floats.proofs.Tests.{same, to_eqb, tests, lt_or_eq}

-- ---- the key
-- how many 2 ^ -l are m * 2 ^ e
unfoldable pub steps : ℕ → ℕ → ℤ → ℕ
steps l m e = m * up e * 2 ^ l / down e

unfoldable pub key : ℕ → ℕ → Float → ℕ
key l b nan = 0
key l b (inf s) = cond s 0 (b + b)
key l b (fin s m e) = cond s (b - steps l m e) (b + steps l m e)

-- x is no NaN, and if finite it is a whole number of 2 ^ -l, below b of them
abbrev pub Within : ℕ → ℕ → Float → Type 0
Within l b nan = ⊥
Within l b (inf s) = 0 < b
Within l b (fin s m e) = (steps l m e * down e ≡ m * up e * 2 ^ l) × (steps l m e < b)

-- ---- comparisons of fractions, as comparisons of steps
-- a / c is u steps and b / c is v steps, of 1 / l
module _ (c l : ℕ) (C : 0 < c) (L : 0 < l) where
  pub cross_ltb : (a b u v : ℕ) → a * l ≡ u * c → b * l ≡ v * c → ltb a b ≡ ltb u v
  cross_ltb a b u v p q =
      same (ltb a b) (ltb u v)
      (λ h. lt→ltb u v (lt_of_mul-lt-mul_right c (lt_of_le_of_lt (le_of_eq (sym p)) (lt_of_lt_of_le (mul-lt-mul_of_pos_right (ltb→lt a b h) L) (le_of_eq q)))))
      (λ h. lt→ltb a b (lt_of_mul-lt-mul_right l (lt_of_le_of_lt (le_of_eq p) (lt_of_lt_of_le (mul-lt-mul_of_pos_right (ltb→lt u v h) C) (le_of_eq (sym q))))))

  pub cross_eqb : (a b u v : ℕ) → a * l ≡ u * c → b * l ≡ v * c → eqb a b ≡ eqb u v
  cross_eqb a b u v p q =
      same (eqb a b) (eqb u v)
      (λ h. to_eqb u v (eq_of_mul-eq-mul_right c C u v (sym p ∙ ap (λ (z : ℕ). z * l) (eqb→eq a b h) ∙ q)))
      (λ h. to_eqb a b (eq_of_mul-eq-mul_right l L a b (p ∙ ap (λ (z : ℕ). z * c) (eqb→eq u v h) ∙ sym q)))

  nothing : 0 * l ≡ 0 * c
  nothing = zero-mul l ∙ sym (zero-mul c)

  -- ±a / c against ±b / c
  below_cross : (s : Bool) (a : ℕ) (t : Bool) (b u v : ℕ) → a * l ≡ u * c → b * l ≡ v * c → below s a t b ≡ below s u t v
  below_cross false a false b u v p q = cross_ltb a b u v p q
  below_cross false a true b u v p q = refl
  below_cross true a false b u v p q = cross_ltb 0 (a + b) 0 (u + v) nothing (add-mul a b l ∙ ap₂ ◌+◌ p q ∙ sym (add-mul u v c))
  below_cross true a true b u v p q = cross_ltb b a v u q p

  level_cross : (s : Bool) (a : ℕ) (t : Bool) (b u v : ℕ) → a * l ≡ u * c → b * l ≡ v * c → level s a t b ≡ level s u t v
  level_cross s a t b u v p q = rw (cross_eqb a b u v p q, cross_eqb a 0 u 0 p nothing)

-- the same, by keys
below_key : (b : ℕ) (s : Bool) (u : ℕ) (t : Bool) (v : ℕ) → u < b → v < b → below s u t v ≡ ltb (cond s (b - u) (b + u)) (cond t (b - v) (b + v))
below_key b false u false v h k = same (ltb u v) (ltb (b + u) (b + v)) (omega tests) (omega tests)
below_key b false u true v h k = same false (ltb (b + u) (b - v)) (λ z. absurd z) (omega tests)
below_key b true u false v h k = same (ltb 0 (u + v)) (ltb (b - u) (b + v)) (omega tests) (omega tests)
below_key b true u true v h k = same (ltb v u) (ltb (b - u) (b - v)) (omega tests) (omega tests)

level_key : (b : ℕ) (s : Bool) (u : ℕ) (t : Bool) (v : ℕ) → u < b → v < b → level s u t v ≡ eqb (cond s (b - u) (b + u)) (cond t (b - v) (b + v))
level_key b false u false v h k =
    same (eqb u v && true) (eqb (b + u) (b + v)) (λ z. let x = and_l (eqb u v) true z in omega tests)
    (λ z. and_i (eqb u v) true (omega tests) tt)
level_key b false u true v h k =
    same (eqb u v && eqb u 0) (eqb (b + u) (b - v))
    (λ z. let x = and_l (eqb u v) (eqb u 0) z in let y = and_r (eqb u v) (eqb u 0) z in omega tests)
    (λ z. and_i (eqb u v) (eqb u 0) (omega tests) (omega tests))
level_key b true u false v h k =
    same (eqb u v && eqb u 0) (eqb (b - u) (b + v))
    (λ z. let x = and_l (eqb u v) (eqb u 0) z in let y = and_r (eqb u v) (eqb u 0) z in omega tests)
    (λ z. and_i (eqb u v) (eqb u 0) (omega tests) (omega tests))
level_key b true u true v h k =
    same (eqb u v && true) (eqb (b - u) (b - v)) (λ z. let x = and_l (eqb u v) true z in omega tests)
    (λ z. and_i (eqb u v) true (omega tests) tt)

-- a finite value's key lies between those of the infinities
key_pos : (b u : ℕ) (s : Bool) → u < b → 0 < cond s (b - u) (b + u)
key_pos b u true h = omega arith
key_pos b u false h = omega arith

key_top : (b u : ℕ) (s : Bool) → u < b → cond s (b - u) (b + u) < b + b
key_top b u true h = omega arith
key_top b u false h = omega arith

-- ---- Rust's comparisons are those of the keys
module _ (l b : ℕ) where
  -- the key of ±m * 2 ^ e
  abbrev signed : Bool → ℕ → ℤ → ℕ
  signed s m e = cond s (b - steps l m e) (b + steps l m e)

  -- a / c in steps, for a comparison of fin s m e with fin t n d
  pub left_is : (m : ℕ) (e d : ℤ) → steps l m e * down e ≡ m * up e * 2 ^ l → m * up e * down d * 2 ^ l ≡ steps l m e * (down e * down d)
  left_is m e d p = mul_right_comm (m * up e) (down d) (2 ^ l) ∙ ap (λ (z : ℕ). z * down d) (sym p) ∙ mul_assoc (steps l m e) (down e) (down d)

  pub right_is : (n : ℕ) (d e : ℤ) → steps l n d * down d ≡ n * up d * 2 ^ l → n * up d * down e * 2 ^ l ≡ steps l n d * (down e * down d)
  right_is n d e q = left_is n d e q ∙ ap (λ (z : ℕ). steps l n d * z) (mul_comm (down d) (down e))

  pub lt_key : (x y : Float) → Within l b x → Within l b y → lt x y ≡ ltb (key l b x) (key l b y)
  unfolding lt key
  lt_key nan y p q = absurd p
  lt_key (inf s) nan p q = absurd q
  lt_key (inf true) (inf true) p q = refl
  lt_key (inf true) (inf false) p q = sym (lt-ltb 0 (b + b) (omega arith))
  lt_key (inf false) (inf true) p q = sym (le-ltb (b + b) 0 (omega arith))
  lt_key (inf false) (inf false) p q = sym (le-ltb (b + b) (b + b) (omega arith))
  lt_key (inf true) (fin t n d) p q = sym (lt-ltb 0 (signed t n d) (key_pos b (steps l n d) t q.1))
  lt_key (inf false) (fin t n d) p q = sym (le-ltb (b + b) (signed t n d) (le_of_lt (key_top b (steps l n d) t q.1)))
  lt_key (fin s m e) nan p q = absurd q
  lt_key (fin s m e) (inf true) p q = sym (le-ltb (signed s m e) 0 (omega arith))
  lt_key (fin s m e) (inf false) p q = sym (lt-ltb (signed s m e) (b + b) (key_top b (steps l m e) s p.1))
  lt_key (fin s m e) (fin t n d) p q =
      below_cross (down e * down d) (2 ^ l) (mul-pos (down_pos e) (down_pos d)) (pow_pos l) s (m * up e * down d) t (n * up d * down e)
      (steps l m e) (steps l n d) (left_is m e d p.0) (right_is n d e q.0)
      ∙ below_key b s (steps l m e) t (steps l n d) p.1 q.1

  pub eq_key : (x y : Float) → Within l b x → Within l b y → eq x y ≡ eqb (key l b x) (key l b y)
  unfolding eq key
  eq_key nan y p q = absurd p
  eq_key (inf s) nan p q = absurd q
  eq_key (inf true) (inf true) p q = refl
  eq_key (inf true) (inf false) p q = sym (ne_eqb 0 (b + b) (λ z. omega arith))
  eq_key (inf false) (inf true) p q = sym (ne_eqb (b + b) 0 (λ z. omega arith))
  eq_key (inf false) (inf false) p q = sym (eq-eqb (b + b) (b + b) refl)
  eq_key (inf true) (fin t n d) p q = let h = key_pos b (steps l n d) t q.1 in sym (ne_eqb 0 (signed t n d) (λ z. omega arith))
  eq_key (inf false) (fin t n d) p q = let h = key_top b (steps l n d) t q.1 in sym (ne_eqb (b + b) (signed t n d) (λ z. omega arith))
  eq_key (fin s m e) nan p q = absurd q
  eq_key (fin s m e) (inf true) p q = let h = key_pos b (steps l m e) s p.1 in sym (ne_eqb (signed s m e) 0 (λ z. omega arith))
  eq_key (fin s m e) (inf false) p q = let h = key_top b (steps l m e) s p.1 in sym (ne_eqb (signed s m e) (b + b) (λ z. omega arith))
  eq_key (fin s m e) (fin t n d) p q =
      level_cross (down e * down d) (2 ^ l) (mul-pos (down_pos e) (down_pos d)) (pow_pos l) s (m * up e * down d) t (n * up d * down e)
      (steps l m e) (steps l n d) (left_is m e d p.0) (right_is n d e q.0)
      ∙ level_key b s (steps l m e) t (steps l n d) p.1 q.1

  pub le_key : (x y : Float) → Within l b x → Within l b y → le x y ≡ leb (key l b x) (key l b y)
  unfolding le
  le_key x y p q = ap₂ ◌||◌ (lt_key x y p q) (eq_key x y p q) ∙ lt_or_eq (key l b x) (key l b y)

  -- the same as functions between proofs, for `omega` to use
  pub le→ : (x y : Float) → Within l b x → Within l b y → T (le x y) → key l b x ≤ key l b y
  le→ x y p q h = leb→le (key l b x) (key l b y) (subst T (le_key x y p q) h)

  pub →le : (x y : Float) → Within l b x → Within l b y → key l b x ≤ key l b y → T (le x y)
  →le x y p q h = subst T (sym (le_key x y p q)) (le→leb (key l b x) (key l b y) h)

  pub lt→ : (x y : Float) → Within l b x → Within l b y → T (lt x y) → key l b x < key l b y
  lt→ x y p q h = ltb→lt (key l b x) (key l b y) (subst T (lt_key x y p q) h)

  pub →lt : (x y : Float) → Within l b x → Within l b y → key l b x < key l b y → T (lt x y)
  →lt x y p q h = subst T (sym (lt_key x y p q)) (lt→ltb (key l b x) (key l b y) h)

  pub eq→ : (x y : Float) → Within l b x → Within l b y → T (eq x y) → key l b x ≡ key l b y
  eq→ x y p q h = eqb→eq (key l b x) (key l b y) (subst T (eq_key x y p q) h)

  pub →eq : (x y : Float) → Within l b x → Within l b y → key l b x ≡ key l b y → T (eq x y)
  →eq x y p q h = subst T (sym (eq_key x y p q)) (to_eqb (key l b x) (key l b y) h)

-- ---- a scale and a bound for any floats
-- x is a whole number of 2 ^ -l for an l from `fine x` on
unfoldable pub fine : Float → ℕ
fine nan = 0
fine (inf s) = 0
fine (fin s m (pos k)) = 0
fine (fin s m (negsuc k)) = suc k

unfoldable pub wide : ℕ → Float → ℕ
wide l nan = 1
wide l (inf s) = 1
wide l (fin s m e) = suc (steps l m e)

pub whole_steps : (l m : ℕ) (e : ℤ) (w : ℕ) → w * down e ≡ 2 ^ l → steps l m e * down e ≡ m * up e * 2 ^ l
unfolding steps
whole_steps l m e w p =
    let q : m * up e * 2 ^ l ≡ m * up e * w * down e = ap (λ (z : ℕ). m * up e * z) (sym p) ∙ sym (mul_assoc (m * up e) w (down e)) in
    ap (λ (z : ℕ). z / down e * down e) q ∙ ap (λ (z : ℕ). z * down e) (mul-div_cancel (m * up e * w) (down_pos e)) ∙ sym q

pub within : (l b : ℕ) (x : Float) → T (not (is_nan x)) → fine x ≤ l → wide l x ≤ b → Within l b x
unfolding is_nan fine wide
within l b nan n h k = absurd n
within l b (inf s) n h k = k
within l b (fin s m (pos j)) n h k = (whole_steps l m (pos j) (2 ^ l) (mul-one (2 ^ l)), k)
within l b (fin s m (negsuc j)) n h k =
    (whole_steps l m (negsuc j) (2 ^ (l - suc j)) (sym (pow-add 2 (l - suc j) (suc j)) ∙ ap (λ (z : ℕ). 2 ^ z) (sub-add_cancel h)), k)

pub record Common (x y z w : Float) : Type 0 where
  pub scale : ℕ
  pub bound : ℕ
  pub x_in : Within scale bound x
  pub y_in : Within scale bound y
  pub z_in : Within scale bound z
  pub w_in : Within scale bound w

pub common : (x y z w : Float) → T (not (is_nan x)) → T (not (is_nan y)) → T (not (is_nan z)) → T (not (is_nan w)) → Common x y z w
common x y z w p q r s =
    let l = fine x + fine y + (fine z + fine w) in
    let b = wide l x + wide l y + (wide l z + wide l w) in
    record {
      scale = l;
      bound = b;
      x_in = within l b x p (omega arith) (omega arith);
      y_in = within l b y q (omega arith) (omega arith);
      z_in = within l b z r (omega arith) (omega arith);
      w_in = within l b w s (omega arith) (omega arith);
    }
