-- `ln_add_exp` and `ln_sub_exp` of two numbers: numbers themselves, bounded as a sum is, and inside the kernels' domains.
use Prim.Native.Nat.{ℕ, zero, suc}
use native.Mathlib.Nat.{lt-suc_self}
use mathlib.Core.Path.{◌≡◌, refl, subst}
use mathlib.Core.Bool.{Bool, true, false, true≢false, not, cond}
use lib.Dec.{T}
use lib.Ieee.{Float, nan, inf, fin, binary64, lt, le, eq, fits, is_nan}
use lib.Ieee.Fits.{add-fits}
use lib.Ieee.Scale.{finite}
use Rattle.floats.specs.Float.{◌⊕◌, ◌⊖◌, nought, one, minus_infinity, is_number, is_minus_infinity, is_plus_infinity, is_infinite, capped}
use Rattle.floats.specs.inner.Sign.{nonneg}
use Rattle.floats.proofs.Order.{le_left, le_right, le_self, le_le, le_antisym, lt_le, eq_le, not_lt, bottom_le}
use Rattle.floats.proofs.Add.{add_num, add_le, capped_le}
use Rattle.floats.proofs.Sub.{sub_nonpos}
use Rattle.floats.proofs.Finite.{number_capped, number_finite}
use Rattle.floats.proofs.Largest.{largest, capped_largest}
use Rattle.floats.proofs.Ceiling.{Ceiling}
use Rattle.kernels.specs.Exp.{exp_of}
use Rattle.kernels.specs.Ln.{ln_of}
use Rattle.kernels.specs.Ln1m.{ln1m_of}
use Rattle.kernels.proofs.ExpLaws.{exp_nonneg, exp_le_one}
use Rattle.kernels.proofs.Ln1mLaws.{ln1m_nonpos}
use Rattle.kernels.proofs.LnLaws.{two53, sixty_four}
use Rattle.sums.specs.Sum.{Numbers}
use Rattle.sums.specs.Pair.{ln_add_to, ln_add, relative_eq, ln_sub, ln_cumsum}
use Rattle.sums.proofs.Peaks.{fewer}
use Rattle.sums.proofs.Bounds.{largest_ceiling, grown_number, grown_above, grown_below}

-- ---- ln_add_exp
-- one exponential is small enough for a sum of them
exp_most : (d : Float) → T (le (exp_of d) two53)
exp_most d = le_le (exp_of d) one two53 (exp_le_one d) (unfold le lt in tt)

-- a property of the greater number, and of what is made of it
add_to_keeps : (P : Float → Type 0) (p0 p1 : Float) → P p0 → (is_infinite p0 ≡ false → P (p0 ⊕ ln_of (one ⊕ exp_of (p1 ⊖ p0)))) → P (ln_add_to p0 p1)
unfolding ln_add_to
add_to_keeps P p0 p1 h g = go (is_infinite p0) g
  where
    go : (t : Bool) → (t ≡ false → P (p0 ⊕ ln_of (one ⊕ exp_of (p1 ⊖ p0)))) → P (cond t p0 (p0 ⊕ ln_of (one ⊕ exp_of (p1 ⊖ p0))))
    go true i = h
    go false i = i refl

-- a property of the first, where the second is minus infinity, and of the greater with the smaller
ln_add_keeps : (P : Float → Type 0) (x y : Float) → (T (is_minus_infinity y) → P x) → (T (lt x y) → P (ln_add_to y x))
    → (T (not (lt x y)) → P (ln_add_to x y)) → P (ln_add x y)
unfolding ln_add
ln_add_keeps P x y a b c = go (is_minus_infinity y) (lt x y) a b c
  where
    go : (s t : Bool) → (T s → P x) → (T t → P (ln_add_to y x)) → (T (not t) → P (ln_add_to x y)) → P (cond s x (cond t (ln_add_to y x) (ln_add_to x y)))
    go true t i j k = i tt
    go false true i j k = j tt
    go false false i j k = k tt

module _ (p0 p1 : Float) where
  abbrev smaller : Float
  smaller = exp_of (p1 ⊖ p0)

  low : T (nonneg smaller)
  low = exp_nonneg (p1 ⊖ p0)

  high : T (le smaller two53)
  high = exp_most (p1 ⊖ p0)

  add_to_number : T (is_number p0) → T (is_number (ln_add_to p0 p1))
  add_to_number h =
      add_to_keeps (λ (z : Float). T (is_number z)) p0 p1 h (λ e. grown_number smaller low high p0 (number_finite p0 h e))

  add_to_above : T (is_number p0) → T (fits binary64 p0) → T (le p0 (ln_add_to p0 p1))
  add_to_above h g =
      add_to_keeps (λ (z : Float). T (le p0 z)) p0 p1 (le_self p0 h)
      (λ e. grown_above smaller low high p0 (number_finite p0 h e) g)

  add_to_below : {B : Float} → Ceiling B sixty_four → T (le p0 B) → T (le (ln_add_to p0 p1) B)
  add_to_below {B} c h = add_to_keeps (λ (z : Float). T (le z B)) p0 p1 h (λ _. grown_below smaller low high c p0 h)

  add_to_fits : T (fits binary64 p0) → T (fits binary64 (ln_add_to p0 p1))
  add_to_fits h = add_to_keeps (λ (z : Float). T (fits binary64 z)) p0 p1 h (λ _. add-fits binary64 p0 _)

module _ (x y : Float) where
  pub ln_add_fits : T (fits binary64 x) → T (fits binary64 y) → T (fits binary64 (ln_add x y))
  ln_add_fits h k = ln_add_keeps (λ (z : Float). T (fits binary64 z)) x y (λ _. h) (λ _. add_to_fits y x k) (λ _. add_to_fits x y h)

  pub ln_add_below : {B : Float} → Ceiling B sixty_four → T (le x B) → T (le y B) → T (le (ln_add x y) B)
  ln_add_below {B} c h k = ln_add_keeps (λ (z : Float). T (le z B)) x y (λ _. h) (λ _. add_to_below y x c k) (λ _. add_to_below x y c h)

  -- neither NaN nor +inf, where neither number is
  pub ln_add_capped : T (capped x) → T (capped y) → T (fits binary64 x) → T (fits binary64 y) → T (capped (ln_add x y))
  ln_add_capped a b h k = capped_le (ln_add x y) largest (ln_add_below largest_ceiling (capped_largest x a h) (capped_largest y b k)) tt

  module _ (h : T (is_number x)) (k : T (is_number y)) where
    at_most : T (not (lt x y)) → T (le y x)
    at_most l = subst T (not_lt x y h k) l

    pub ln_add_number : T (is_number (ln_add x y))
    ln_add_number = ln_add_keeps (λ (z : Float). T (is_number z)) x y (λ _. h) (λ _. add_to_number y x k) (λ _. add_to_number x y h)

    -- at least each of the two
    pub ln_add_above : T (fits binary64 x) → T (fits binary64 y) → T (le x (ln_add x y)) × T (le y (ln_add x y))
    ln_add_above i j =
        ln_add_keeps (λ (z : Float). T (le x z) × T (le y z)) x y
        (λ e. (le_self x h, le_le y minus_infinity x (eq_le y minus_infinity e) (bottom_le x h)))
        (λ l. (le_le x y (ln_add_to y x) (lt_le x y l) (add_to_above y x k j), add_to_above y x k j))
        (λ l. (add_to_above x y h i, le_le y x (ln_add_to x y) (at_most l) (add_to_above x y h i)))

    -- exp is taken at 0 or below
    pub add_domain : T (not (lt x y)) → is_infinite x ≡ false → T (le (y ⊖ x) nought)
    add_domain l e = sub_nonpos binary64 y x (number_finite x h e) (at_most l)

pub ln_cumsum_number : (n : ℕ) (f : ℕ → Float) → Numbers n f → T (is_number (ln_cumsum n f))
unfolding ln_cumsum is_nan
ln_cumsum_number zero f h = tt
ln_cumsum_number (suc n) f h = ln_add_number (ln_cumsum n f) (f n) (ln_cumsum_number n f (fewer n f h)) (h n (lt-suc_self n))

-- ---- ln_sub_exp, of p1 at most p0
-- above a number that is not minus infinity
finite_above : (x y : Float) → T (le x y) → is_minus_infinity x ≡ false → is_plus_infinity y ≡ false → T (finite y)
unfolding is_nan eq
finite_above x nan h i j = absurd (le_right x nan h)
finite_above x (inf true) h i j = subst T i (le_antisym x minus_infinity h (bottom_le x (le_left x minus_infinity h)))
finite_above x (inf false) h i j = absurd (true≢false j)
finite_above x (fin s m d) h i j = tt

module _ (p0 p1 : Float) (below : T (le p1 p0)) where
  -- a property of p0, of minus infinity, and of what is made of a p0 that is not +inf
  ln_sub_keeps : (P : Float → Type 0) → P p0 → P minus_infinity → (is_plus_infinity p0 ≡ false → P (p0 ⊕ ln1m_of (p1 ⊖ p0))) → P (ln_sub p0 p1)
  unfolding ln_sub
  ln_sub_keeps P a b c = go (is_minus_infinity p1) (relative_eq p0 p1) (is_plus_infinity p0) c
    where
      go : (r s t : Bool) → (t ≡ false → P (p0 ⊕ ln1m_of (p1 ⊖ p0))) → P (cond r p0 (cond s minus_infinity (cond t p0 (p0 ⊕ ln1m_of (p1 ⊖ p0)))))
      go true s t i = a
      go false true t i = b
      go false false true i = a
      go false false false i = i refl

  p0_capped : is_plus_infinity p0 ≡ false → T (capped p0)
  p0_capped e = number_capped p0 (le_right p1 p0 below) e

  pub ln_sub_number : T (is_number (ln_sub p0 p1))
  ln_sub_number =
      ln_sub_keeps (λ (z : Float). T (is_number z)) (le_right p1 p0 below) (unfold is_nan in tt)
      (λ e. add_num binary64 p0 (ln1m_of (p1 ⊖ p0)) (p0_capped e) (capped_le (ln1m_of (p1 ⊖ p0)) nought (ln1m_nonpos (p1 ⊖ p0)) tt))

  -- at most p0
  pub ln_sub_below : T (fits binary64 p0) → T (le (ln_sub p0 p1) p0)
  ln_sub_below h =
      let n = le_right p1 p0 below in
      ln_sub_keeps (λ (z : Float). T (le z p0)) (le_self p0 n) (bottom_le p0 n)
      (λ e. add_le binary64 p0 (ln1m_of (p1 ⊖ p0)) h (p0_capped e) (ln1m_nonpos (p1 ⊖ p0)))

  pub ln_sub_fits : T (fits binary64 p0) → T (fits binary64 (ln_sub p0 p1))
  ln_sub_fits h = ln_sub_keeps (λ (z : Float). T (fits binary64 z)) h (unfold fits in tt) (λ _. add-fits binary64 p0 _)

  pub ln_sub_capped : T (fits binary64 p0) → T (capped p0) → T (capped (ln_sub p0 p1))
  ln_sub_capped h g = capped_le (ln_sub p0 p1) p0 (ln_sub_below h) g

  -- ln_1m_exp is taken at 0 or below
  pub sub_domain : is_minus_infinity p1 ≡ false → is_plus_infinity p0 ≡ false → T (le (p1 ⊖ p0) nought)
  sub_domain i j = sub_nonpos binary64 p1 p0 (finite_above p1 p0 below i j) below
