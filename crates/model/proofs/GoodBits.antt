-- Which entries are good, by their bits: the test of a word is that of the value with those bits, at each of the 2^64 words.
use Rattle.std.proofs.Common.{◌≡◌, ℕ, ◌%◌, ◌^◌, ◌<◌, ◌≤◌, Bool, true, false, not, ◌&&◌, ◌||◌, T, eqb, ltb, leb, ◌⊎◌, sym, refl, ap, ◌∙◌, subst, inl, inr, ⊎_elim, arith, ltb-false, ltb-true, le-ltb, eq-eqb, ne_eqb, eqb-true, le-leb, leb-false, leb-true}
use lib.Ieee.{Float, binary64, top, fits, of_bits, to_bits, nan_bits, is_nan, le, lt, eq}
use lib.Ieee.Bits.{is_false, to_bits-lt, to_bits-of_bits, of_bits-to_bits, nan_bits_is, nan_bits_above}
use borrow.Author.Tests.{lt-leb}
use Rattle.floats.specs.Float.{nought, is_plus_zero}
use Rattle.floats.specs.inner.Sign.{has_sign}
use Rattle.floats.proofs.Tests.{same}
use Rattle.floats.proofs.Fraction.{nonpos_le}
use Rattle.floats.proofs.Bits.{bits_sign, low_clear, low_number}
use Rattle.model.specs.Good.{good, good_end, good_bits, good_end_bits}

abbrev value_of : ℕ → Float
value_of w = of_bits binary64 w

module _ (w : ℕ) (small : w < 2 ^ 64) where
  nan_at : is_nan (value_of w) ≡ ltb 0x7ff0000000000000 (w % 0x8000000000000000)
  nan_at = sym (nan_bits_is binary64 w) ∙ nan_bits_above binary64 w

  -- a number's bits are at most those of infinity, but for the sign; and the other way round
  pub number_at : T (not (is_nan (value_of w))) → w % 0x8000000000000000 ≤ 0x7ff0000000000000
  number_at h = ltb-false _ _ (sym nan_at ∙ is_false _ h)

  at_number : w % 0x8000000000000000 ≤ 0x7ff0000000000000 → T (not (is_nan (value_of w)))
  at_number h = rw (nan_at, le-ltb _ _ h) tt

  sign_is : (s : Bool) → leb (top binary64) w ≡ s → T (not (is_nan (value_of w))) → T (has_sign s (value_of w))
  sign_is s e h = subst (λ (b : Bool). T (has_sign b (value_of w))) e (bits_sign binary64 w h)

  -- with its top bit set a word is good where it is not a NaN's
  signed : 0x8000000000000000 ≤ w → T (not (is_nan (value_of w))) → T (le (value_of w) nought)
  signed h n = nonpos_le (value_of w) (sign_is true (le-leb _ w h) n)

  -- without it, only where it is 0
  unsigned : w < 0x8000000000000000 → T (le (value_of w) nought) → w ≡ 0
  unsigned h l =
      let n = low_number (value_of w) l in
      sym (to_bits-of_bits binary64 w small n) ∙ low_clear binary64 (value_of w) (sign_is false (lt-leb _ w h) n) l

  -- the words that pass
  low_bits : T (le (value_of w) nought) → (w ≡ 0) ⊎ ((0x8000000000000000 ≤ w) × (w ≤ 0xfff0000000000000))
  low_bits l = go (leb 0x8000000000000000 w) refl
    where
      go : (b : Bool) → leb 0x8000000000000000 w ≡ b → (w ≡ 0) ⊎ ((0x8000000000000000 ≤ w) × (w ≤ 0xfff0000000000000))
      go true e = let h = leb-true _ w e in let k = number_at (low_number (value_of w) l) in inr (h, omega arith)
      go false e = inl (unsigned (leb-false _ w e) l)

  passes : T (le (value_of w) nought) → T (good_bits w)
  unfolding good_bits
  passes l = ⊎_elim (λ (z : w ≡ 0). rw (eq-eqb w 0 z) tt) set (low_bits l)
    where
      set : (0x8000000000000000 ≤ w) × (w ≤ 0xfff0000000000000) → T (eqb w 0 || (leb 0x8000000000000000 w && leb w 0xfff0000000000000))
      set h = rw (ne_eqb w 0 (λ z. let k = h.0 in omega arith), le-leb _ _ h.0, le-leb _ _ h.1) tt

  fits_low : T (good_bits w) → T (le (value_of w) nought)
  unfolding good_bits
  fits_low g = go (eqb w 0) (leb 0x8000000000000000 w) (leb w 0xfff0000000000000) refl refl refl g
    where
      go : (a b c : Bool) → eqb w 0 ≡ a → leb 0x8000000000000000 w ≡ b → leb w 0xfff0000000000000 ≡ c → T (a || (b && c)) → T (le (value_of w) nought)
      go true b c z e k h = rw (eqb-true w 0 z) (unfold of_bits le lt eq in tt)
      go false true true z e k h = let l = leb-true 0x8000000000000000 w e in let m = leb-true w 0xfff0000000000000 k in signed l (at_number (omega arith))
      go false true false z e k h = absurd h
      go false false c z e k h = absurd h

  pub good_bits_lem : good_bits w ≡ good (value_of w)
  unfolding good
  good_bits_lem = same (good_bits w) (le (value_of w) nought) fits_low passes

  zero_bits : eqb w 0 ≡ is_plus_zero (value_of w)
  unfolding is_plus_zero
  zero_bits = go (is_nan (value_of w)) refl
    where
      go : (b : Bool) → is_nan (value_of w) ≡ b → eqb w 0 ≡ (not b && eqb (to_bits binary64 (value_of w)) 0)
      go true e = let l = ltb-true 0x7ff0000000000000 (w % 0x8000000000000000) (sym nan_at ∙ e) in ne_eqb w 0 (λ z. omega arith)
      go false e = ap (λ (v : ℕ). eqb v 0) (sym (to_bits-of_bits binary64 w small (rw e tt)))

  pub good_end_bits_lem : (ends : Bool) → good_end_bits ends w ≡ good_end ends (value_of w)
  unfolding good_end_bits good_end
  good_end_bits_lem true = good_bits_lem
  good_end_bits_lem false = zero_bits

-- and the test of a value is that of its own word
pub good_value : (x : Float) → T (fits binary64 x) → good_bits (to_bits binary64 x) ≡ good x
good_value x fit = good_bits_lem (to_bits binary64 x) (to_bits-lt binary64 x fit) ∙ ap good (of_bits-to_bits binary64 x fit)

-- ---- the code's tests of a word
module _ (w : ℕ) where
  pub word_zero : w ≡ 0 → true ≡ good_bits w
  unfolding good_bits
  word_zero e = sym (rw (eq-eqb w 0 e))

  pub word_clear : (w ≡ 0 → ⊥) → w < 0x8000000000000000 → false ≡ good_bits w
  unfolding good_bits
  word_clear n h = sym (rw (ne_eqb w 0 n, lt-leb 0x8000000000000000 w h))

  pub word_set : (w ≡ 0 → ⊥) → 0x8000000000000000 ≤ w → leb w 0xfff0000000000000 ≡ good_bits w
  unfolding good_bits
  word_set n h = sym (rw (ne_eqb w 0 n, le-leb 0x8000000000000000 w h))

  -- a good word is not a NaN's
  pub good_not_nan : w < 2 ^ 64 → good_bits w ≡ true → T (not (nan_bits binary64 w))
  unfolding good
  good_not_nan small h = rw (nan_bits_is binary64 w) (low_number (value_of w) (rw (sym (good_bits_lem w small) ∙ h) tt))
