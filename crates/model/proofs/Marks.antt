-- The top bit of a word: of two words with `|` and `&`, of a word and the one below it, and of an entry's bits.
use Rattle.std.proofs.Common.{◌≡◌, ℕ, ◌+◌, ◌-◌, ◌/◌, ◌%◌, ◌^◌, ◌<◌, ◌≤◌, Bool, true, false, cond, not, ◌&&◌, ◌||◌, T, eqb, leb, sym, refl, ap, ◌∙◌, subst, ap₂, arith, ne_eqb, eqb-true, le-leb, leb-false, leb-true}
use lib.Bits.{bit_and, bit_or, and_shr, or_shr, and_lt}
use lib.Ieee.{Float, binary64, fits, to_bits, is_nan, le}
use lib.Ieee.Bits.{is_true, of_bits-to_bits, to_bits-lt}
use borrow.Author.Tests.{eqb-false, lt-leb}
use Rattle.floats.specs.Float.{nought}
use Rattle.floats.proofs.Bits.{low_number}
use Rattle.model.specs.Good.{good, good_bits}
use Rattle.model.specs.inner.Marks.{is_set}
use Rattle.model.proofs.GoodBits.{number_at, good_value}

-- ---- the top bit as a bound
set_at : (w : ℕ) → 0x8000000000000000 ≤ w → is_set w ≡ true
unfolding is_set
set_at w h = le-leb 0x8000000000000000 w h

not_set : (w : ℕ) → w < 0x8000000000000000 → is_set w ≡ false
unfolding is_set
not_set w h = lt-leb 0x8000000000000000 w h

set_above : (w : ℕ) → is_set w ≡ true → 0x8000000000000000 ≤ w
unfolding is_set
set_above w h = leb-true 0x8000000000000000 w h

set_below : (w : ℕ) → is_set w ≡ false → w < 0x8000000000000000
unfolding is_set
set_below w h = leb-false 0x8000000000000000 w h

-- ---- the top bit as a digit
abbrev digit : Bool → ℕ
digit b = cond b 1 0

top_digit : (w : ℕ) → w < 2 ^ 64 → w / 2 ^ 63 ≡ digit (is_set w)
top_digit w small = go (is_set w) refl
  where
    go : (b : Bool) → is_set w ≡ b → w / 2 ^ 63 ≡ digit b
    go true e = let h = set_above w e in omega arith
    go false e = let h = set_below w e in omega arith

digit_set : (w : ℕ) (b : Bool) → w / 2 ^ 63 ≡ digit b → is_set w ≡ b
digit_set w true e = set_at w (omega arith)
digit_set w false e = not_set w (omega arith)

module _ (v w : ℕ) (h : v < 2 ^ 64) (k : w < 2 ^ 64) where
  set_or : is_set (bit_or v w) ≡ (is_set v || is_set w)
  set_or = digit_set (bit_or v w) (is_set v || is_set w) (or_shr v w 63 ∙ ap₂ bit_or (top_digit v h) (top_digit w k) ∙ go (is_set v) (is_set w))
    where
      go : (a b : Bool) → bit_or (digit a) (digit b) ≡ digit (a || b)
      go true true = refl
      go true false = refl
      go false true = refl
      go false false = refl

  pub set_and : is_set (bit_and v w) ≡ (is_set v && is_set w)
  set_and = digit_set (bit_and v w) (is_set v && is_set w) (and_shr v w 63 ∙ ap₂ bit_and (top_digit v h) (top_digit w k) ∙ go (is_set v) (is_set w))
    where
      go : (a b : Bool) → bit_and (digit a) (digit b) ≡ digit (a && b)
      go true true = refl
      go true false = refl
      go false true = refl
      go false false = refl

-- ---- w, and w - 1 that wraps at 0
or_true : (b : Bool) → (b || true) ≡ true
or_true true = refl
or_true false = refl

pub set_or_zero : (v w : ℕ) → v < 2 ^ 64 → w < 2 ^ 64 → (v + 1) % 2 ^ 64 ≡ w → is_set (bit_or w v) ≡ (eqb w 0 || is_set w)
set_or_zero v w h k e = set_or w v k h ∙ below (eqb w 0) (is_set w) refl refl
  where
    below : (a b : Bool) → eqb w 0 ≡ a → is_set w ≡ b → (b || is_set v) ≡ (a || b)
    below true b z s = let none = eqb-true w 0 z in rw (set_at v (omega arith)) (or_true b)
    below false true z s = refl
    below false false z s = let some = eqb-false w 0 z in let low = set_below w s in not_set v (omega (arith, some))

-- ---- a number has no bits of a NaN, so that its sign is enough
signs : (w : ℕ) → w < 2 ^ 64 → w % 0x8000000000000000 ≤ 0x7ff0000000000000 → (eqb w 0 || is_set w) ≡ good_bits w
unfolding is_set good_bits
signs w small few = go (leb 0x8000000000000000 w) refl
  where
    go : (b : Bool) → leb 0x8000000000000000 w ≡ b → (eqb w 0 || b) ≡ (eqb w 0 || (b && leb w 0xfff0000000000000))
    go true e = ap (λ (c : Bool). eqb w 0 || c) (sym (le-leb w 0xfff0000000000000 (omega arith)))
    go false e = refl

pub good_mark : (x : Float) → T (fits binary64 x) → T (not (is_nan x)) → (eqb (to_bits binary64 x) 0 || is_set (to_bits binary64 x)) ≡ good x
good_mark x fit number =
    let w = to_bits binary64 x in
    let small = to_bits-lt binary64 x fit in
    let back = of_bits-to_bits binary64 x fit in
    let few = number_at w small (subst (λ (y : Float). T (not (is_nan y))) (sym back) number) in
    signs w small few ∙ good_value x fit

-- a NaN is not good, and its mark of 0 is not set
pub nan_mark : (x : Float) → not (is_nan x) ≡ false → is_set 0 ≡ good x
unfolding is_set good
nan_mark x h = go (le x nought) (low_number x)
  where
    go : (b : Bool) → (T b → T (not (is_nan x))) → false ≡ b
    go true k = sym h ∙ is_true _ (k tt)
    go false k = refl

-- ---- the mark of a word: v is the word below it, u what it is with all bits of a fraction added, n its complement
pub word_mark : (w v u n : ℕ) → w < 2 ^ 64 → v < 2 ^ 64 → (v + 1) % 2 ^ 64 ≡ w → u ≡ (w + 0x000fffffffffffff) % 2 ^ 64 → n ≡ 0xffffffffffffffff - w
    → is_set (bit_or (bit_and w u) (bit_and n v)) ≡ good_bits w
unfolding good_bits
word_mark w v u n k h e f c =
    set_or (bit_and w u) (bit_and n v) (and_lt 64 w u k few) (and_lt 64 n v (omega arith) h)
    ∙ ap₂ ◌||◌ (set_and w u k few) (set_and n v (omega arith) h)
    ∙ go (is_set w) refl
  where
    few : u < 2 ^ 64
    few = omega arith

    -- with its top bit set a word's complement has none, and adding wraps past minus infinity's
    signed : 0x8000000000000000 ≤ w → (b : Bool) → leb w 0xfff0000000000000 ≡ b → (is_set u || (is_set n && is_set v)) ≡ b
    signed above true z = let most = leb-true w 0xfff0000000000000 z in rw (set_at u (omega arith))
    signed above false z = let past = leb-false w 0xfff0000000000000 z in rw (not_set u (omega arith), not_set n (omega arith))

    -- without it the word below has one where it wraps
    unsigned : w < 0x8000000000000000 → (b : Bool) → eqb w 0 ≡ b → is_set v ≡ (b || false)
    unsigned low true z = let none = eqb-true w 0 z in set_at v (omega arith)
    unsigned low false z = let some = eqb-false w 0 z in not_set v (omega (arith, some))

    go : (s : Bool) → is_set w ≡ s
        → ((s && is_set u) || (is_set n && is_set v)) ≡ (eqb w 0 || (leb 0x8000000000000000 w && leb w 0xfff0000000000000))
    go true s = let above = set_above w s in rw (ne_eqb w 0 (λ z. omega arith), le-leb 0x8000000000000000 w above)
        (signed above (leb w 0xfff0000000000000) refl)
    go false s = let low = set_below w s in rw (lt-leb 0x8000000000000000 w low, set_at n (omega arith)) (unsigned low (eqb w 0) refl)
