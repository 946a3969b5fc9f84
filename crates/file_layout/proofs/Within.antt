-- What lies within a file whose layout is right.
use Prim.Native.Nat.{ℕ, suc, ◌+◌, ◌*◌, ◌≤◌, ◌<◌}
use mathlib.Core.Path.{◌≡◌, sym, ap, ap₂, ◌∙◌}
use mathlib.Core.Bool.{Bool, not}
use mathlib.Core.List.{List}
use native.Mathlib.Omega.{arith}
use lib.Dec.{eqb}
use lib.ListN.{length}
use Rattle.lists.specs.Lists.{first_bad, part}
use Rattle.little_endian.specs.Bytes.{sum, words}
use Rattle.little_endian.proofs.Bytes.{length_words}
use Rattle.model.specs.Good.{good_bits}
use Rattle.file_layout.specs.Checks.{sum_test}
use Rattle.file_layout.specs.Layout.{count, offset, size}
use Rattle.file_layout.specs.Reading.{body_at, shape_of, sum_of}
use Rattle.file_layout.specs.inner.Whole.{Whole}
use Rattle.file_layout.proofs.Bounds.{offset_none}
use Rattle.file_layout.proofs.Whole.{offset_next, offset_up}
use Rattle.model.specs.declared.Shape.{Shape}

module _ (sh : Shape) (f : List ℕ) (w : Whole sh f) (i : ℕ) (l : i < count sh) where
  pub body_within : (o s : ℕ) → o ≡ offset sh i → s ≡ size sh i → o + 8 * s ≤ length f
  body_within o s e h = omega (arith, w.long, offset_next sh i, offset_up sh (suc i) (count sh) l)

  pub sum_within : 16 + i * 16 + 8 ≤ length f
  sum_within = omega (arith, w.long, offset_none sh, offset_up sh 0 (count sh) (omega arith))

-- the body, as the code reads it
pub body_read : {A : Type 0} (g : List ℕ → A) (sh : Shape) (f : List ℕ) (i o s : ℕ) → o ≡ offset sh i → s ≡ size sh i
    → g (words s (part o (8 * s) f)) ≡ g (body_at sh f i)
unfolding body_at
body_read g sh f i o s e h = ap₂ (λ (a b : ℕ). g (words b (part a (8 * b) f))) e h

pub good_read : (sh : Shape) (f : List ℕ) (i o s : ℕ) → o ≡ offset sh i → s ≡ size sh i → size sh i ≤ first_bad good_bits (body_at sh f i)
    → s ≤ first_bad good_bits (words s (part o (8 * s) f))
good_read sh f i o s e h k = omega (arith, k, h, body_read (first_bad good_bits) sh f i o s e h)

pub length_body : (sh : Shape) (f : List ℕ) (i : ℕ) → length (body_at sh f i) ≡ size sh i
unfolding body_at
length_body sh f i = length_words (size sh i) _

-- the test of the sum of table i, by what the code found
pub sum_test_lem : (sh : Shape) (f : List ℕ) → sh ≡ shape_of f → (i : ℕ) (b t : Bool)
    → b ≡ eqb (sum (body_at sh f i)) (sum_of f i) → not b ≡ t → (sum_test f i).0 ≡ t
sum_test_lem sh f own i b t e h = ap not (ap (λ (s : Shape). eqb (sum (body_at s f i)) (sum_of f i)) (sym own) ∙ sym e) ∙ h

-- for a body and a sum that are read
pub ruleset standing = (body_within, sum_within)
