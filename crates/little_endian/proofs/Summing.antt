-- A loop over the words of a body, from the first on: what it knows at word i.
use Rattle.std.proofs.Common.{◌≡◌, ℕ, zero, suc, ◌+◌, ◌*◌, ◌<◌, ◌≤◌, List, length, get_or, take, drop, refl, ap, ◌∙◌, le_of_suc-le-suc, not-suc-le-zero, arith, drop-drop}
use Rattle.lists.specs.Lists.{part}
use Rattle.little_endian.specs.Bytes.{value, words}
use Rattle.little_endian.proofs.Bytes.{length_words}
use Rattle.lists.proofs.Parts.{part_part}

-- word i
pub word_at : (n : ℕ) (bs : List ℕ) (i : ℕ) (d : ℕ) → i < n → get_or (words n bs) i d ≡ value (part (8 * i) 8 bs)
unfolding words
word_at zero bs i d h = absurd (not-suc-le-zero h)
word_at (suc n) bs zero d h = refl
word_at (suc n) bs (suc i) d h =
    let e : 8 + 8 * i ≡ 8 * suc i = omega arith in
    word_at n (drop 8 bs) i d (le_of_suc-le-suc h) ∙ ap (λ (l : List ℕ). value (take 8 l)) (drop-drop (8 * i) 8 bs ∙ ap (λ (k : ℕ). drop k bs) e)

-- a loop over the n words from byte `at` on
module _ (file : List ℕ) (at n i : ℕ) (l : i < n) where
  pub words_in : i < length (words n (part at (8 * n) file))
  words_in = rw length_words l

  pub word_in : get_or (words n (part at (8 * n) file)) i 0 ≡ value (part (at + 8 * i) 8 file)
  word_in = word_at n (part at (8 * n) file) i 0 l ∙ ap value (part_part (8 * i) 8 at (8 * n) file (omega arith))

pub words_out : (file : List ℕ) (at n i : ℕ) → n ≤ i → length (words n (part at (8 * n) file)) ≤ i
words_out file at n i h = rw length_words h
