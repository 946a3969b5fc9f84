-- Numbers as bytes in the words of the library: what `to_le_bytes` and `from_le_bytes` give, and the parts of `as_chunks`.
use Rattle.std.proofs.Common.{◌≡◌, ℕ, zero, suc, ◌+◌, ◌-◌, ◌*◌, ◌/◌, ◌%◌, ◌^◌, ◌<◌, ◌≤◌, List, [], ◌∷◌, length, get_or, take, drop, map, sym, refl, ap, ◌∙◌, ap₂, arith, div-one, pow-suc, w64, length-drop, length-take, take-take, drop-cons, drop-drop, add-one, zero-add, le_of_suc-le-suc, not-suc-le-zero, le_of_eq}
use lib.Seq.{take_all, get_or-take}
use Rattle.lists.proofs.Parts.{drop_take}
use Rattle.std.proofs.Math.Nat.{div-div-eq-div-mul, min-le_left}
use Rattle.std.specs.Int.{bytes_low_first, byte_at, from_le_bytes, to_le_bytes}
use Rattle.std.specs.Simd.{first_chunks}
use Rattle.std.specs.List.{fold}
use borrow.Rule.Slice.PartMut.{put_mid}
use Rattle.lists.specs.Lists.{part, over}
use Rattle.lists.proofs.Over.{length_part}
use Rattle.little_endian.specs.Bytes.{value, words, total, sum, little}
use Rattle.little_endian.proofs.Bytes.{length_little}

-- ---- reading
-- the bytes from byte k on are byte k and those after it
value_from : (k : ℕ) (bs : List ℕ) → value (drop k bs) ≡ get_or bs k 0 + 256 * value (drop (suc k) bs)
unfolding value
value_from zero [] = refl
value_from zero (b ∷ bs) = refl
value_from (suc k) [] = refl
value_from (suc k) (b ∷ bs) = value_from k bs

value_none : (bs : List ℕ) → length bs ≡ 0 → value bs ≡ 0
unfolding value
value_none [] h = refl
value_none (b ∷ bs) h = absurd (omega arith)

pub word_value : (bs : List ℕ) → length bs ≤ 8 → from_le_bytes w64 bs ≡ value bs
word_value bs h =
    let rest : value (drop 8 bs) ≡ 0 = value_none (drop 8 bs) (rw length-drop (omega arith)) in
    omega (arith, value_from 0 bs, value_from 1 bs, value_from 2 bs, value_from 3 bs, value_from 4 bs, value_from 5 bs, value_from 6 bs, value_from 7 bs)

pub two_value : (bs : List ℕ) (at : ℕ) → at + 2 ≤ length bs → get_or bs at 0 + get_or bs (at + 1) 0 * 256 ≡ value (part at 2 bs)
unfolding value
two_value bs at h = rw (add-one, drop-cons bs at 0 (omega arith), drop-cons bs (suc at) 0 (omega arith)) (omega arith)

-- ---- writing
byte_is : (i x : ℕ) → x / 256 ^ i % 256 ≡ byte_at i x
byte_is zero x = ap (λ (q : ℕ). q % 256) (div-one x)
byte_is (suc i) x = refl

little_from : (i n x : ℕ) → little n (x / 256 ^ i) ≡ bytes_low_first i n x
unfolding little
little_from i zero x = refl
little_from i (suc n) x =
    let e : x / 256 ^ i / 256 ≡ x / 256 ^ suc i = div-div-eq-div-mul x (256 ^ i) 256 ∙ ap (λ (k : ℕ). x / k) (sym (pow-suc 256 i)) in
    ap₂ (λ (b : ℕ) (l : List ℕ). b ∷ l) (byte_is i x) (ap (little n) e ∙ little_from (suc i) n x)

pub word_little : (x : ℕ) → to_le_bytes w64 x ≡ little 8 x
word_little x = sym (sym (ap (little 8) (div-one x)) ∙ little_from 0 8 x)

pub take_little : (k n x : ℕ) → k ≤ n → take k (little n x) ≡ little k x
unfolding little
take_little zero n x h = refl
take_little (suc k) zero x h = absurd (not-suc-le-zero h)
take_little (suc k) (suc n) x h = ap (λ (l : List ℕ). x % 256 ∷ l) (take_little k n (x / 256) (le_of_suc-le-suc h))

pub over_little : (at k x : ℕ) (l ys : List ℕ) → k ≤ 8 → ys ≡ take k (to_le_bytes w64 x) → put_mid at (at + k - at) l ys ≡ over at (little k x) l
unfolding over
over_little at k x l ys h e =
    let w : at + k - at ≡ k = omega arith in
    rw (w, e, word_little x, take_little k 8 x h, length_little, drop-drop k at l)

-- ---- words
read_words : (n : ℕ) (bs : List ℕ) → map (from_le_bytes w64) (first_chunks 8 n bs) ≡ words n bs
unfolding words
read_words zero bs = refl
read_words (suc n) bs =
    ap₂ (λ (w : ℕ) (ws : List ℕ). w ∷ ws) (word_value (take 8 bs) (rw length-take (min-le_left 8 (length bs)))) (read_words n (drop 8 bs))

-- a sum that wraps at 2^64, with a word added
abbrev pub with_word : ℕ → ℕ → ℕ
with_word t w = (t + w) % 2 ^ 64

fold_words : (ws : List ℕ) (t : ℕ) → t < 2 ^ 64 → fold with_word t ws ≡ (t + total ws) % 2 ^ 64
unfolding total
fold_words [] t h = omega arith
fold_words (w ∷ ws) t h = let r = fold_words ws (with_word t w) (omega arith) in omega arith

-- the first n parts of all that follow byte `at`, as `as_chunks` gives them
fewer : (n k : ℕ) (bs : List ℕ) → n ≤ k → take n (first_chunks 8 k bs) ≡ first_chunks 8 n bs
fewer zero k bs h = refl
fewer (suc n) zero bs h = absurd (not-suc-le-zero h)
fewer (suc n) (suc k) bs h = ap (λ (l : List (List ℕ)). take 8 bs ∷ l) (fewer n k (drop 8 bs) (le_of_suc-le-suc h))

parts_of : (bs : List ℕ) (at n : ℕ) (parts : List (List ℕ)) → at + 8 * n ≤ length bs
    → parts ≡ first_chunks 8 (length (take (length bs - at) (drop at bs)) / 8) (take (length bs - at) (drop at bs)) → take n parts ≡ first_chunks 8 n (drop at bs)
parts_of bs at n parts h e =
    let rest : length (drop at bs) ≡ length bs - at = length-drop at bs in
    let all = take_all (length bs - at) (drop at bs) (le_of_eq rest) in
    rw (e, all, rest) (fewer n ((length bs - at) / 8) (drop at bs) (omega arith))

-- only the bytes of n words are read
words_part : (n : ℕ) (bs : List ℕ) → words n (take (8 * n) bs) ≡ words n bs
unfolding words
words_part zero bs = refl
words_part (suc n) bs =
    let e : 8 * suc n ≡ 8 + 8 * n = omega arith in
    let t : take 8 (take (8 * suc n) bs) ≡ take 8 bs = take-take 8 (8 * suc n) bs (omega arith) in
    let d : drop 8 (take (8 * suc n) bs) ≡ take (8 * n) (drop 8 bs) = ap (λ (k : ℕ). drop 8 (take k bs)) e ∙ drop_take 8 (8 * n) bs in
    ap₂ (λ (a : List ℕ) (b : List ℕ). value a ∷ words n b) t d ∙ ap (λ (w : List ℕ). value (take 8 bs) ∷ w) (words_part n (drop 8 bs))

pub sum_words : (bs : List ℕ) (at n : ℕ) (parts : List (List ℕ)) → at + 8 * n ≤ length bs
    → parts ≡ first_chunks 8 (length (take (length bs - at) (drop at bs)) / 8) (take (length bs - at) (drop at bs))
    → fold with_word 0 (map (from_le_bytes w64) (take n parts)) ≡ sum (words n (part at (8 * n) bs))
unfolding sum
sum_words bs at n parts h e =
    rw (
      parts_of bs at n parts h e,
      read_words n (drop at bs),
      fold_words (words n (drop at bs)) 0 (omega arith),
      zero-add,
      words_part n (drop at bs),
    )

pub first_word : (bs : List ℕ) (at : ℕ) (parts : List (List ℕ)) → at + 8 ≤ length bs
    → parts ≡ first_chunks 8 (length (take (length bs - at) (drop at bs)) / 8) (take (length bs - at) (drop at bs)) → from_le_bytes w64 (get_or parts 0 []) ≡ value (part at 8 bs)
first_word bs at parts h e =
    let w : get_or parts 0 [] ≡ part at 8 bs = sym (get_or-take 1 parts 0 [] (omega arith)) ∙ ap (λ (l : List (List ℕ)). get_or l 0 []) (parts_of bs at 1 parts h e) in
    ap (from_le_bytes w64) w ∙ word_value (part at 8 bs) (omega (arith, length_part at 8 bs h))
