-- Laws of numbers as bytes, and of words.
use Rattle.std.proofs.Common.{◌≡◌, ℕ, zero, suc, ◌+◌, ◌-◌, ◌*◌, ◌/◌, ◌%◌, ◌^◌, ◌<◌, ◌≤◌, List, [], ◌∷◌, ◌++◌, length, get_or, take, drop, sym, refl, ap, ◌∙◌, append_assoc, append-nil, le_of_suc-le-suc, not-suc-le-zero, mod-lt, mod-eq_of_lt, div-lt_iff_lt-mul, pow-suc, zero-add, div-one, arith, length-append, length-drop, take-append-drop, length-take, length-take-le, take_at, get_or-append-add, drop_at, shr-shr}
use native.Mathlib.Nat.{pow-le-pow_right, min-le_left, pow-zero, mod-add-div, add-mul-mod_self_left}
use native.Mathlib.Nat.{add-mul-div_left, div-eq_of_lt}
use lib.ListN.{get_or-append}
use Rattle.little_endian.specs.Bytes.{little, value, bytes, words, total, Below}

pub length_little : (n x : ℕ) → length (little n x) ≡ n
unfolding little
length_little zero x = refl
length_little (suc n) x = ap suc (length_little n (x / 256))

pub value_little : (n x : ℕ) → x < 256 ^ n → value (little n x) ≡ x
unfolding little value
value_little zero x h = omega (arith, pow-zero 256)
value_little (suc n) x h =
    let q : x / 256 < 256 ^ n = (div-lt_iff_lt-mul {k = 256} {x = x} {y = 256 ^ n} (omega arith)).1 (rw (pow-suc 256 n) at h) in
    rw (value_little n (x / 256) q) (mod-add-div x 256)

pub little_value : (bs : List ℕ) → Below 256 bs → little (length bs) (value bs) ≡ bs
unfolding little value Below
little_value [] h = refl
little_value (b ∷ bs) h =
    let m : (b + 256 * value bs) % 256 ≡ b = add-mul-mod_self_left b 256 (value bs) ∙ mod-eq_of_lt h.0 in
    let d : (b + 256 * value bs) / 256 ≡ value bs = add-mul-div_left b (value bs) {y = 256} (omega arith)
    ∙ ap (λ (q : ℕ). q + value bs) (div-eq_of_lt h.0) ∙ zero-add (value bs) in
    rw (m, d, little_value bs h.1)

pub value_small : (bs : List ℕ) → Below 256 bs → value bs < 256 ^ length bs
unfolding value Below
value_small [] h = omega (arith, pow-zero 256)
value_small (b ∷ bs) h = let r = value_small bs h.1 in let l = h.0 in omega (arith, r, l, pow-suc 256 (length bs))

pub little_below : (n x : ℕ) → Below 256 (little n x)
unfolding little Below
little_below zero x = tt
little_below (suc n) x = (mod-lt x (omega arith), little_below n (x / 256))

-- two numbers of the same bytes
pub little_one : (n x y : ℕ) → x < 256 ^ n → y < 256 ^ n → little n x ≡ little n y → x ≡ y
little_one n x y h k e = sym (value_little n x h) ∙ ap value e ∙ value_little n y k

-- ---- below a bound
pub below_take : (m n : ℕ) (l : List ℕ) → Below m l → Below m (take n l)
unfolding Below
below_take m zero l h = tt
below_take m (suc n) [] h = tt
below_take m (suc n) (x ∷ l) h = (h.0, below_take m n l h.1)

pub below_drop : (m n : ℕ) (l : List ℕ) → Below m l → Below m (drop n l)
unfolding Below
below_drop m zero l h = h
below_drop m (suc n) [] h = tt
below_drop m (suc n) (x ∷ l) h = below_drop m n l h.1

pub below_both : (m : ℕ) (a b : List ℕ) → Below m a → Below m b → Below m (a ++ b)
unfolding Below
below_both m [] b h k = k
below_both m (x ∷ a) b h k = (h.0, below_both m a b h.1 k)

pub below_all : (m : ℕ) (l : List ℕ) → ((i : ℕ) → i < length l → get_or l i 0 < m) → Below m l
unfolding Below
below_all m [] h = tt
below_all m (x ∷ l) h = (h 0 (omega arith), below_all m l (λ (i : ℕ) k. h (suc i) (omega arith)))

pub below_at : (m : ℕ) (l : List ℕ) → Below m l → (i : ℕ) → i < length l → get_or l i 0 < m
unfolding Below
below_at m [] h i k = absurd (not-suc-le-zero k)
below_at m (x ∷ l) h zero k = h.0
below_at m (x ∷ l) h (suc i) k = below_at m l h.1 i (omega arith)

-- ---- words
pub length_words : (n : ℕ) (bs : List ℕ) → length (words n bs) ≡ n
unfolding words
length_words zero bs = refl
length_words (suc n) bs = ap suc (length_words n (drop 8 bs))

pub length_bytes : (ws : List ℕ) → length (bytes ws) ≡ 8 * length ws
unfolding bytes
length_bytes [] = refl
length_bytes (w ∷ ws) = rw (length-append, length_little, length_bytes ws) (omega arith)

pub words_bytes : (ws : List ℕ) → Below (2 ^ 64) ws → words (length ws) (bytes ws) ≡ ws
unfolding words bytes Below
words_bytes [] h = refl
words_bytes (w ∷ ws) h =
    rw (
      take_at (little 8 w) (bytes ws) 8 (length_little 8 w),
      drop_at (little 8 w) (bytes ws) 8 (length_little 8 w),
      value_little 8 w h.0,
      words_bytes ws h.1,
    )

no_bytes : (bs : List ℕ) → length bs ≡ 0 → [] ≡ bs
no_bytes [] h = refl
no_bytes (b ∷ bs) h = absurd (omega arith)

pub bytes_words : (n : ℕ) (bs : List ℕ) → Below 256 bs → length bs ≡ 8 * n → bytes (words n bs) ≡ bs
unfolding words bytes
bytes_words zero bs h l = no_bytes bs l
bytes_words (suc n) bs h l =
    let t : length (take 8 bs) ≡ 8 = length-take-le 8 bs (omega arith) in
    let r : length (drop 8 bs) ≡ 8 * n = length-drop 8 bs ∙ omega arith in
    let w : little 8 (value (take 8 bs)) ≡ take 8 bs = sym (ap (λ (k : ℕ). little k (value (take 8 bs))) t)
    ∙ little_value (take 8 bs) (below_take 256 8 bs h) in
    rw (w, bytes_words n (drop 8 bs) (below_drop 256 8 bs h) r) (take-append-drop 8 bs)

value_eight : (bs : List ℕ) → Below 256 bs → value (take 8 bs) < 2 ^ 64
value_eight bs h =
    let v = value_small (take 8 bs) (below_take 256 8 bs h) in
    let l : length (take 8 bs) ≤ 8 = rw length-take (min-le_left 8 (length bs)) in
    let p : 256 ^ length (take 8 bs) ≤ 256 ^ 8 = pow-le-pow_right {n = 256} (omega arith) l in
    omega arith

pub words_small : (n : ℕ) (bs : List ℕ) → Below 256 bs → Below (2 ^ 64) (words n bs)
unfolding words Below
words_small zero bs h = tt
words_small (suc n) bs h = (value_eight bs h, words_small n (drop 8 bs) (below_drop 256 8 bs h))

-- ---- a byte by its place
pub little_at : (n x j : ℕ) → j < n → get_or (little n x) j 0 ≡ x / 2 ^ (8 * j) % 256
unfolding little
little_at zero x j h = absurd (not-suc-le-zero h)
little_at (suc n) x zero h = ap (λ (q : ℕ). q % 256) (sym (div-one x))
little_at (suc n) x (suc j) h =
    let e : 8 + 8 * j ≡ 8 * suc j = omega arith in
    little_at n (x / 256) j (le_of_suc-le-suc h) ∙ ap (λ (q : ℕ). q % 256) (shr-shr x 8 (8 * j) ∙ ap (λ (k : ℕ). x / 2 ^ k) e)

-- the first of two lists, and the second
module _ (n x : ℕ) (rest : List ℕ) where
  pub at_front : (j : ℕ) → j < n → x / 2 ^ (8 * j) % 256 ≡ get_or (little n x ++ rest) j 0
  at_front j h = sym (get_or-append (little n x) rest 0 j (rw length_little h) ∙ little_at n x j h)

  pub past_front : (j : ℕ) → n ≤ j → get_or rest (j - n) 0 ≡ get_or (little n x ++ rest) j 0
  past_front j h =
      let e : length (little n x) + (j - n) ≡ j = rw length_little (omega arith) in
      sym (sym (ap (λ (k : ℕ). get_or (little n x ++ rest) k 0) e) ∙ get_or-append-add (little n x) rest (j - n) 0)

-- ---- words one after the other
pub bytes_both : (v w : List ℕ) → bytes (v ++ w) ≡ bytes v ++ bytes w
unfolding bytes
bytes_both [] w = refl
bytes_both (x ∷ v) w = ap (λ (l : List ℕ). little 8 x ++ l) (bytes_both v w) ∙ sym (append_assoc (little 8 x) (bytes v) (bytes w))

pub total_both : (v w : List ℕ) → total (v ++ w) ≡ total v + total w
unfolding total
total_both [] w = omega arith
total_both (x ∷ v) w = let h = total_both v w in omega arith

pub one_word : (w : ℕ) → bytes (w ∷ []) ≡ little 8 w
unfolding bytes
one_word w = append-nil (little 8 w)

pub one_total : (w : ℕ) → total (w ∷ []) ≡ w
unfolding total
one_total w = omega arith
