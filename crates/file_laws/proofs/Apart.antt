-- A flipped bit moves a byte by a power of two, a word by another, and a wrapping sum to another sum.
use Prim.Native.Nat.{ℕ, zero, suc, ◌+◌, ◌-◌, ◌*◌, ◌/◌, ◌%◌, ◌^◌, ◌≤◌, ◌<◌}
use mathlib.Core.Path.{◌≡◌, refl, sym, ap, ◌∙◌}
use mathlib.Core.Bool.{Bool, true, false, cond}
use mathlib.Core.List.{List, [], ◌∷◌}
use mathlib.Core.Logic.{◌⊎◌, inl, inr, ⊎_elim}
use native.Mathlib.Nat.{not-suc-le-zero, le_of_suc-le-suc, div-eq_of_lt, pow-succ', pow-zero}
use native.Mathlib.Nat.{one-mul, mul_assoc, mul-le-mul, pow-le-pow_right, one-le-pow, mul-pos}
use native.Mathlib.Omega.{arith}
use lib.Dec.{eqb}
use lib.ListN.{length, get_or, take, drop, set, length-drop}
use lib.Seq.{length-take-le, take-set-le, take-set-lt, drop-set-lt, drop-set-add, get_or-take, get_or-drop}
use borrow.Author.Tests.{eqb-false}
use Rattle.lists.proofs.Parts.{le_or_lt}
use Rattle.little_endian.specs.Bytes.{sum, total, value, words}
use Rattle.file_laws.specs.Flip.{flip}

-- y is d above x, or d below
abbrev pub Apart : ℕ → ℕ → ℕ → Type 0
Apart d x y = (y ≡ x + d) ⊎ (x ≡ y + d)

pub apart_not : (d x y : ℕ) → 0 < d → Apart d x y → x ≡ y → ⊥
apart_not d x y z a e = ⊎_elim (λ (h : y ≡ x + d). omega arith) (λ (h : x ≡ y + d). omega arith) a

-- ---- a byte
room : (k x : ℕ) → k < 8 → x < 256 → x / 2 ^ k % 2 ≡ 0 → x + 2 ^ k < 256
room zero x h l e = omega arith
room (suc zero) x h l e = omega arith
room (suc (suc zero)) x h l e = omega arith
room (suc (suc (suc zero))) x h l e = omega arith
room (suc (suc (suc (suc zero)))) x h l e = omega arith
room (suc (suc (suc (suc (suc zero))))) x h l e = omega arith
room (suc (suc (suc (suc (suc (suc zero)))))) x h l e = omega arith
room (suc (suc (suc (suc (suc (suc (suc zero))))))) x h l e = omega arith
room (suc (suc (suc (suc (suc (suc (suc (suc k)))))))) x h l e = absurd (omega arith)

enough : (k x : ℕ) → (x / 2 ^ k % 2 ≡ 0 → ⊥) → 2 ^ k ≤ x
enough k x e =
    ⊎_elim
    (λ (h : 2 ^ k ≤ x). h)
    (λ (h : x < 2 ^ k). absurd (e (ap (λ (q : ℕ). q % 2) (div-eq_of_lt h))))
    (le_or_lt (2 ^ k) x)

module _ (k x : ℕ) (h : k < 8) (l : x < 256) where
  pub flip_apart : Apart (2 ^ k) x (flip k x)
  unfolding flip
  flip_apart = go (eqb (x / 2 ^ k % 2) 0) (eqb-false _ _)
    where
      go : (b : Bool) → (b ≡ false → x / 2 ^ k % 2 ≡ 0 → ⊥) → Apart (2 ^ k) x (cond b (x + 2 ^ k) (x - 2 ^ k))
      go true e = inl refl
      go false e = let m = enough k x (e refl) in inr (omega arith)

-- ---- a word
pub value_apart : (bs : List ℕ) (q y d : ℕ) → q < length bs → Apart d (get_or bs q 0) y → Apart (256 ^ q * d) (value bs) (value (set bs q y))
unfolding value
value_apart [] q y d h a = absurd (not-suc-le-zero h)
value_apart (b ∷ bs) zero y d h a =
    ⊎_elim (λ (e : y ≡ b + d). inl (omega (arith, pow-zero 256, one-mul d))) (λ (e : b ≡ y + d). inr (omega (arith, pow-zero 256, one-mul d))) a
value_apart (b ∷ bs) (suc q) y d h a =
    let m : 256 ^ suc q * d ≡ 256 * (256 ^ q * d) = rw (pow-succ' 256 q) (mul_assoc 256 (256 ^ q) d) in
    ⊎_elim
    (λ (e : value (set bs q y) ≡ value bs + 256 ^ q * d). inl (omega arith))
    (λ (e : value bs ≡ value (set bs q y) + 256 ^ q * d). inr (omega arith))
    (value_apart bs q y d (le_of_suc-le-suc h) a)

-- within a word
pub step_pos : (q d : ℕ) → 0 < d → 0 < 256 ^ q * d
step_pos q d h = mul-pos (one-le-pow q 256 (omega arith)) h

pub step_small : (q d : ℕ) → q < 8 → d < 256 → 256 ^ q * d < 2 ^ 64
step_small q d h l =
    let p : 256 ^ q ≤ 256 ^ 7 = pow-le-pow_right {n = 256} (omega arith) (le_of_suc-le-suc h) in
    let d' : d ≤ 255 = omega arith in
    let m : 256 ^ q * d ≤ 256 ^ 7 * 255 = mul-le-mul p d' in
    omega arith

-- ---- a sum
-- by how far the sum of a body is off
pub record Off (x y : ℕ) : Type 0 where
  pub step : ℕ
  pub some : 0 < step
  pub small : step < 2 ^ 64
  pub apart : Apart step x y

off_left : (x y t : ℕ) → Off x y → Off (x + t) (y + t)
off_left x y t o =
    record {
      step = o.step;
      some = o.some;
      small = o.small;
      apart = ⊎_elim (λ (e : y ≡ x + o.step). inl (omega arith)) (λ (e : x ≡ y + o.step). inr (omega arith)) o.apart;
    }

off_right : (x y t : ℕ) → Off x y → Off (t + x) (t + y)
off_right x y t o =
    record {
      step = o.step;
      some = o.some;
      small = o.small;
      apart = ⊎_elim (λ (e : y ≡ x + o.step). inl (omega arith)) (λ (e : x ≡ y + o.step). inr (omega arith)) o.apart;
    }

pub total_off : (n : ℕ) (bs : List ℕ) (q y d : ℕ) → q < 8 * n → 8 * n ≤ length bs → 0 < d → d < 256 → Apart d (get_or bs q 0) y
    → Off (total (words n bs)) (total (words n (set bs q y)))
unfolding words total
total_off zero bs q y d h l z s a = absurd (omega arith)
total_off (suc n) bs q y d h l z s a =
    ⊎_elim
    (λ (k : 8 ≤ q).
    let e : 8 + (q - 8) ≡ q = omega arith in
    let t : take 8 (set bs q y) ≡ take 8 bs = take-set-le 8 bs q y k in
    let r : drop 8 (set bs q y) ≡ set (drop 8 bs) (q - 8) y = sym (ap (λ (i : ℕ). drop 8 (set bs i y)) e) ∙ drop-set-add 8 bs (q - 8) y in
    let g : get_or (drop 8 bs) (q - 8) 0 ≡ get_or bs q 0 = get_or-drop 8 bs (q - 8) 0 ∙ ap (λ (i : ℕ). get_or bs i 0) e in
    rw (t, r)
    (off_right (total (words n (drop 8 bs))) (total (words n (set (drop 8 bs) (q - 8) y))) (value (take 8 bs))
    (total_off n (drop 8 bs) (q - 8) y d (omega arith) (rw length-drop (omega arith)) z s (rw g a))))
    (λ (k : q < 8).
    let t : take 8 (set bs q y) ≡ set (take 8 bs) q y = take-set-lt 8 bs q y k in
    let r : drop 8 (set bs q y) ≡ drop 8 bs = drop-set-lt 8 bs q y k in
    let g : get_or (take 8 bs) q 0 ≡ get_or bs q 0 = get_or-take 8 bs q 0 k in
    let w : q < length (take 8 bs) = rw (length-take-le 8 bs (omega arith)) k in
    rw (t, r)
    (off_left (value (take 8 bs)) (value (set (take 8 bs) q y)) (total (words n (drop 8 bs)))
    record { step = 256 ^ q * d; some = step_pos q d z; small = step_small q d k s; apart = value_apart (take 8 bs) q y d w (rw g a) }))
    (le_or_lt 8 q)

-- "one flipped bit always changes the sum"
wraps : (x d : ℕ) → 0 < d → d < 2 ^ 64 → x % 2 ^ 64 ≡ (x + d) % 2 ^ 64 → ⊥
wraps x d z s e = omega arith

pub sum_off : (v w : List ℕ) → Off (total v) (total w) → sum v ≡ sum w → ⊥
unfolding sum
sum_off v w o e =
    ⊎_elim
    (λ (h : total w ≡ total v + o.step). wraps (total v) o.step o.some o.small (e ∙ ap (λ (t : ℕ). t % 2 ^ 64) h))
    (λ (h : total v ≡ total w + o.step). wraps (total w) o.step o.some o.small (sym e ∙ ap (λ (t : ℕ). t % 2 ^ 64) h))
    o.apart
