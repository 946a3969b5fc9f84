-- `peak` of n numbers is their first greatest entry (RULES 5.2), and no other is.
use Prim.Native.Nat.{ℕ, zero, suc, ◌≤◌, ◌<◌}
use native.Mathlib.Nat.{eq-or-lt_of_le, le_of_suc-le-suc, not-suc-le-zero, lt-suc_self}
use native.Mathlib.Omega.{arith}
use mathlib.Core.Path.{◌≡◌, refl, sym, ap, ap₂, ◌∙◌, subst}
use mathlib.Core.Logic.{⊎_elim}
use mathlib.Core.Bool.{Bool, true, false, not, cond}
use lib.Dec.{T, T_not}
use lib.Ieee.{Float, nan, inf, fin, lt, le, is_nan}
use Rattle.floats.specs.Float.{is_number, minus_infinity}
use Rattle.floats.proofs.Order.{le_left, le_self, le_le, lt_le, le_lt_lt, lt_le_lt, not_lt}
use Rattle.sums.specs.Sum.{Numbers, FirstGreatest, raised, peak}
use Rattle.sums.specs.declared.sum.Peak.{Peak}

-- the first n of n + 1 numbers are numbers
pub fewer : (n : ℕ) (f : ℕ → Float) → Numbers (suc n) f → Numbers n f
fewer n f h k l = h k (omega arith)

-- ---- one more entry
module _ (p : Peak) (x : Float) (k : ℕ) where
  -- a property of the entry that takes over, and of the one that stays
  pub raised_keeps : (P : Peak → Type 0) → (T (lt p.value x) → P (record { value = x; place = k })) → (T (not (lt p.value x)) → P p) → P (raised p x k)
  unfolding raised
  raised_keeps P h g = go (lt p.value x) h g
    where
      go : (t : Bool) → (T t → P (record { value = x; place = k })) → (T (not t) → P p) → P (cond t (record { value = x; place = k }) p)
      go true a b = a tt
      go false a b = b tt

  raised_number : T (is_number p.value) → T (is_number x) → T (is_number (raised p x k).value)
  raised_number h g = raised_keeps (λ (q : Peak). T (is_number q.value)) (λ _. g) (λ _. h)

  raised_top : T (is_number p.value) → T (is_number x) → T (le p.value (raised p x k).value) × T (le x (raised p x k).value)
  raised_top h g =
      raised_keeps (λ (q : Peak). T (le p.value q.value) × T (le x q.value))
      (λ l. (lt_le p.value x l, le_self x g))
      (λ l. (le_self p.value h, subst T (not_lt p.value x h g) l))

-- ---- the greatest
pub peak_number : (n : ℕ) (f : ℕ → Float) → Numbers n f → T (is_number (peak n f).value)
unfolding peak is_nan
peak_number zero f h = tt
peak_number (suc n) f h = raised_number (peak n f) (f n) n (peak_number n f (fewer n f h)) (h n (lt-suc_self n))

pub peak_top : (n : ℕ) (f : ℕ → Float) → Numbers n f → (k : ℕ) → k < n → T (le (f k) (peak n f).value)
unfolding peak
peak_top zero f h k l = absurd (not-suc-le-zero l)
peak_top (suc n) f h k l =
    let r = raised_top (peak n f) (f n) n (peak_number n f (fewer n f h)) (h n (lt-suc_self n)) in
    ⊎_elim
    (λ (e : k ≡ n). rw e r.1)
    (λ (m : k < n). le_le (f k) (peak n f).value _ (peak_top n f (fewer n f h) k m) r.0)
    (eq-or-lt_of_le (le_of_suc-le-suc l))

-- ---- its place
-- a number that is not above minus infinity is minus infinity
bottom_is : (x : Float) → T (is_number x) → T (not (lt minus_infinity x)) → minus_infinity ≡ x
unfolding is_nan lt
bottom_is nan h l = absurd h
bottom_is (inf true) h l = refl
bottom_is (inf false) h l = absurd l
bottom_is (fin s m e) h l = absurd l

pub peak_within : (n : ℕ) (f : ℕ → Float) → (peak (suc n) f).place ≤ n
unfolding peak
peak_within zero f = raised_keeps (peak 0 f) (f 0) 0 (λ (q : Peak). q.place ≤ 0) (λ _. omega arith) (λ _. omega arith)
peak_within (suc n) f =
    let r = peak_within n f in
    raised_keeps (peak (suc n) f) (f (suc n)) (suc n) (λ (q : Peak). q.place ≤ suc n) (λ _. omega arith) (λ _. omega arith)

pub peak_held : (n : ℕ) (f : ℕ → Float) → Numbers (suc n) f → f (peak (suc n) f).place ≡ (peak (suc n) f).value
unfolding peak
peak_held zero f h =
    raised_keeps (peak 0 f) (f 0) 0 (λ (q : Peak). f q.place ≡ q.value) (λ _. refl) (λ l. sym (bottom_is (f 0) (h 0 (omega arith)) l))
peak_held (suc n) f h =
    raised_keeps (peak (suc n) f) (f (suc n)) (suc n) (λ (q : Peak). f q.place ≡ q.value) (λ _. refl) (λ _. peak_held n f (fewer (suc n) f h))

pub peak_first : (n : ℕ) (f : ℕ → Float) → Numbers n f → (k : ℕ) → k < (peak n f).place → T (lt (f k) (peak n f).value)
unfolding peak
peak_first zero f h k = λ l. absurd (not-suc-le-zero l)
peak_first (suc n) f h k =
    let g = fewer n f h in
    raised_keeps (peak n f) (f n) n (λ (q : Peak). k < q.place → T (lt (f k) q.value))
    (λ l m. le_lt_lt (f k) (peak n f).value (f n) (peak_top n f g k m) l)
    (λ _. peak_first n f g k)

-- ---- together
pub peak_is : (n : ℕ) (f : ℕ → Float) → 0 < n → Numbers n f → FirstGreatest n f (peak n f)
peak_is zero f l h = absurd (not-suc-le-zero l)
peak_is (suc n) f l h =
    let w = peak_within n f in
    record { within = omega arith; held = peak_held n f h; greatest = peak_top (suc n) f h; first = peak_first (suc n) f h }

below_self : (x : Float) → T (lt x x) → ⊥
below_self x h =
    let n = le_left x x (lt_le x x h) in
    T_not (lt x x) (subst T (sym (not_lt x x n n)) (le_self x n)) h

-- of two first greatest entries neither comes before the other
not_before : (n : ℕ) (f : ℕ → Float) (p q : Peak) → FirstGreatest n f p → FirstGreatest n f q → p.place < q.place → ⊥
not_before n f p q a b l =
    let up : T (lt p.value q.value) = rw a.held at (b.first p.place l) in
    let down : T (le q.value p.value) = rw b.held at (a.greatest q.place b.within) in
    below_self p.value (lt_le_lt p.value q.value p.value up down)

pub peak_unique : (n : ℕ) (f : ℕ → Float) (p q : Peak) → FirstGreatest n f p → FirstGreatest n f q → p ≡ q
peak_unique n f p q a b =
    let place : p.place ≡ q.place = level p.place q.place (not_before n f p q a b) (not_before n f q p b a) in
    let value : p.value ≡ q.value = sym a.held ∙ ap f place ∙ b.held in
    ap₂ (λ (v : Float) (k : ℕ). record { value = v; place = k }) value place
  where
    level : (i j : ℕ) → (i < j → ⊥) → (j < i → ⊥) → i ≡ j
    level i j g h = omega arith
