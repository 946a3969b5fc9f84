-- Values from +0.0 to 1.0: products, complements and quotients stay there, and 1 plus one is at least 1.
use mathlib.Core.Path.{◌≡◌, refl, sym, ap, ◌∙◌, subst}
use mathlib.Core.Bool.{Bool, true, false, cond}
use Prim.Native.Nat.{ℕ, ◌+◌, ◌-◌, ◌*◌, ◌≤◌, ◌<◌}
use native.Mathlib.Nat.{le_trans, le_of_eq, lt_of_lt_of_le, lt_irrefl, mul-one, one-mul, mul_comm, mul-pos, mul-le-mul, mul-le-mul_right, zero-mul}
use native.Mathlib.Omega.{arith}
use borrow.Author.Tests.{le-ltb}
use lib.Dec.{T, eqb, leb→le, le→leb, eqb→eq}
use lib.IntN.{ℤ}
use lib.Ieee.{Float, nan, inf, fin, binary64, up, down, round, size, le, lt, eq, mul, add, sub, sum, neg, div}
use lib.Ieee.Fits.{down_pos}
use lib.Ieee.Exact.{HasValue}
use lib.Ieee.Order.{round_mono}
use Rattle.floats.specs.Float.{one}
use Rattle.floats.specs.inner.Sign.{nonneg, unit}
use Rattle.floats.proofs.Tests.{or_le}
use Rattle.floats.proofs.Sign.{round_nonneg}

le_one→unit : (x : Float) → T (nonneg x) → T (le x one) → T (unit x)
unfolding le lt eq
le_one→unit nan n h = absurd n
le_one→unit (inf true) n h = absurd n
le_one→unit (inf false) n h = absurd h
le_one→unit (fin true m e) n h = absurd n
le_one→unit (fin false m e) n h =
    let a : m * up e * 1 ≤ 1 * down e = or_le (m * up e * 1) (1 * down e) h in
    le→leb (m * up e) (down e) (le_trans (le_of_eq (sym (mul-one (m * up e)))) (le_trans a (le_of_eq (one-mul (down e)))))

rounded_one : round binary64 false 1 1 ≡ one
unfolding round size
rounded_one = refl

-- a fraction that is at most 1 rounds to such a value
pub round_unit : (a b : ℕ) → 0 < b → a ≤ b → T (unit (round binary64 false a b))
round_unit a b B h =
    le_one→unit (round binary64 false a b) (round_nonneg a b)
    (subst (λ (y : Float). T (le (round binary64 false a b) y)) rounded_one
    (round_mono binary64 a b 1 1 B (omega arith) (le_trans (le_of_eq (mul-one a)) (le_trans h (le_of_eq (sym (one-mul b)))))))

-- products, complements and quotients by a whole number stay there
pub unit_mul : (x y : Float) → T (unit x) → T (unit y) → T (unit (mul binary64 x y))
unfolding mul
unit_mul nan y h k = absurd h
unit_mul (inf s) y h k = absurd h
unit_mul (fin true m e) y h k = absurd h
unit_mul (fin false m e) nan h k = absurd k
unit_mul (fin false m e) (inf t) h k = absurd k
unit_mul (fin false m e) (fin true n d) h k = absurd k
unit_mul (fin false m e) (fin false n d) h k =
    round_unit (m * up e * (n * up d)) (down e * down d) (mul-pos (down_pos e) (down_pos d))
    (mul-le-mul (leb→le (m * up e) (down e) h) (leb→le (n * up d) (down d) k))

pub unit_complement : (y : Float) → T (unit y) → T (unit (sub binary64 one y))
unfolding sub add sum neg
unit_complement nan k = absurd k
unit_complement (inf t) k = absurd k
unit_complement (fin true n d) k = absurd k
unit_complement (fin false n d) k =
    let b = n * up d in
    let a = 1 * down d in
    let less : b * 1 ≤ a = le_trans (le_of_eq (mul-one b)) (le_trans (leb→le b (down d) k) (le_of_eq (sym (one-mul (down d))))) in
    subst (λ (t : Bool). T (unit (cond t (round binary64 true (b * 1 - a) a) (round binary64 false (a - b * 1) a)))) (sym (le-ltb a (b * 1) less))
    (round_unit (a - b * 1) a (mul-pos (omega arith) (down_pos d)) (omega arith))

-- the quotient by k / 1, k from 1 up
unit_div : (x : Float) (n : ℕ) (d : ℤ) → T (unit x) → down d ≤ n * up d → T (unit (div binary64 x (fin false n d)))
unfolding div
unit_div nan n d h k = absurd h
unit_div (inf s) n d h k = absurd h
unit_div (fin true m e) n d h k = absurd h
unit_div (fin false m e) n d h k = go (eqb n 0) (eqb→eq n 0)
  where
    never : n ≡ 0 → ⊥
    never z = lt_irrefl 0 (lt_of_lt_of_le (down_pos d) (le_trans k (le_of_eq (ap (λ (a : ℕ). a * up d) z ∙ zero-mul (up d)))))

    go : (b : Bool) → (T b → n ≡ 0) → T (unit (cond b (cond (eqb m 0) nan (inf false)) (round binary64 false (m * up e * down d) (n * up d * down e))))
    go true f = absurd (never (f tt))
    go false f =
        round_unit (m * up e * down d) (n * up d * down e) (mul-pos (lt_of_lt_of_le (down_pos d) k) (down_pos e))
        (le_trans (mul-le-mul (leb→le (m * up e) (down e) h) k) (le_of_eq (mul_comm (down e) (n * up d))))

-- the quotient by a whole number from 1 up
pub unit_whole : (x y : Float) (a : ℕ) → T (unit x) → HasValue y false a 1 → 1 ≤ a → T (unit (div binary64 x y))
unit_whole x nan a h v k = absurd v
unit_whole x (inf t) a h v k = absurd v
unit_whole x (fin t n d) a h v k =
    subst (λ (s : Bool). T (unit (div binary64 x (fin s n d)))) (sym v.0)
    (unit_div x n d h (le_trans (le_trans (le_of_eq (sym (one-mul (down d)))) (mul-le-mul_right (down d) k)) (le_of_eq (sym v.1 ∙ mul-one (n * up d)))))

-- so ln takes 1 + s, and gives no less than 0
pub one_plus : (s : Float) → T (nonneg s) → T (le one (add binary64 one s))
unfolding add sum
one_plus nan h = absurd h
one_plus (inf true) h = absurd h
one_plus (inf false) h = unfold le lt eq in tt
one_plus (fin true n d) h = absurd h
one_plus (fin false n d) h =
    subst (λ (x : Float). T (le x (round binary64 false (1 * down d + n * up d * 1) (1 * down d)))) rounded_one
    (round_mono binary64 1 1 (1 * down d + n * up d * 1) (1 * down d) (omega arith) (mul-pos (omega arith) (down_pos d)) (go (1 * down d) (n * up d * 1)))
  where
    go : (a b : ℕ) → 1 * a ≤ (a + b) * 1
    go a b = omega arith
