-- The thirty constants keep their rule, and the rule fixes them: any table that keeps it is this one.
use mathlib.Core.Path.{◌≡◌, refl, sym, ap, ◌∙◌, subst}
use mathlib.Core.List.{List, [], ◌∷◌}
use Prim.Native.Nat.{ℕ, suc, ◌+◌, ◌*◌, ◌^◌, ◌≤◌, ◌<◌}
use native.Mathlib.Nat.{le_trans, lt_of_lt_of_le, lt_irrefl, lt_of_not-le, le_antisymm, mul-le-mul}
use native.Mathlib.Omega.{arith}
use lib.Dec.{T, leb, ltb, ltb→lt, leb→le}
use lib.ListN.{length}
use lib.Ieee.Fits.{and_l, and_r}
use Rattle.kernels.specs.Roots.{is_root, chained, Rule, constants}

-- the rule, over the whole table
pub constants_rule : Rule constants
unfolding constants
constants_rule = record { thirty = refl; roots = tt }

-- ---- a number has one whole square root
root_le : (a b n : ℕ) → T (is_root a n) → T (is_root b n) → a ≤ b
root_le a b n h k =
    let lo = leb→le (a * a) n (and_l (leb (a * a) n) (ltb n ((a + 1) * (a + 1))) h) in
    let hi = ltb→lt n ((b + 1) * (b + 1)) (and_r (leb (b * b) n) (ltb n ((b + 1) * (b + 1))) k) in
    last (lt_of_not-le (λ (g : b + 1 ≤ a). lt_irrefl n (lt_of_lt_of_le hi (le_trans (mul-le-mul g g) lo))))
  where
    last : a < b + 1 → a ≤ b
    last h = omega arith

pub root_unique : (a b n : ℕ) → T (is_root a n) → T (is_root b n) → a ≡ b
root_unique a b n h k = le_antisymm (root_le a b n h k) (root_le b a n k h)

-- ---- so two chains of one length, from one start, are one
chained_unique : (before : ℕ) (xs ys : List ℕ) → T (chained before xs) → T (chained before ys) → length xs ≡ length ys → xs ≡ ys
chained_unique before [] [] h k e = refl
chained_unique before [] (y ∷ ys) h k e = absurd (never (length ys) e)
  where
    never : (n : ℕ) → 0 ≡ suc n → ⊥
    never n z = omega arith
chained_unique before (x ∷ xs) [] h k e = absurd (never (length xs) e)
  where
    never : (n : ℕ) → suc n ≡ 0 → ⊥
    never n z = omega arith
chained_unique before (x ∷ xs) (y ∷ ys) h k e =
    let n = before * 2 ^ 31 in
    let same : x ≡ y = root_unique x y n (and_l (is_root x n) (chained x xs) h) (and_l (is_root y n) (chained y ys) k) in
    let rest : xs ≡ ys =
    chained_unique x xs ys (and_r (is_root x n) (chained x xs) h)
    (subst (λ (z : ℕ). T (chained z ys)) (sym same) (and_r (is_root y n) (chained y ys) k)) (less (length xs) (length ys) e) in
    ap (λ (z : ℕ). z ∷ xs) same ∙ ap (λ (zs : List ℕ). y ∷ zs) rest
  where
    less : (m n : ℕ) → suc m ≡ suc n → m ≡ n
    less m n z = omega arith

pub rule_unique : (xs ys : List ℕ) → Rule xs → Rule ys → xs ≡ ys
rule_unique xs ys h k = chained_unique (2 ^ 30) xs ys h.roots k.roots (h.thirty ∙ sym k.thirty)

pub rule_fixes : (cs : List ℕ) → Rule cs → cs ≡ constants
rule_fixes cs h = rule_unique cs constants h constants_rule
