-- The steps of exp: taken one list after another or entry by entry, and the bound 2^31 that none passes.
use mathlib.Core.Path.{◌≡◌, refl, sym, ap, ◌∙◌}
use mathlib.Core.Bool.{Bool, true, false, cond, ◌&&◌}
use mathlib.Core.List.{List, [], ◌∷◌, ◌++◌}
use Prim.Native.Nat.{ℕ, zero, suc, ◌+◌, ◌-◌, ◌*◌, ◌/◌, ◌%◌, ◌^◌, ◌≤◌, ◌<◌}
use native.Mathlib.Nat.{le_refl, sub_self, le_of_lt, mul-le-mul, div-le_of_le-mul}
use native.Mathlib.Nat.{add_comm, not-suc-le-zero, le_of_suc-le-suc}
use native.Mathlib.Omega.{arith}
use lib.Dec.{T, eqb, ltb, ltb→lt}
use lib.Ieee.Fits.{and_l, and_r}
use lib.ListN.{length, get_or, take, drop, length-append}
use lib.Pow.{shr-shr}
use Rattle.kernels.specs.Roots.{constants}
use Rattle.kernels.specs.Exp.{step, steps, power}

module _ (a c : ℕ) (below : a ≤ 2 ^ 31) (small : c < 2 ^ 31) where
  pub step_le : (b : ℕ) → step c b a ≤ 2 ^ 31
  step_le b = go (eqb b 1)
    where
      go : (t : Bool) → cond t (a * c / 2 ^ 31) a ≤ 2 ^ 31
      go true = div-le_of_le-mul (2 ^ 31) (mul-le-mul below (le_of_lt small))
      go false = below

-- ---- no step passes 2^31
all_below : List ℕ → Bool
all_below [] = true
all_below (c ∷ cs) = ltb c (2 ^ 31) && all_below cs

constants_below : T (all_below constants)
unfolding constants all_below
constants_below = tt

steps_le : (cs : List ℕ) (g a : ℕ) → T (all_below cs) → a ≤ 2 ^ 31 → steps cs g a ≤ 2 ^ 31
unfolding steps all_below
steps_le [] g a t h = h
steps_le (c ∷ cs) g a t h =
    steps_le cs g (step c (g / 2 ^ length cs % 2) a) (and_r (ltb c (2 ^ 31)) (all_below cs) t)
    (step_le a c h (ltb→lt c (2 ^ 31) (and_l (ltb c (2 ^ 31)) (all_below cs) t)) (g / 2 ^ length cs % 2))

pub power_le : (g : ℕ) → power g ≤ 2 ^ 31
power_le g = steps_le constants g (2 ^ 31) constants_below (le_refl (2 ^ 31))

-- ---- the steps over two lists are those over the first, with the bits above the second's, and then those over the second
pub steps_append : (xs ys : List ℕ) (g a : ℕ) → steps (xs ++ ys) g a ≡ steps ys g (steps xs (g / 2 ^ length ys) a)
unfolding steps
steps_append [] ys g a = refl
steps_append (x ∷ xs) ys g a =
    let e : g / 2 ^ length (xs ++ ys) ≡ g / 2 ^ length ys / 2 ^ length xs =
    ap (λ (n : ℕ). g / 2 ^ n) (length-append xs ys ∙ add_comm (length xs) (length ys)) ∙ sym (shr-shr g (length ys) (length xs)) in
    ap (λ (n : ℕ). steps (xs ++ ys) g (step x (n % 2) a)) e ∙ steps_append xs ys g (step x (g / 2 ^ length ys / 2 ^ length xs % 2) a)

-- ---- steps over a part of a list, one entry after the other
-- the entries from place i up to `to`
abbrev pub part : List ℕ → ℕ → ℕ → List ℕ
part cs i to = take (to - i) (drop i cs)

split : (cs : List ℕ) (i n : ℕ) → i + suc n ≤ length cs → take (suc n) (drop i cs) ≡ get_or cs i 0 ∷ take n (drop (suc i) cs)
split [] i n h = absurd (never i n h)
  where
    never : (i n : ℕ) → i + suc n ≤ 0 → ⊥
    never i n h = omega arith
split (c ∷ cs) zero n h = refl
split (c ∷ cs) (suc i) n h = split cs i n (less i n (length cs) h)
  where
    less : (i n l : ℕ) → suc i + suc n ≤ suc l → i + suc n ≤ l
    less i n l h = omega arith

part_length : (cs : List ℕ) (i n : ℕ) → i + n ≤ length cs → length (take n (drop i cs)) ≡ n
part_length cs i zero h = refl
part_length cs i (suc n) h = ap length (split cs i n h) ∙ ap suc (part_length cs (suc i) n (omega arith))

-- the first of the steps, and those that are left
pub first_step : (cs : List ℕ) (i to g r : ℕ) → i < to → to ≤ length cs
    → steps (part cs i to) g r ≡ steps (part cs (i + 1) to) g (step (get_or cs i 0) (g / 2 ^ (to - 1 - i) % 2) r)
unfolding steps
first_step cs i to g r h k =
    let n = to - 1 - i in
    let more : to - i ≡ suc n = omega arith in
    let left : n ≡ to - (i + 1) = omega arith in
    let next : suc i ≡ i + 1 = omega arith in
    let c = get_or cs i 0 in
    ap (λ (m : ℕ). steps (take m (drop i cs)) g r) more
    ∙ ap (λ (l : List ℕ). steps l g r) (split cs i n (omega arith))
    ∙ ap (λ (m : ℕ). steps (take n (drop (suc i) cs)) g (step c (g / 2 ^ m % 2) r)) (part_length cs (suc i) n (omega arith))
    ∙ ap (λ (j : ℕ). steps (take n (drop j cs)) g (step c (g / 2 ^ n % 2) r)) next
    ∙ ap (λ (m : ℕ). steps (take m (drop (i + 1) cs)) g (step c (g / 2 ^ n % 2) r)) left

pub none_left : (cs : List ℕ) (to g r : ℕ) → steps (part cs to to) g r ≡ r
unfolding steps
none_left cs to g r = ap (λ (m : ℕ). steps (take m (drop to cs)) g r) (sub_self to)

-- ---- the thirty constants
entry_lt : (cs : List ℕ) (i : ℕ) → T (all_below cs) → i < length cs → get_or cs i 0 < 2 ^ 31
unfolding all_below
entry_lt [] i t h = absurd (not-suc-le-zero h)
entry_lt (c ∷ cs) zero t h = ltb→lt c (2 ^ 31) (and_l (ltb c (2 ^ 31)) (all_below cs) t)
entry_lt (c ∷ cs) (suc i) t h = entry_lt cs i (and_r (ltb c (2 ^ 31)) (all_below cs) t) (le_of_suc-le-suc h)

pub constant_lt : (i : ℕ) → i < 30 → get_or constants i 0 < 2 ^ 31
unfolding constants
constant_lt i h = entry_lt constants i constants_below h

pub first_seven_le : (g : ℕ) → steps (take 7 constants) g (2 ^ 31) ≤ 2 ^ 31
unfolding constants all_below
first_seven_le g = steps_le (take 7 constants) g (2 ^ 31) tt (le_refl (2 ^ 31))

-- the first seven steps, and then the others
pub by_head : (g a r : ℕ) → a ≡ steps (take 7 constants) (g / 2 ^ 23) (2 ^ 31) → r ≡ steps (part constants 7 30) g a → r ≡ power g
unfolding constants
by_head g a r h k = k ∙ ap (steps (part constants 7 30) g) h ∙ sym (steps_append (take 7 constants) (drop 7 constants) g (2 ^ 31))
