-- Tests on whole numbers, as facts: what the laws of floats take apart.
use mathlib.Core.Path.{◌≡◌, refl, sym, ap, ◌∙◌, subst}
use mathlib.Core.Bool.{Bool, true, false, not, ◌&&◌, ◌||◌}
use Prim.Native.Nat.{ℕ, ◌≤◌, ◌<◌}
use native.Mathlib.Omega.{arith}
use lib.Dec.{T, leb, ltb, eqb, leb→le, nltb→le, le→leb, ltb→lt, lt→ltb, eqb→eq}
use lib.Ieee.Fits.{eq→eqb}

-- two tests are equal where each follows from the other
pub same : (p q : Bool) → (T p → T q) → (T q → T p) → p ≡ q
same true true a b = refl
same true false a b = absurd (a tt)
same false true a b = absurd (b tt)
same false false a b = refl

pub to_eqb : (a b : ℕ) → a ≡ b → T (eqb a b)
to_eqb a b p = eq→eqb p

-- for `omega`: tests as the facts that they say
pub ruleset tests = (arith, ltb→lt, lt→ltb, leb→le, le→leb, eqb→eq, to_eqb)

pub lt_or_eq : (a b : ℕ) → (ltb a b || eqb a b) ≡ leb a b
lt_or_eq a b = go (ltb a b) (ltb→lt a b) (nltb→le a b)
  where
    go : (t : Bool) → (T t → a < b) → (T (not t) → b ≤ a) → (t || eqb a b) ≡ leb a b
    go true h k = let i = h tt in same true (leb a b) (λ z. omega tests) (λ z. tt)
    go false h k = let i = k tt in same (eqb a b) (leb a b) (omega tests) (omega tests)

-- `le` of two finite values with no sign computes to "below, or level and true" of whole numbers
le_test : (a b : ℕ) → (ltb a b || (eqb a b && true)) ≡ leb a b
le_test a b = ap (λ (t : Bool). ltb a b || t) (and_true (eqb a b)) ∙ lt_or_eq a b
  where
    and_true : (t : Bool) → (t && true) ≡ t
    and_true true = refl
    and_true false = refl

pub or_le : (a b : ℕ) → T (ltb a b || (eqb a b && true)) → a ≤ b
or_le a b h = leb→le a b (subst T (le_test a b) h)

pub le_or : (a b : ℕ) → a ≤ b → T (ltb a b || (eqb a b && true))
le_or a b h = subst T (sym (le_test a b)) (le→leb a b h)
