-- The words for f64 that every crate above shares: constants, the two rounded operations, and tests of a single value.
use Rattle.std.specs.Prelude.{ℕ, Bool, true, false, cond, not, ◌&&◌, ◌||◌, List, eqb, pos, get_or, Float}
use Rattle.std.specs.Float.{nan, inf, fin, binary64}
use Rattle.std.specs.Float.Ieee.{add, sub, neg, lt, eq, is_nan, to_bits}

-- +0.0
abbrev pub nought : Float
nought = fin false 0 (pos 0)

-- 1.0
abbrev pub one : Float
one = fin false 1 (pos 0)

abbrev pub minus_infinity : Float
minus_infinity = inf true

infixl 20 ◌⊕◌
-- x + y and x - y of f64, rounded once
abbrev pub ◌⊕◌ : Float → Float → Float
x ⊕ y = add binary64 x y

infixl 20 ◌⊖◌
abbrev pub ◌⊖◌ : Float → Float → Float
x ⊖ y = sub binary64 x y

-- RULES 1: entry i of a table; past its end there is minus infinity, as of what cannot be
abbrev pub at : List Float → ℕ → Float
at xs i = get_or xs i minus_infinity

-- x is not NaN
abbrev pub is_number : Float → Bool
is_number x = not (is_nan x)

abbrev pub is_minus_infinity : Float → Bool
is_minus_infinity x = eq x minus_infinity

abbrev pub is_plus_infinity : Float → Bool
is_plus_infinity x = eq x (inf false)

unfoldable pub is_infinite : Float → Bool
is_infinite x = is_minus_infinity x || is_plus_infinity x

-- +0.0 and no other: its bits are all clear
unfoldable pub is_plus_zero : Float → Bool
is_plus_zero x = not (is_nan x) && eqb (to_bits binary64 x) 0

-- |x|; -0.0 stays as it is
unfoldable pub magnitude : Float → Float
magnitude x = cond (lt x nought) (neg x) x

-- x is neither NaN nor plus infinity
abbrev pub capped : Float → Bool
capped nan = false
capped (inf s) = s
capped (fin s m e) = true
