-- `ln_add_exp` and `ln_sub_exp` of two numbers (RULES 5.3, 5.4), and the running sums of `ln_cumsum_exp` (RULES 5.5).
use Rattle.std.specs.Prelude.{ℕ, zero, suc, Bool, false, cond, not, ◌&&◌, ◌||◌, negsuc, Float}
use Rattle.std.specs.Float.{fin, binary64}
use Rattle.std.specs.Float.Ieee.{mul, lt, le, eq}
use Rattle.floats.specs.Float.{◌⊕◌, ◌⊖◌, one, minus_infinity, is_minus_infinity, is_plus_infinity, is_infinite, magnitude}
use Rattle.kernels.specs.Exp.{exp_of}
use Rattle.kernels.specs.Ln.{ln_of}
use Rattle.kernels.specs.Ln1m.{ln1m_of}

-- RULES 5.3: an infinite p0 gives itself, any other p0 + ln(1 + exp(p1 - p0)), p0 being the greater
unfoldable pub ln_add_to : Float → Float → Float
ln_add_to p0 p1 = cond (is_infinite p0) p0 (p0 ⊕ ln_of (one ⊕ exp_of (p1 ⊖ p0)))

-- where the second is minus infinity it is the first, else the greater one is taken for p0
unfoldable pub ln_add : Float → Float → Float
ln_add x y = cond (is_minus_infinity y) x (cond (lt x y) (ln_add_to y x) (ln_add_to x y))

-- 2^-52
abbrev pub epsilon : Float
epsilon = fin false 1 (negsuc 51)

-- the greater of two magnitudes
unfoldable pub larger : Float → Float → Float
larger x y = cond (lt (magnitude x) (magnitude y)) (magnitude y) (magnitude x)

-- RULES 5.4: their distance is at most 2^-52, or at most 2^-52 times the larger magnitude
unfoldable pub is_near : Float → Float → Bool
is_near p0 p1 = le (magnitude (p0 ⊖ p1)) epsilon || le (magnitude (p0 ⊖ p1)) (mul binary64 epsilon (larger p0 p1))

-- close: equal, or both finite and near. It is the Rust's relative_eq!
unfoldable pub relative_eq : Float → Float → Bool
relative_eq p0 p1 = eq p0 p1 || (not (is_infinite p0 || is_infinite p1) && is_near p0 p1)

-- RULES 5.4, lines 3 to 6: p1 is at most p0
unfoldable pub ln_sub : Float → Float → Float
ln_sub p0 p1 =
    cond (is_minus_infinity p1) p0
    (cond (relative_eq p0 p1) minus_infinity
    (cond (is_plus_infinity p0) p0
    (p0 ⊕ ln1m_of (p1 ⊖ p0))))

-- the sum of f 0, .., f (n - 1), one after the other
unfoldable pub ln_cumsum : ℕ → (ℕ → Float) → Float
ln_cumsum zero f = minus_infinity
ln_cumsum (suc n) f = ln_add (ln_cumsum n f) (f n)
