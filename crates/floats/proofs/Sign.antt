-- The sign of what an operation gives, over the format and the sign.
use mathlib.Core.Path.{sym, subst}
use mathlib.Core.Bool.{Bool, beq, true, false, not, cond}
use Prim.Native.Nat.{ℕ, zero, suc, ◌+◌, ◌-◌, ◌*◌, ◌/◌, ◌%◌, ◌^◌, compare}
use lib.Dec.{T, ltb}
use lib.Ieee.{Float, nan, inf, fin, Format, binary64, prec, emax, low, up, down, round, units, odd, size, nearest, add, sum, is_nan}
use lib.Ieee.Fits.{round_is}
use Rattle.floats.specs.inner.Sign.{has_sign, nonneg, nonpos}

pub own : (s : Bool) → T (beq s s)
own true = tt
own false = tt

pub odd_sign : (s : Bool) (d q k l : ℕ) → T (has_sign s (odd d s q k l))
unfolding odd
odd_sign s d zero k l = own s
odd_sign s d (suc q) k l = own s

units_sign : (f : Format) (s : Bool) (q k : ℕ) → T (has_sign s (units f s q k))
unfolding units
units_sign f s q k = go (ltb (q * 2 ^ k) (2 ^ (low f + suc (emax f))))
  where
    go : (b : Bool) → T (has_sign s (cond b (odd (suc (prec f)) s q k (low f)) (inf s)))
    go true = odd_sign s (suc (prec f)) q k (low f)
    go false = own s

-- what `round` gives has its sign
pub round_sign : (f : Format) (s : Bool) (n d : ℕ) → T (has_sign s (round f s n d))
round_sign f s n d =
    let k = size (n * 2 ^ low f / d) - prec f in
    let u = d * 2 ^ k in
    subst (λ (x : Float). T (has_sign s x)) (sym (round_is f s n d)) (units_sign f s (nearest (n * 2 ^ low f / u) (compare (n * 2 ^ low f % u * 2) u)) k)

pub round_nonneg : (n d : ℕ) → T (nonneg (round binary64 false n d))
round_nonneg n d = round_sign binary64 false n d

pub round_nonpos : (n d : ℕ) → T (nonpos (round binary64 true n d))
round_nonpos n d = round_sign binary64 true n d

-- what has a sign is not NaN
pub sign_num : (s : Bool) (x : Float) → T (has_sign s x) → T (not (is_nan x))
unfolding is_nan
sign_num s nan h = h
sign_num s (inf t) h = tt
sign_num s (fin t m e) h = tt

-- a sum of values that are not negative is not
pub add_nonneg : (x y : Float) → T (nonneg x) → T (nonneg y) → T (nonneg (add binary64 x y))
unfolding add sum
add_nonneg nan y h k = absurd h
add_nonneg (inf true) y h k = absurd h
add_nonneg (inf false) nan h k = absurd k
add_nonneg (inf false) (inf true) h k = absurd k
add_nonneg (inf false) (inf false) h k = tt
add_nonneg (inf false) (fin t n d) h k = tt
add_nonneg (fin true m e) y h k = absurd h
add_nonneg (fin false m e) nan h k = absurd k
add_nonneg (fin false m e) (inf true) h k = absurd k
add_nonneg (fin false m e) (inf false) h k = tt
add_nonneg (fin false m e) (fin true n d) h k = absurd k
add_nonneg (fin false m e) (fin false n d) h k = round_nonneg (m * up e * down d + n * up d * down e) (down e * down d)
