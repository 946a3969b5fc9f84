-- What the tests of a single float tell of its kind: not NaN, capped, finite, minus infinity itself.
use mathlib.Core.Path.{◌≡◌, refl}
use mathlib.Core.Bool.{true, false, true≢false}
use lib.Dec.{T}
use lib.Ieee.{Float, nan, inf, fin, eq, is_nan}
use lib.Ieee.Scale.{finite}
use Rattle.floats.specs.Float.{minus_infinity, is_number, is_minus_infinity, is_plus_infinity, is_infinite, capped}

pub number_capped : (x : Float) → T (is_number x) → is_plus_infinity x ≡ false → T (capped x)
unfolding is_nan eq
number_capped nan n i = absurd n
number_capped (inf true) n i = tt
number_capped (inf false) n i = absurd (true≢false i)
number_capped (fin s m d) n i = tt

pub capped_finite : (x : Float) → T (capped x) → is_minus_infinity x ≡ false → T (finite x)
unfolding eq
capped_finite nan h e = absurd h
capped_finite (inf true) h e = absurd (true≢false e)
capped_finite (inf false) h e = absurd h
capped_finite (fin s m d) h e = tt

pub number_finite : (x : Float) → T (is_number x) → is_infinite x ≡ false → T (finite x)
unfolding is_infinite eq is_nan
number_finite nan h e = absurd h
number_finite (inf true) h e = absurd (true≢false e)
number_finite (inf false) h e = absurd (true≢false e)
number_finite (fin s m d) h e = tt

pub minus_infinity_is : (x : Float) → T (is_minus_infinity x) → x ≡ minus_infinity
unfolding eq
minus_infinity_is nan h = absurd h
minus_infinity_is (inf true) h = refl
minus_infinity_is (inf false) h = absurd h
minus_infinity_is (fin s m e) h = absurd h
