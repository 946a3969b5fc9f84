-- Upper bounds that an addition does not move. Whatever is added up from numbers below such a bound stays below it, so it never overflows.
use mathlib.Core.Path.{◌≡◌, refl}
use mathlib.Core.Bool.{false}
use lib.Dec.{T}
use lib.IntN.{pos}
use lib.Ieee.{Float, fin, binary64, add, sub, neg, sum, round, size, le, lt, fits}
use lib.Ieee.Fits.{neg-fits}
use lib.Ieee.Scale.{finite}
use Rattle.floats.specs.Float.{◌⊕◌, ◌⊖◌, is_number, capped}
use Rattle.floats.proofs.Order.{le_left, le_le}
use Rattle.floats.proofs.Add.{add_mono, add_num, capped_le}
use Rattle.floats.proofs.Sub.{finite_capped, neg_finite}
use Rattle.floats.proofs.Largest.{largest, capped_largest}

-- B is too large to notice that c is added
pub record Ceiling (B c : Float) : Type 0 where
  pub within : T (capped B)
  pub small : T (capped c)
  pub still : B ⊕ c ≡ B

module _ {B c : Float} (k : Ceiling B c) where
  pub ceiling_add : (x y : Float) → T (le x B) → T (le y c) → T (le (x ⊕ y) B)
  ceiling_add x y h g = rw k.still at (add_mono binary64 x B y c k.within k.small h g)

-- ---- entries up to 2 ^ 10, added up below 2 ^ 64: an entry of a model is at most 1, and the logarithm of a density would be at most 700
abbrev pub most : Float
most = fin false 1 (pos 10)

abbrev pub lid : Float
lid = fin false 1 (pos 64)

lid_most : Ceiling lid most
unfolding add sum round size
lid_most = record { within = tt; small = tt; still = refl }

-- an entry is added to what is below the lid
pub lid_add : (x y : Float) → T (le x lid) → T (le y most) → T (le (x ⊕ y) lid)
lid_add = ceiling_add lid_most

pub most_lid : (x : Float) → T (le x most) → T (le x lid)
most_lid x h = le_le x most lid h (unfold le lt in tt)

pub lid_number : (x : Float) → T (le x lid) → T (is_number x)
lid_number x h = le_left x lid h

pub lid_capped : (x : Float) → T (le x lid) → T (capped x)
lid_capped x h = capped_le x lid h tt

-- ---- two such numbers, below 2 ^ 65, and what is left of them less a finite f64
abbrev pub double : Float
double = fin false 1 (pos 65)

lid_lid : lid ⊕ lid ≡ double
unfolding add sum round size
lid_lid = refl

pub two_lids : (x y : Float) → T (le x lid) → T (le y lid) → T (le (x ⊕ y) double)
two_lids x y h g = rw lid_lid at (add_mono binary64 x lid y lid tt tt h g)

double_most : Ceiling double most
unfolding add sum round size
double_most = record { within = tt; small = tt; still = refl }

pub double_add : (x y : Float) → T (le x double) → T (le y most) → T (le (x ⊕ y) double)
double_add = ceiling_add double_most

double_largest : double ⊕ largest ≡ largest
unfolding add sum round size
double_largest = refl

pub less_largest : (x p : Float) → T (le x double) → T (finite p) → T (fits binary64 p) → T (le (x ⊖ p) largest)
unfolding sub
less_largest x p h g f =
    let c = finite_capped (neg p) (neg_finite p g) in
    rw double_largest at (add_mono binary64 x double (neg p) largest tt tt h (capped_largest (neg p) c (neg-fits binary64 p f)))

-- a difference is a number, where the second is finite
pub less_number : (x p : Float) → T (capped x) → T (finite p) → T (is_number (x ⊖ p))
unfolding sub
less_number x p h g = add_num binary64 x (neg p) h (finite_capped (neg p) (neg_finite p g))
