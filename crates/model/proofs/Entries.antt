-- What the checks let into the tables, as bounds: a good entry is at most 0, and an end table's at most 1.
use Rattle.std.proofs.Common.{Bool, true, false, not, T}
use lib.Ieee.{Float, is_nan, le, lt}
use Rattle.floats.specs.Float.{nought, one}
use Rattle.floats.proofs.Order.{le_le, le_left}
use Rattle.floats.proofs.PlusZero.{plus_zero_bounds}
use Rattle.model.specs.Good.{good, good_end}

pub good_low : (x : Float) → T (good x) → T (le x nought)
unfolding good
good_low x g = g

-- an entry of the end table
pub end_low : (ends : Bool) (x : Float) → T (good_end ends x) → T (le x one)
unfolding good_end
end_low true x g = le_le x nought one (good_low x g) (unfold le lt in tt)
end_low false x g = (plus_zero_bounds x g).1

-- so neither is NaN
pub good_number : (x : Float) → T (good x) → T (not (is_nan x))
good_number x g = le_left x nought (good_low x g)

pub end_number : (ends : Bool) (x : Float) → T (good_end ends x) → T (not (is_nan x))
end_number ends x g = le_left x one (end_low ends x g)
