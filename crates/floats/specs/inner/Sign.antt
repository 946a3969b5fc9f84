-- The sign of a value, and the values from +0.0 to 1.0: what the laws of floats ask for. No contract names them.
use Rattle.std.specs.Prelude.{◌*◌, Bool, true, false, leb, Float}
use Rattle.std.specs.Bool.{beq}
use Rattle.std.specs.Float.{nan, inf, fin}
use Rattle.std.specs.Float.Ieee.{up, down}

-- x is not NaN, and its sign is s: true where it is set
abbrev pub has_sign : Bool → Float → Bool
has_sign s nan = false
has_sign s (inf t) = beq s t
has_sign s (fin t m e) = beq s t

abbrev pub nonneg : Float → Bool
nonneg x = has_sign false x

abbrev pub nonpos : Float → Bool
nonpos x = has_sign true x

-- x is from +0.0 to 1.0
abbrev pub unit : Float → Bool
unit nan = false
unit (inf s) = false
unit (fin true m e) = false
unit (fin false m e) = leb (m * up e) (down e)
