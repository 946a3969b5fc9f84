-- The fields of an f64's bits, sign clear, as the code takes them by shifts and masks: the value is digits_of·2^place_of units of 2^-1074.
use Rattle.std.specs.Prelude.{ℕ, ◌+◌, ◌-◌, ◌/◌, ◌%◌, ◌^◌, cond, eqb}

-- the exponent's field
abbrev pub field_of : ℕ → ℕ
field_of bits = bits / 2 ^ 52

-- the fraction's field, with the leading one, which a subnormal (field 0) lacks
abbrev pub digits_of : ℕ → ℕ
digits_of bits = cond (eqb (field_of bits) 0) (bits % 2 ^ 52) (2 ^ 52 + bits % 2 ^ 52)

-- the fields 0 and 1 have the same place
abbrev pub place_of : ℕ → ℕ
place_of bits = field_of bits - 1
