-- The models of the gate-post examples (RULES 9), and the numbers that they are made of.
use Rattle.std.specs.Prelude.{ℕ, zero, suc, ◌*◌, Bool, true, false, List, [], ◌∷◌, negsuc, replicate, Float}
use Rattle.std.specs.Float.{fin, binary64}
use Rattle.std.specs.Float.Ieee.{of_bits, of_int, neg}
use Rattle.floats.specs.Float.{nought}
use Rattle.model.specs.declared.Shape.{Shape}
use Rattle.model.specs.Lent.{Lent, lent}

-- -n
unfoldable pub minus : ℕ → Float
minus zero = nought
minus (suc n) = of_int binary64 (negsuc n)

-- 2^-1074
unfoldable pub least : Float
least = of_bits binary64 1

-- n states and 2 symbols, with an end state or without one
abbrev shape : Bool → ℕ → Shape
shape ends n = record { states = n; symbols = 2; ends = ends }

-- the tables of model P, with a for transition 0, e for emission 3 and any end table
abbrev tables_p : Bool → Float → Float → List Float → List ℕ → Lent
tables_p ends a e end samples =
    lent (shape ends 2) (a ∷ minus 2 ∷ minus 2 ∷ minus 1 ∷ []) (minus 1 ∷ minus 3 ∷ minus 3 ∷ e ∷ []) (minus 1 ∷ minus 2 ∷ []) end samples

abbrev pub changed_p : Float → Float → List ℕ → Lent
changed_p a e = tables_p false a e (replicate 2 nought)

abbrev pub model_p : List ℕ → Lent
model_p = changed_p (minus 1) (minus 1)

-- model P with an end state
abbrev pub ending_p : List Float → List ℕ → Lent
ending_p = tables_p true (minus 1) (minus 1)

-- the tables of model Z, with n states, i for each initial entry and e for each emission entry
abbrev tables_z : Bool → ℕ → Float → Float → List ℕ → Lent
tables_z ends n i e samples =
    lent (shape ends n) (replicate (n * n) nought) (replicate (n * 2) e) (replicate n i) (replicate n nought) samples

abbrev pub changed_z : ℕ → Float → List ℕ → Lent
changed_z n i = tables_z false n i nought

abbrev pub model_z : List ℕ → Lent
model_z = changed_z 2 nought

-- model Z with -0.0 for each initial and emission entry, with an end state or without one
abbrev pub minus_zeros : Bool → List ℕ → Lent
minus_zeros ends = tables_z ends 2 (neg nought) (neg nought)

-- one state and one symbol: i is its initial entry, and e its transition and its emission entry
abbrev alone : Float → Float → List ℕ → Lent
alone i e = lent (record { states = 1; symbols = 1; ends = false }) (e ∷ []) (e ∷ []) (i ∷ []) (nought ∷ [])

abbrev pub one_state : List ℕ → Lent
one_state = alone nought nought

-- model A: -2^-53, added to -1, is lost in rounding
abbrev pub model_a : List ℕ → Lent
model_a = alone (minus 1) (fin true 1 (negsuc 52))
