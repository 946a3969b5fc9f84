-- What any bytes say, read as a model file (RULES 2.7): the shape, the body and the sum of each table, and the entries.
use Rattle.std.specs.Prelude.{ℕ, ◌+◌, ◌*◌, cond, List, map, eqb, get_or, replicate, Float}
use Rattle.std.specs.Float.{binary64}
use Rattle.std.specs.Float.Ieee.{of_bits}
use Rattle.floats.specs.Float.{nought}
use Rattle.lists.specs.Lists.{part}
use Rattle.little_endian.specs.Bytes.{value, words}
use Rattle.model.specs.declared.Shape.{Shape}
use Rattle.model.specs.Lent.{Tables, tables_of}
use Rattle.file_layout.specs.Layout.{size, offset}

-- the shape that the first bytes give
unfoldable pub shape_of : List ℕ → Shape
shape_of file = record { states = value (part 0 2 file); symbols = value (part 2 2 file); ends = eqb (get_or file 4 0) 1 }

-- the words of table i where a shape says that they stand
unfoldable pub body_at : Shape → List ℕ → ℕ → List ℕ
body_at shape file i = words (size shape i) (part (offset shape i) (8 * size shape i) file)

abbrev pub body_of : List ℕ → ℕ → List ℕ
body_of file = body_at (shape_of file) file

-- the sum that entry i gives
unfoldable pub sum_of : List ℕ → ℕ → ℕ
sum_of file i = value (part (16 + i * 16) 8 file)

-- entries by their bits
abbrev pub floats : List ℕ → List Float
floats = map (of_bits binary64)

-- the end table: a file without one stands for +0.0 in each place
unfoldable pub end_at : Shape → List ℕ → List Float
end_at shape file = cond shape.ends (floats (body_at shape file 3)) (replicate shape.states nought)

abbrev pub end_of : List ℕ → List Float
end_of file = end_at (shape_of file) file

-- the model of a file
abbrev pub model_in : List ℕ → Tables
model_in file = tables_of (shape_of file) (floats (body_of file 0)) (floats (body_of file 1)) (floats (body_of file 2)) (end_of file)
