-- The model file as one list of bytes (RULES 2.6): the numbers of its shape, the contents, the bodies.
use Rattle.std.specs.Prelude.{ℕ, zero, suc, ◌+◌, ◌*◌, cond, List, ◌++◌, map, Float}
use Rattle.std.specs.Float.{binary64}
use Rattle.std.specs.Float.Ieee.{to_bits}
use Rattle.lists.specs.Lists.{flat}
use Rattle.little_endian.specs.Bytes.{little, bytes, sum}
use Rattle.model.specs.declared.Shape.{Shape}
use Rattle.model.specs.Lent.{Tables}

module _ (shape : Shape) where
  -- the end flag, 0 or 1
  abbrev pub flag : ℕ
  flag = cond shape.ends 1 0

  -- the file has tables 0, 1 and 2, and table 3 exactly if the flag is 1
  abbrev pub count : ℕ
  count = cond shape.ends 4 3

  -- the words of table i: S·S, S·M, S and S
  unfoldable pub size : ℕ → ℕ
  size zero = shape.states * shape.states
  size (suc zero) = shape.states * shape.symbols
  size (suc (suc i)) = shape.states

  -- the byte at which body i starts: bodies follow the contents at once, in order and without gaps
  unfoldable pub offset : ℕ → ℕ
  offset zero = 8 + count * 16
  offset (suc i) = offset i + 8 * size i

  -- nothing follows the last body: where the next one would start, the file ends
  abbrev pub file_length : ℕ
  file_length = offset count

  -- bytes 0 to 7: states, symbols, end flag and number of entries, 2 bytes each
  unfoldable pub first : List ℕ
  first = little 2 shape.states ++ (little 2 shape.symbols ++ (little 2 flag ++ little 2 count))

  -- of entry i of the contents, 4 bytes each: the table's number and its offset
  unfoldable pub label : ℕ → List ℕ
  label i = little 4 i ++ little 4 (offset i)

  -- the file with any sums
  unfoldable pub layout : (ℕ → ℕ) → (ℕ → List ℕ) → List ℕ
  layout sums bodies =
      first
      ++ (flat count (λ (i : ℕ). label i ++ little 8 (sums i))
      ++ flat count (λ (i : ℕ). bytes (bodies i)))

-- the file of a shape and the words of each table: an entry's last 8 bytes are the sum of its body
unfoldable pub file_of : Shape → (ℕ → List ℕ) → List ℕ
file_of shape bodies = layout shape (λ (i : ℕ). sum (bodies i)) bodies

-- the words of a table: the bits of its entries
abbrev pub bits : List Float → List ℕ
bits = map (to_bits binary64)

-- table i of a model
abbrev pub table_of : Tables → ℕ → List Float
table_of m zero = m.transition
table_of m (suc zero) = m.emission
table_of m (suc (suc zero)) = m.initial
table_of m (suc (suc (suc i))) = m.end

-- the file of a model
unfoldable pub model_file : Tables → List ℕ
model_file m = file_of m.shape (λ (i : ℕ). bits (table_of m i))
