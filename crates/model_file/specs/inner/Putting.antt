-- Tables that can be written, and the parts of a file in which the writer writes them.
use Rattle.std.specs.Prelude.{◌≡◌, ℕ, ◌<◌, ◌≤◌, not, T, List, ◌++◌, length, is_nan, slice_index_or, Float}
use Rattle.std.specs.Float.{nan}
use Rattle.lists.specs.Lists.{flat}
use Rattle.little_endian.specs.Bytes.{little, bytes, sum}
use Rattle.model.specs.declared.Shape.{Shape}
use Rattle.model.specs.Lent.{Tables}
use Rattle.file_layout.specs.Layout.{count, size, file_length, label, bits, table_of}
use Rattle.model.specs.Accepted.{InRange}

-- no entry is NaN, whose bits are not one number
abbrev pub Numbers : List Float → Type 0
Numbers xs = (i : ℕ) → i < length xs → T (not (is_nan (slice_index_or xs i nan)))

-- each table has its length and no NaN, and there is room for the file
pub record Puttable (m : Tables) (room : ℕ) : Type 0 where
  pub in_range : InRange m.shape
  pub roomy : file_length m.shape ≤ room
  pub sized : (i : ℕ) → length (table_of m i) ≡ size m.shape i
  pub numbers : (i : ℕ) → Numbers (table_of m i)

-- entry i of the contents
abbrev pub entry_of : Shape → ℕ → List Float → List ℕ
entry_of shape i table = label shape i ++ little 8 (sum (bits table))

-- the contents, and the bodies
unfoldable pub contents_of : Tables → List ℕ
contents_of m = flat (count m.shape) (λ (i : ℕ). entry_of m.shape i (table_of m i))

unfoldable pub bodies_of : Tables → List ℕ
bodies_of m = flat (count m.shape) (λ (i : ℕ). bytes (bits (table_of m i)))
