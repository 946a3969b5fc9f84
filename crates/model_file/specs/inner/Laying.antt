-- Words that can be laid out as floats: they are there, there is room for them, and each is good, so that none is a NaN's.
use Rattle.std.specs.Prelude.{◌≡◌, ℕ, ◌+◌, ◌*◌, ◌<◌, ◌≤◌, true, List, length, Float}
use Rattle.lists.specs.Lists.{part, first_bad}
use Rattle.little_endian.specs.Bytes.{words}
use Rattle.model.specs.declared.Shape.{Shape}
use Rattle.model.specs.Good.{good_bits}
use Rattle.file_layout.specs.Layout.{count, size}
use Rattle.file_layout.specs.Reading.{body_at}
use Rattle.file_layout.specs.inner.Whole.{Whole}

-- n words from byte `at` on
pub record Layable (file : List ℕ) (at n : ℕ) (table : List Float) : Type 0 where
  pub there : at + 8 * n ≤ length file
  pub roomy : n ≤ length table
  pub good : n ≤ first_bad good_bits (words n (part at (8 * n) file))

-- body i of a file whose layout is right
pub record Laying (shape : Shape) (file : List ℕ) (i room : ℕ) : Type 0 where
  pub whole : Whole shape file
  pub table : i < count shape
  pub roomy : size shape i ≤ room
  pub good : size shape i ≤ first_bad good_bits (body_at shape file i)

-- and the end table, which the file need not have
pub record LayingEnd (shape : Shape) (file : List ℕ) (room : ℕ) : Type 0 where
  pub roomy : shape.states ≤ room
  pub given : shape.ends ≡ true → Laying shape file 3 room
