-- What the checks 1, 2, 13 and 14 let through, and what has a file.
use Rattle.std.specs.Prelude.{ℕ, ◌^◌, ◌<◌, ◌≡◌, List, true, length}
use Rattle.little_endian.specs.Bytes.{Below}
use Rattle.answer.specs.Answer.{is_done}
use Rattle.answer.specs.Checks.{first_of}
use Rattle.model.specs.declared.Shape.{Shape}
use Rattle.model.specs.Accepted.{InRange}
use Rattle.file_layout.specs.Layout.{count, size, file_length}
use Rattle.file_layout.specs.Reading.{shape_of}
use Rattle.file_layout.specs.Checks.{file_tests}

-- a shape and words that have a file: each body has its size, and words are below 2^64
pub record Filed (shape : Shape) (bodies : ℕ → List ℕ) : Type 0 where
  pub in_range : InRange shape
  pub sized : (i : ℕ) → i < count shape → length (bodies i) ≡ size shape i
  pub words : (i : ℕ) → i < count shape → Below (2 ^ 64) (bodies i)

-- bytes in which none of these tests finds fault
pub record FileAccepted (file : List ℕ) : Type 0 where
  pub small : Below 256 file
  pub done : is_done (first_of (file_tests file)) ≡ true

-- a file whose layout is that of its shape
pub record Whole (shape : Shape) (file : List ℕ) : Type 0 where
  pub own : shape ≡ shape_of file
  pub in_range : InRange shape
  pub long : length file ≡ file_length shape
