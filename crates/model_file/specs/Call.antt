-- What `read_model`, `write_model` and `file_length` promise (RULES 2.7).
use Rattle.std.specs.Prelude.{◌≡◌, ℕ, false, cond, List, length, Float}
use Rattle.floats.specs.Float.{nought}
use Rattle.lists.specs.Lists.{after}
use Rattle.answer.specs.Answer.{is_done, answered}
use Rattle.answer.specs.Checks.{first_of}
use Rattle.answer.specs.declared.Answer.{Answer}
use Rattle.model.specs.declared.Shape.{Shape}
use Rattle.model.specs.Lent.{Tables}
use Rattle.checks.specs.Checks.{shape_tests, check_tables}
use Rattle.model_file.specs.declared.Reading.{Reading}
use Rattle.file_layout.specs.Layout.{file_length, model_file}
use Rattle.file_layout.specs.Reading.{shape_of, model_in}
use Rattle.file_layout.specs.Checks.{read_tests, write_rooms}

-- the four tables that a reader is lent, outputs 6 to 9
pub record Outputs : Type 0 where
  pub transition : List Float
  pub emission : List Float
  pub initial : List Float
  pub end : List Float

abbrev pub outputs : List Float → List Float → List Float → List Float → Outputs
outputs transition emission initial end = record { transition = transition; emission = emission; initial = initial; end = end }

-- the reader's checks
abbrev pub read_check : List ℕ → Outputs → Answer
read_check file o =
    first_of (read_tests file (length o.transition) (length o.emission) (length o.initial) (length o.end))

-- the shape of no model
abbrev pub no_shape : Shape
no_shape = record { states = 0; symbols = 0; ends = false }

-- a reader answers +0.0 and the file's shape, and leaves the file's model at the front of its outputs; refused, it gives the shape of no
-- model, and leaves all as it was
pub record Read (file : List ℕ) (o : Outputs) (r : Reading) (e : Outputs) : Type 0 where
  pub answer : r.answer ≡ answered (read_check file o) nought
  pub shape : r.shape ≡ cond (is_done (read_check file o)) (shape_of file) no_shape
  pub transition : e.transition ≡ after (is_done (read_check file o)) (model_in file).transition o.transition
  pub emission : e.emission ≡ after (is_done (read_check file o)) (model_in file).emission o.emission
  pub initial : e.initial ≡ after (is_done (read_check file o)) (model_in file).initial o.initial
  pub end : e.end ≡ after (is_done (read_check file o)) (model_in file).end o.end

-- the writer's checks: 1, 2, 5, 6 and 7
abbrev pub write_check : Tables → List ℕ → Answer
write_check m o = check_tables (write_rooms m.shape (length o)) m

-- a writer answers +0.0 and leaves the model's file at the front of its output; refused, it leaves all as it was
pub record Written (m : Tables) (o : List ℕ) (r : Answer) (e : List ℕ) : Type 0 where
  pub answer : r ≡ answered (write_check m o) nought
  pub file : e ≡ after (is_done (write_check m o)) (model_file m) o

-- the bytes of a file of this shape; 0 for a shape that no model has
unfoldable pub length_of : Shape → ℕ
length_of shape = cond (is_done (first_of (shape_tests shape))) (file_length shape) 0
