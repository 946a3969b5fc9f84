-- The C face: a shape and an answer as plain structs, and what it means that an export answers as the call behind it.
use Rattle.std.specs.Prelude.{◌≡◌, cond, not, eqb}
use Rattle.answer.specs.Answer.{number_of}
use Rattle.answer.specs.declared.Answer.{Answer}
use Rattle.model.specs.declared.Shape.{Shape}
use Rattle.wasnugram.specs.declared.WasnugramAnswer.{WasnugramAnswer}
use Rattle.model_file.specs.declared.Reading.{Reading}
use Rattle.rival.specs.declared.Rivalry.{Rivalry}
use Rattle.wasnugram.specs.declared.WasnugramReading.{WasnugramReading}
use Rattle.wasnugram.specs.declared.WasnugramRivalry.{WasnugramRivalry}
use Rattle.wasnugram.specs.declared.WasnugramShape.{WasnugramShape}

-- an end state where the byte is not 0
abbrev pub shape_of : WasnugramShape → Shape
shape_of s = record { states = s.states; symbols = s.symbols; ends = not (eqb s.ends 0) }

-- a shape that the library gives: 1 for an end state, 0 for none
abbrev pub flat_shape : Shape → WasnugramShape
flat_shape s = record { states = s.states; symbols = s.symbols; ends = cond s.ends 1 0 }

-- the refusal by its number (RULES 3.2)
abbrev pub flattened : Answer → WasnugramAnswer
flattened a = record { refusal = number_of a.refusal; table = a.table; place = a.place; value = a.value }

-- what a reader gives back, and what `rival` does
abbrev pub flat_reading : Reading → WasnugramReading
flat_reading r = record { answer = flattened r.answer; shape = flat_shape r.shape }

abbrev pub flat_rivalry : Rivalry → WasnugramRivalry
flat_rivalry r = record { answer = flattened r.answer; chosen = r.chosen; best = r.best }

-- an export's promise: it gives, flattened, what a call gives that keeps the promise
pub record Gives {Result Flat : Type 0} (flattens : Result → Flat) (promise : Result → Type 0) (r : Flat) : Type 0 where
  pub result : Result
  pub promised : promise result
  pub flat : r ≡ flattens result

abbrev pub Answers : (Answer → Type 0) → WasnugramAnswer → Type 0
Answers = Gives flattened

abbrev pub Reads : (Reading → Type 0) → WasnugramReading → Type 0
Reads = Gives flat_reading

abbrev pub Tells : (Rivalry → Type 0) → WasnugramRivalry → Type 0
Tells = Gives flat_rivalry

-- where one result meets the promise of a call, with its memory, one result meets that of its export
abbrev pub FaceIsUnique : Type 1
FaceIsUnique =
    (Result Flat Memory : Type 0) (flattens : Result → Flat) (promise : Memory → Result → Type 0)
    → ((x y : Result × Memory) → promise x.1 x.0 → promise y.1 y.0 → x ≡ y)
    → (r s : Flat × Memory) → Gives flattens (promise r.1) r.0 → Gives flattens (promise s.1) s.0 → r ≡ s
