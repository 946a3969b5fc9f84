-- The model file (RULES 8.4): what reader and writer promise together, of their calls. `ModelFileHolds`, at the end, has the parts.
use Rattle.std.specs.Prelude.{ℕ, ◌≤◌, ◌<◌, ◌≡◌, true, false, List, ◌++◌, length, take}
use Rattle.lists.specs.Lists.{over}
use Rattle.little_endian.specs.Bytes.{Below}
use Rattle.answer.specs.Answer.{is_done, refuse}
use Rattle.answer.specs.declared.Answer.{Answer}
use Rattle.answer.specs.declared.Refusal.TheVariants.{BadLayout}
use Rattle.model.specs.Lent.{Tables, tables_of}
use Rattle.model.specs.Accepted.{HeldTables, AcceptedTables}
use Rattle.checks.specs.Rooms.{Roomy}
use Rattle.model_file.specs.declared.Reading.{Reading}
use Rattle.file_layout.specs.Layout.{size, file_length, model_file}
use Rattle.file_layout.specs.Checks.{read_rooms}
use Rattle.model_file.specs.Call.{Outputs, outputs, Read, Written}
use Rattle.file_laws.specs.Flip.{flipped, Told}

-- the lent tables have room for a model of this shape
abbrev pub HasRoom : Tables → Outputs → Type 0
HasRoom m o = Roomy (read_rooms m.shape (length o.transition) (length o.emission) (length o.initial) (length o.end))

-- the model that a reader gave: its shape, and the front of each table
abbrev pub model_read : Reading → Outputs → Tables
model_read r e =
    let n = size r.shape in
    tables_of r.shape (take (n 0) e.transition) (take (n 1) e.emission) (take (n 2) e.initial) (take (n 3) e.end)

-- a reader that is refused leaves all memory as it was
pub record Untouched (o : Outputs) (r : Reading) (e : Outputs) : Type 0 where
  pub refused : is_done r.answer ≡ false
  pub stays : e ≡ o

-- a reader that gave a model back
pub record GivenBack (m : Tables) (o : Outputs) (r : Reading) (e : Outputs) : Type 0 where
  pub done : is_done r.answer ≡ true
  pub shape : r.shape ≡ m.shape
  pub tables : e ≡ outputs (over 0 m.transition o.transition) (over 0 m.emission o.emission)
      (over 0 m.initial o.initial) (over 0 m.end o.end)

-- a writer with room writes every model that is accepted
abbrev pub WriterIsDone : Type 0
WriterIsDone =
    (m : Tables) (o e : List ℕ) (w : Answer) → AcceptedTables m → file_length m.shape ≤ length o → Written m o w e → is_done w ≡ true

-- reading what was written gives the same shape and the same bits: in any memory with room, from the bytes that a writer left which is done
abbrev pub ReadingGivesBack : Type 0
ReadingGivesBack =
    (m : Tables) (before after : List ℕ) (w : Answer) → HeldTables m → Written m before w after → is_done w ≡ true
    → (o e : Outputs) (r : Reading) → HasRoom m o → Read (take (file_length m.shape) after) o r e → GivenBack m o r e

module _ (file : List ℕ) (o e : Outputs) (r : Reading) where
  -- whatever a reader accepts is the file of what it gave
  abbrev pub IsOwnFile : Type 0
  IsOwnFile = Below 256 file → Read file o r e → is_done r.answer ≡ true → file ≡ model_file (model_read r e)

  -- which is a model that every call accepts
  abbrev pub IsAccepted : Type 0
  IsAccepted = Below 256 file → Read file o r e → is_done r.answer ≡ true → AcceptedTables (model_read r e)

-- so two files that read alike are equal: one model has one file
abbrev pub OneFile : Type 0
OneFile =
    (file file' : List ℕ) (o o' e e' : Outputs) (r r' : Reading) → Below 256 file → Below 256 file'
    → Read file o r e → is_done r.answer ≡ true → Read file' o' r' e' → is_done r'.answer ≡ true
    → model_read r e ≡ model_read r' e' → file ≡ file'

-- of the file of any accepted model, lent to a reader with a change
module _ (m : Tables) (changed : List ℕ) (o e : Outputs) (r : Reading) where
  abbrev pub Of : Type 0 → Type 0
  Of Answered = AcceptedTables m → HeldTables m → Read changed o r e → Untouched o r e × Answered

-- with any single bit flipped, anywhere, it is refused, and `Told` says how
abbrev pub FlipIsRefused : Type 0
FlipIsRefused =
    (m : Tables) (p k : ℕ) → p < length (model_file m) → k < 8
    → (o e : Outputs) (r : Reading) → Of m (flipped p k (model_file m)) o e r (Told m.shape p r.answer)

-- cut short it is refused with 13 at its length, and with bytes left over at the length that it should have
abbrev pub CutIsRefused : Type 0
CutIsRefused =
    (m : Tables) (k : ℕ) → k < length (model_file m)
    → (o e : Outputs) (r : Reading) → Of m (take k (model_file m)) o e r (r.answer ≡ refuse BadLayout 0 k)

abbrev pub MoreIsRefused : Type 0
MoreIsRefused =
    (m : Tables) (rest : List ℕ) → 0 < length rest
    → (o e : Outputs) (r : Reading) → Of m (model_file m ++ rest) o e r (r.answer ≡ refuse BadLayout 0 (file_length m.shape))

-- and the file has the length that `file_length` gives
abbrev pub LengthIsFileLength : Type 0
LengthIsFileLength = (m : Tables) → AcceptedTables m → length (model_file m) ≡ file_length m.shape

pub record ModelFileHolds : Type 0 where
  pub writer_is_done : WriterIsDone
  pub reading_gives_back : ReadingGivesBack
  pub own_file : (file : List ℕ) (o e : Outputs) (r : Reading) → IsOwnFile file o e r
  pub accepted : (file : List ℕ) (o e : Outputs) (r : Reading) → IsAccepted file o e r
  pub one_file : OneFile
  pub flip_is_refused : FlipIsRefused
  pub cut_is_refused : CutIsRefused
  pub more_is_refused : MoreIsRefused
  pub length_is_file_length : LengthIsFileLength
