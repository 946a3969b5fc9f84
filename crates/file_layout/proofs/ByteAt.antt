-- A byte of numbers that stand one after the other, by its place: of the first numbers, and of an entry's number and offset.
use Rattle.std.proofs.Common.{◌≡◌, ℕ, zero, suc, ◌+◌, ◌-◌, ◌*◌, ◌/◌, ◌%◌, ◌^◌, ◌<◌, ◌≤◌, List, [], ◌∷◌, ◌++◌, length, get_or, ◌∙◌, append-nil, arith}
use Rattle.model.specs.declared.Shape.{Shape}
use Rattle.little_endian.specs.Bytes.{little}
use Rattle.little_endian.proofs.Bytes.{at_front, past_front}
use Rattle.file_layout.specs.Layout.{count, first, flag, label, offset}

-- numbers of as many bytes each
abbrev row : ℕ → List ℕ → List ℕ
row width [] = []
row width (x ∷ numbers) = little width x ++ row width numbers

-- byte j of number k
byte_in : (width : ℕ) (numbers : List ℕ) (k j : ℕ) → k < length numbers → j < width
    → get_or numbers k 0 / 2 ^ (8 * j) % 256 ≡ get_or (row width numbers) (k * width + j) 0
byte_in width [] k j l h = absurd (omega arith)
byte_in width (x ∷ numbers) zero j l h =
    let place : 0 * width + j ≡ j = omega arith in
    rw place (at_front width x (row width numbers) j h)
byte_in width (x ∷ numbers) (suc k) j l h =
    let place : suc k * width + j - width ≡ k * width + j = omega arith in
    let rest = rw place at (past_front width x (row width numbers) (suc k * width + j) (omega arith)) in
    byte_in width numbers k j (omega arith) h ∙ rest

module _ (shape : Shape) where
  pub byte_of_first : (p : ℕ) → p < 8
      → get_or (shape.states ∷ shape.symbols ∷ flag shape ∷ count shape ∷ []) (p / 2) 0 / 2 ^ (8 * (p % 2)) % 256 ≡ get_or (first shape) p 0
  unfolding first
  byte_of_first p h =
      let numbers : List ℕ = shape.states ∷ shape.symbols ∷ flag shape ∷ count shape ∷ [] in
      let place : p / 2 * 2 + p % 2 ≡ p = omega arith in
      rw (place, append-nil) at (byte_in 2 numbers (p / 2) (p % 2) (omega arith) (omega arith))

  label_in : (i j k : ℕ) → j < 8 → j / 4 ≡ k → get_or (i ∷ offset shape i ∷ []) k 0 / 2 ^ (8 * (j % 4)) % 256 ≡ get_or (label shape i) j 0
  unfolding label
  label_in i j k h e =
      let numbers : List ℕ = i ∷ offset shape i ∷ [] in
      let place : k * 4 + j % 4 ≡ j = omega arith in
      rw (place, append-nil) at (byte_in 4 numbers k (j % 4) (omega arith) (omega arith))

  pub byte_of_number : (i j : ℕ) → j < 4 → i / 2 ^ (8 * (j % 4)) % 256 ≡ get_or (label shape i) j 0
  byte_of_number i j h = label_in i j 0 (omega arith) (omega arith)

  pub byte_of_offset : (i j : ℕ) → 4 ≤ j → j < 8 → offset shape i / 2 ^ (8 * (j % 4)) % 256 ≡ get_or (label shape i) j 0
  byte_of_offset i j l h = label_in i j 1 h (omega arith)

-- for `label_byte`
pub ruleset label_bytes = (byte_of_number, byte_of_offset)
