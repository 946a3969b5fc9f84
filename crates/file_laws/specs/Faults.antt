-- What a reader is refused for (RULES 2.7): a line for each refusal number and table, in the order of its checks.
use Rattle.std.specs.Prelude.{ℕ, ◌<◌, ◌≡◌, ◌⊎◌, Bool, true, false, List, [], ◌∷◌, ◌++◌, length, get_or}
use Rattle.little_endian.specs.Bytes.{sum}
use Rattle.checks.specs.Faults.{Fault, fault, shape_faults, room_faults}
use Rattle.file_layout.specs.Reading.{shape_of, body_of, sum_of}
use Rattle.file_layout.specs.Checks.{Demand, any, meets, pattern, read_rooms}

-- place p is one of the file or of what is demanded, and where it is one of both, its byte is another than the demanded
abbrev pub WrongAt : List Demand → List ℕ → ℕ → Type 0
WrongAt demanded file p =
    ((p < length demanded) ⊎ (p < length file))
    × (p < length demanded → p < length file → meets (get_or demanded p any) (get_or file p 0) ≡ false)

-- a line for each table that the file has
abbrev pub of_tables : Bool → (ℕ → Fault) → List Fault
of_tables true line = line 0 ∷ line 1 ∷ line 2 ∷ line 3 ∷ []
of_tables false line = line 0 ∷ line 1 ∷ line 2 ∷ []

-- a word is bad when it is not 0 and below that of -0.0, or when it is above that of minus infinity
abbrev pub BadWord : ℕ → Type 0
BadWord w = ((w ≡ 0 → ⊥) × (w < 0x8000000000000000)) ⊎ (0xfff0000000000000 < w)

module _ (file : List ℕ) where
  -- 13: the file is too short for its first four numbers, or has another layout than its shape's
  abbrev pub too_short : Fault
  too_short = fault 13 0 (λ (p : ℕ). (p ≡ length file) × (length file < 8))

  abbrev pub bad_layout : Fault
  bad_layout = fault 13 0 (WrongAt (pattern (shape_of file)) file)

  -- 14: the sum of a table is not that of its body
  abbrev pub bad_sums : List Fault
  bad_sums = of_tables (shape_of file).ends (λ (i : ℕ). fault 14 i (λ (p : ℕ). (p ≡ 0) × (sum (body_of file i) ≡ sum_of file i → ⊥)))

  -- 7: a word of a body is bad
  abbrev pub bad_words : List Fault
  bad_words =
      of_tables (shape_of file).ends
      (λ (i : ℕ). fault 7 i (λ (p : ℕ). (p < length (body_of file i)) × BadWord (get_or (body_of file i) p 0)))

  -- every line, by the lengths of the tables that are lent
  abbrev pub read_faults : ℕ → ℕ → ℕ → ℕ → List Fault
  read_faults transition emission initial end =
      (too_short ∷ (shape_faults (shape_of file) ++ (bad_layout ∷ [])))
      ++ (bad_sums
      ++ (room_faults false 6 (read_rooms (shape_of file) transition emission initial end)
      ++ bad_words))
