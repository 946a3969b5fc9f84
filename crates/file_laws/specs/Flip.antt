-- A flipped bit, and what the reader says of it by its place (RULES 8.4).
use Rattle.std.specs.Prelude.{ℕ, ◌+◌, ◌-◌, ◌*◌, ◌/◌, ◌%◌, ◌^◌, ◌<◌, ◌≡◌, Bool, cond, ◌||◌, List, T, eqb, get_or, set}
use Rattle.answer.specs.Answer.{refuse, number_of}
use Rattle.answer.specs.declared.Answer.{Answer}
use Rattle.answer.specs.declared.Refusal.TheVariants.{BadLayout, BadSum}
use Rattle.model.specs.declared.Shape.{Shape}
use Rattle.file_layout.specs.Layout.{count, size, offset}

-- x with bit k the other way
unfoldable pub flip : ℕ → ℕ → ℕ
flip k x = cond (eqb (x / 2 ^ k % 2) 0) (x + 2 ^ k) (x - 2 ^ k)

-- the file with bit k of byte p the other way
abbrev pub flipped : ℕ → ℕ → List ℕ → List ℕ
flipped p k file = set file p (flip k (get_or file p 0))

-- 1, 2 or 13
abbrev pub is_first_number : ℕ → Bool
is_first_number n = eqb n 1 || (eqb n 2 || eqb n 13)

-- what is told of a bit flipped in byte p of a file of this shape: in the first four numbers, in the label of entry i, in its sum, or in
-- body i
pub data Told (shape : Shape) (p : ℕ) (r : Answer) : Type 0 where
  in_numbers : p < 8 → T (is_first_number (number_of r.refusal)) → Told shape p r
  in_label : (i j : ℕ) → i < count shape → j < 8 → p ≡ 8 + (i * 16 + j) → r ≡ refuse BadLayout 0 p → Told shape p r
  in_sum : (i j : ℕ) → i < count shape → j < 8 → p ≡ 8 + (i * 16 + (8 + j)) → r ≡ refuse BadSum i 0 → Told shape p r
  in_body : (i j : ℕ) → i < count shape → j < 8 * size shape i → p ≡ offset shape i + j → r ≡ refuse BadSum i 0 → Told shape p r
