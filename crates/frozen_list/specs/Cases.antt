-- Where the lists of a frozen case lie, and of what kind it is.
use Rattle.std.specs.Prelude.{ℕ, zero, suc, ◌+◌, ◌-◌, ◌*◌, ◌%◌, Bool, false, cond, ◌&&◌, Option, Some, None, option_map, option_and_then, unwrap_or, List, [], length, take, drop, ◌==◌, nat_le, nat_lt, Float}
use Rattle.frozen_list.specs.declared.cases.Span.{Span}
use Rattle.program_io.specs.Words.{word_at}

-- the words from start on, before end
abbrev pub part : {A : Type 0} → List A → Span → List A
part l s = take (s.end - s.start) (drop s.start l)

-- the list whose length stands at `at`; none where the case has not all of it
abbrev pub span_at : List ℕ → ℕ → Option Span
span_at case at =
    cond (nat_lt at (length case) && nat_le (word_at case at) (length case - (at + 1)))
    (Some (record { start = at + 1; end = at + 1 + word_at case at }))
    None

-- the k-th list: the first begins after the answer, each other where the one before it ends; none where the case has not all of these
unfoldable pub span_of : List ℕ → ℕ → Option Span
span_of case zero = span_at case 5
span_of case (suc k) = option_and_then (λ s. span_at case s.end) (span_of case k)

-- the words of the k-th list; no words where there is none
abbrev pub list_of : List ℕ → ℕ → List ℕ
list_of case k = unwrap_or (option_map (part case) (span_of case k)) []

-- the k-th list, of numbers that stand at the places of the case's words; no numbers where there are fewer
abbrev pub table_of : List ℕ → List Float → ℕ → List Float
table_of case numbers k =
    unwrap_or (option_map (λ s. cond (nat_le s.end (length numbers)) (part numbers s) []) (span_of case k)) []

-- the k-th list is whole and the last
abbrev pub ends_with : List ℕ → ℕ → Bool
ends_with case k = unwrap_or (option_map (λ s. s.end == length case) (span_of case k)) false

-- the first word of a case: the number of its call, one of 22, and 64 more where the case is altered
abbrev pub is_call : ℕ → Bool
is_call word = nat_lt word 128 && nat_lt (word % 64) 22

-- the kind of a case, by its first word: twice the word, and one more where the case differs; none where there is no such call
abbrev pub kind_of : ℕ → Bool → Option ℕ
kind_of word differs = cond (is_call word) (Some (2 * word + cond differs 1 0)) None
