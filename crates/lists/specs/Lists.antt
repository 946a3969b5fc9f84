-- Lists by rule: what a lent table or output holds, said as a function of the place. Knows no floats.
use Rattle.std.specs.Prelude.{ℕ, zero, suc, ◌+◌, Bool, cond, List, [], ◌∷◌, ◌++◌, ltb, length, take, drop}

module _ {A : Type 0} where
  -- f 0, f 1, .., f (n - 1)
  unfoldable pub tab : ℕ → (ℕ → A) → List A
  tab zero f = []
  tab (suc n) f = tab n f ++ (f n ∷ [])

  -- the lists f 0, f 1, .., f (n - 1), one after the other
  unfoldable pub flat : ℕ → (ℕ → List A) → List A
  flat zero f = []
  flat (suc n) f = flat n f ++ f n

  -- a table by rows: T rows of S places, place j of row t being f t j
  abbrev pub table : ℕ → ℕ → (ℕ → ℕ → A) → List A
  table T S f = flat T (λ (t : ℕ). tab S (f t))

  -- the n places of l from place a on
  abbrev pub part : ℕ → ℕ → List A → List A
  part a n l = take n (drop a l)

  -- l with p laid over it from place i on; all else stays
  unfoldable pub over : ℕ → List A → List A → List A
  over i p l = take i l ++ (p ++ drop (i + length p) l)

  -- an output that was l, after a call that writes p at its front if it is done: refused, it stays, and its surplus stays in any case
  abbrev pub after : Bool → List A → List A → List A
  after is_done p l = cond is_done (over 0 p l) l

  -- the first place whose element fails the test, or the length where none does
  unfoldable pub first_bad : (A → Bool) → List A → ℕ
  first_bad good [] = 0
  first_bad good (x ∷ xs) = cond (good x) (suc (first_bad good xs)) 0

  -- some element fails the test
  abbrev pub some_bad : (A → Bool) → List A → Bool
  some_bad good xs = ltb (first_bad good xs) (length xs)
