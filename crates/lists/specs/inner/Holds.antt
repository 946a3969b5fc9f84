-- What an array holds at its front, said as a function of the place: for contracts of inner functions.
use Rattle.std.specs.Prelude.{ℕ, ◌≤◌, ◌<◌, ◌≡◌, List, length, get_or}

-- the first n entries are f 0, .., f (n - 1); d is what is read past the end
pub record Holds {A : Type 0} (d : A) (n : ℕ) (f : ℕ → A) (xs : List A) : Type 0 where
  pub room : n ≤ length xs
  pub is : (k : ℕ) → k < n → get_or xs k d ≡ f k
