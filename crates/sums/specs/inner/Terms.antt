-- The terms of a sum as a function gives them, one for each place.
use Rattle.std.specs.Prelude.{ℕ, ◌<◌, ◌≡◌, Float}
use Rattle.std.specs.Fn.{Shared}

module _ {F : Type 0} (g : Shared F (ℕ × Unit {0}) Float) (n : ℕ) (term : F) where
  -- it gives a term at each of n places
  abbrev pub HasTerms : Type 0
  HasTerms = (k : ℕ) → k < n → g.pre term (k, tt)

  -- and they are f 0, .., f (n - 1)
  abbrev pub TermsAre : (ℕ → Float) → Type 0
  TermsAre f = (k : ℕ) → k < n → (x : Float) → g.post term (k, tt) x → x ≡ f k
