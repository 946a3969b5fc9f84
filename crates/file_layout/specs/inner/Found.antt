-- What a search for a fault gives.
use Rattle.std.specs.Prelude.{◌≡◌, ℕ, Bool, true, false, Option, MatchOption}

-- nothing where there is no fault, and else the first place of one
abbrev pub Found : Bool → ℕ → Option ℕ → Type 0
Found some first result = MatchOption result (some ≡ false) (λ (place : ℕ). (some ≡ true) × (place ≡ first))
