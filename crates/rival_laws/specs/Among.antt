-- The tie rule among some candidates only (RULES 6.1): the highest-numbered of the best wins.
use Rattle.std.specs.Prelude.{ℕ, ◌<◌, ◌≡◌, Bool, true, false}

-- of the allowed ones among 0, .., n - 1, w ranks highest, and what is numbered above it ranks below it; at_least c k says that k ranks at
-- least as high as c
pub record WinsAmong (allowed : ℕ → Type 0) (at_least : ℕ → ℕ → Bool) (n w : ℕ) : Type 0 where
  pub itself : allowed w
  pub below : w < n
  pub top : (k : ℕ) → k < n → allowed k → at_least k w ≡ true
  pub last : (k : ℕ) → k < n → w < k → allowed k → at_least w k ≡ false
