-- The first number that passes a test.
use Rattle.std.specs.Prelude.{ℕ, zero, suc, Bool, cond, ltb}

-- the first below k that passes the test, or k
unfoldable pub first : (ℕ → Bool) → ℕ → ℕ
first test zero = zero
first test (suc k) = cond (ltb (first test k) k) (first test k) (cond (test k) k (suc k))
