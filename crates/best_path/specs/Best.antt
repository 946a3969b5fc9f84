-- Which of several candidates wins: the rule for predecessors and the rule for ties (RULES 6.1).
use Rattle.std.specs.Prelude.{ℕ, zero, suc, Bool, cond, not, ◌&&◌, ◌||◌, Float}
use Rattle.std.specs.Float.Ieee.{le}
use Rattle.floats.specs.Float.{◌⊕◌, is_minus_infinity}

-- the tie rule: of 0, .., n - 1 the highest-numbered of the best wins, where r b k says that k ranks at least as high as b
unfoldable pub best_of : (ℕ → ℕ → Bool) → ℕ → ℕ
best_of r zero = 0
best_of r (suc n) = cond (r (best_of r n) n) n (best_of r n)

-- a predecessor at minus infinity ranks below every other one, and the rest rank by value + transition: one of value w and transition c
-- ranks at least as high as one of value v and transition a
unfoldable pub ranks_at_least : Float → Float → Float → Float → Bool
ranks_at_least v a w c = is_minus_infinity v || (not (is_minus_infinity w) && le (v ⊕ a) (w ⊕ c))

-- the best predecessor of S states, where state k has the value v k and the transition a k
unfoldable pub predecessor : ℕ → (ℕ → Float) → (ℕ → Float) → ℕ
predecessor S v a = best_of (λ (b k : ℕ). ranks_at_least (v b) (a b) (v k) (a k)) S

-- the highest-numbered of the greatest of v 0, .., v (S - 1)
unfoldable pub greatest : ℕ → (ℕ → Float) → ℕ
greatest S v = best_of (λ (b k : ℕ). le (v b) (v k)) S
