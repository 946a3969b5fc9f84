-- The best of no candidate, and of one more: a loop looks for it one a turn.
use Rattle.std.proofs.Common.{◌≡◌, ℕ, ◌+◌, Bool, cond, refl, add-one}
use Rattle.best_path.specs.Best.{best_of}

module _ (r : ℕ → ℕ → Bool) where
  pub best_none : best_of r 0 ≡ 0
  unfolding best_of
  best_none = refl

  pub best_more : (n : ℕ) → best_of r (n + 1) ≡ cond (r (best_of r n) n) n (best_of r n)
  unfolding best_of
  best_more n = rw add-one
