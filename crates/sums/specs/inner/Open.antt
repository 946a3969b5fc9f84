-- A sum before its logarithm is taken, for callers that take many logarithms one after the other.
use Rattle.std.specs.Prelude.{ℕ, Float}
use Rattle.sums.specs.Sum.{peak, exp_sum, grown}
use Rattle.sums.specs.declared.sum.Open.{Open}

-- the greatest of f 0, .., f (n - 1), and the sum of the others' exponentials
unfoldable pub opened : ℕ → (ℕ → Float) → Open
opened n f = record { value = (peak n f).value; sum = exp_sum (peak n f) n f }

-- what it comes to; the greatest one's place is no longer asked for
unfoldable pub closed_sum : Open → Float
closed_sum o = grown (record { value = o.value; place = 0 }) o.sum
