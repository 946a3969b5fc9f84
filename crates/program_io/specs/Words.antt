-- Words as numbers below 2^64.
use Rattle.std.specs.Prelude.{ℕ, ◌+◌, ◌*◌, List, get_or}

-- word i of a list; past its end there is 0
abbrev pub word_at : List ℕ → ℕ → ℕ
word_at list i = get_or list i 0

-- eight bytes as one number, the lowest first
abbrev pub word_of : List ℕ → ℕ
word_of b = go (word_at b)
  where
    go : (ℕ → ℕ) → ℕ
    go at = at 0 + 256 * (at 1 + 256 * (at 2 + 256 * (at 3 + 256 * (at 4 + 256 * (at 5 + 256 * (at 6 + 256 * at 7))))))
