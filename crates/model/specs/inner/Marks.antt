-- Marks of entries: of a word of 64 bits, only the top one counts.
use Rattle.std.specs.Prelude.{ℕ, Bool, nat_le}

-- the top bit is set
unfoldable pub is_set : ℕ → Bool
is_set w = nat_le 0x8000000000000000 w
