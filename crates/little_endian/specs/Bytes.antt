-- Numbers as bytes, the lowest first, and rows of 64-bit words (RULES 2.6). A byte is a number below 256.
use Rattle.std.specs.Prelude.{ℕ, zero, suc, ◌+◌, ◌*◌, ◌/◌, ◌%◌, ◌^◌, ◌<◌, List, [], ◌∷◌, ◌++◌, take, drop}

-- n bytes of x
unfoldable pub little : ℕ → ℕ → List ℕ
little zero x = []
little (suc n) x = x % 256 ∷ little n (x / 256)

-- the number that bytes give
unfoldable pub value : List ℕ → ℕ
value [] = 0
value (b ∷ bs) = b + 256 * value bs

-- the bytes of words, 8 each
unfoldable pub bytes : List ℕ → List ℕ
bytes [] = []
bytes (w ∷ ws) = little 8 w ++ bytes ws

-- the first n words of bytes
unfoldable pub words : ℕ → List ℕ → List ℕ
words zero bs = []
words (suc n) bs = value (take 8 bs) ∷ words n (drop 8 bs)

unfoldable pub total : List ℕ → ℕ
total [] = 0
total (w ∷ ws) = w + total ws

-- the sum of words, wrapping at 2^64
unfoldable pub sum : List ℕ → ℕ
sum ws = total ws % 2 ^ 64

-- each number is below m: bytes are below 256, words below 2^64
unfoldable pub Below : ℕ → List ℕ → Type 0
Below m [] = Unit
Below m (b ∷ bs) = (b < m) × Below m bs
