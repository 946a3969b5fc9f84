-- The best path (RULES 8.3), asked of any way to decode: `Best`, at the end, has its parts. Calls.antt says which ways there are, and
-- proofs/ has that each meets it.
use Rattle.std.specs.Prelude.{ℕ, zero, suc, ◌-◌, ◌<◌, ◌≡◌, cond, T, length, Float}
use mathlib.Core.List.{List, [], ◌∷◌, ◌++◌, foldl}
use Rattle.std.specs.Float.Ieee.{le}
use Rattle.floats.specs.Float.{◌⊕◌, nought, at}
use Rattle.model.specs.Lent as Lent
use Rattle.model.specs.Lent.{Lent, S}
use Rattle.model.specs.Model.{Model, model_of}
use Rattle.best_path.specs.Score.{state_at, score}

-- a path through the samples: T states, each below S
pub record IsPath (l : Lent) (path : List ℕ) : Type 0 where
  pub long : length path ≡ Lent.T l
  pub states : (t : ℕ) → t < Lent.T l → state_at path t < S l

-- a path's own score, each addition rounded once and from left to right
abbrev pub score_of : Lent → List ℕ → Float
score_of l path = score (model_of l) (state_at path) (Lent.T l - 1)

-- the entries that the states p 0, .., p t use, in the order in which the score adds them
unfoldable pub used_to : Model → (ℕ → ℕ) → ℕ → List Float
used_to m p zero = m.initial (p 0) ∷ m.emission 0 (p 0) ∷ []
used_to m p (suc t) = used_to m p t ++ (m.transition (p t) (p (suc t)) ∷ m.emission (suc t) (p (suc t)) ∷ [])

-- and what the last state j uses besides: its end entry, where there is an end state
unfoldable pub used_at_end : Model → ℕ → List Float
used_at_end m j = cond m.ends (m.end j ∷ []) []

-- the entries that a path uses
abbrev pub used : Lent → List ℕ → List Float
used l path = used_to (model_of l) (state_at path) (Lent.T l - 1) ++ used_at_end (model_of l) (state_at path (Lent.T l - 1))

-- entries added from left to right
abbrev pub added : List Float → Float
added [] = nought
added (x ∷ xs) = foldl ◌⊕◌ x xs

-- what a path uses is what its score adds, and nothing else
abbrev pub ScoreAddsWhatIsUsed : Type 0
ScoreAddsWhatIsUsed = (l : Lent) (path : List ℕ) → score_of l path ≡ added (used l path)

-- entry by entry, the one table is at most the other
abbrev pub AtMost : List Float → List Float → Type 0
AtMost low high = (i : ℕ) → i < length low → T (le (at low i) (at high i))

-- high is low with any entries of the four tables raised, and low is high with any entries lowered
pub record Raised (low high : Lent) : Type 0 where
  pub shape : low.tables.shape ≡ high.tables.shape
  pub samples : low.samples ≡ high.samples
  pub transition : AtMost low.tables.transition high.tables.transition
  pub emission : AtMost low.tables.emission high.tables.emission
  pub initial : AtMost low.tables.initial high.tables.initial
  pub end : AtMost low.tables.end high.tables.end

-- a way to decode: which value and path it gives for what it is lent
abbrev pub Decoder : Type 1
Decoder = Lent → Float → List ℕ → Type 0

-- value and path, given for l, are the best; what is given for other tables is compared with them
pub record Best (gives : Decoder) (l : Lent) (value : Float) (path : List ℕ) : Type 0 where
  pub is_path : IsPath l path
  -- the value is the path's own score, to the bit
  pub scored : value ≡ score_of l path
  -- no path scores higher
  pub highest : (other : List ℕ) → IsPath l other → T (le (score_of l other) value)
  -- raise any entries, none above zero or nothing is given, and decode again: the value never falls
  pub raising : (high : Lent) (value' : Float) (path' : List ℕ) → gives high value' path' → Raised l high → T (le value value')
  -- lower any entries that the path does not use, and decode again: path and value stay, to the bit
  pub lowering : (low : Lent) (value' : Float) (path' : List ℕ) → gives low value' path' → Raised low l → used low path ≡ used l path
      → (path' ≡ path) × (value' ≡ value)

-- whatever is given is the best
abbrev pub GivesTheBest : Decoder → Type 0
GivesTheBest gives = (l : Lent) (value : Float) (path : List ℕ) → gives l value path → Best gives l value path
