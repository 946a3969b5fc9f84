-- The strongest rival (RULES 6.4 and 8.5), of every call of `rival`: `RivalIsStrongest`, `NoRivalExactly` and `RivalTellsTheBest`.
use Rattle.std.specs.Prelude.{ℕ, suc, ◌<◌, ◌≡◌, true, false, List, take, Float}
use Rattle.std.proofs.Math.Dec as Dec
use Rattle.std.specs.Float.Ieee.{le}
use Rattle.floats.specs.Float.{minus_infinity, is_minus_infinity}
use Rattle.answer.specs.Answer.{is_done}
use Rattle.model.specs.Lent.{Lent, T}
use Rattle.model.specs.Model.{model_of}
use Rattle.model.specs.Accepted.{Accepted}
use Rattle.checks.specs.Rooms.{Roomy}
use Rattle.checks.specs.Exactly.{Refused}
use Rattle.best_path.specs.Best.{ranks_at_least}
use Rattle.best_path.specs.Walk.{closed, value}
use Rattle.best_path.specs.Score.{state_at}
use Rattle.rival.specs.declared.Rivalry.{Rivalry}
use Rattle.rival.specs.Call.{Asked, asked, Outputs, chosen, without, rooms, Told}
use Rattle.rival_laws.specs.Among.{WinsAmong}
use Rattle.path_promises.specs.BestPath.{IsPath, score_of, GivesTheBest}

-- a path with another state than `chosen` at a sample
pub record IsOther (l : Lent) (index chosen : ℕ) (path : List ℕ) : Type 0 where
  pub is_path : IsPath l path
  pub differs : state_at path index ≡ chosen → ⊥

-- state k may be the rival's at time t
abbrev pub Allowed : Asked → ℕ → ℕ → Type 0
Allowed q t k = (t ≡ q.index) × (k ≡ chosen q) → ⊥

-- a call of `rival` that is done: what it gives back, and the two paths in the first T bytes of outputs 5 and 6
pub record Done (q : Asked) (r : Rivalry) (path rival_path : List ℕ) : Type 0 where
  pub lent : Outputs
  pub left : Outputs
  pub promised : Told q lent r left
  pub done : is_done r.answer ≡ true
  pub path_is : path ≡ take (T q.lent) left.path
  pub rival_is : rival_path ≡ take (T q.lent) left.rival_path

-- what it tells is the strongest rival
pub record Strongest (q : Asked) (r : Rivalry) (path rival_path : List ℕ) : Type 0 where
  -- the state told is the best path's at the sample
  pub chosen_there : r.chosen ≡ state_at path q.index
  -- the rival is a path with another state there
  pub is_other : IsOther q.lent q.index r.chosen rival_path
  -- the value is the rival's own score, to the bit, and above minus infinity
  pub scored : r.answer.value ≡ score_of q.lent rival_path
  pub above : is_minus_infinity r.answer.value ≡ false
  -- no path with another state there scores higher
  pub highest : (other : List ℕ) → IsOther q.lent q.index r.chosen other → Dec.T (le (score_of q.lent other) r.answer.value)
  -- and it is at most the best path's value
  pub at_most_best : Dec.T (le r.answer.value r.best)

-- ties follow Viterbi's rule among the allowed states (RULES 6.1), whose values are those of the rival's walk
pub record TiesAsViterbi (q : Asked) (rival_path : List ℕ) : Type 0 where
  -- each state but the last: of the allowed ones the highest-numbered of the best predecessors of the next state
  pub before : (t : ℕ) → suc t < T q.lent → let m = model_of q.lent in let j = state_at rival_path (suc t) in
      WinsAmong (Allowed q t) (λ (c k : ℕ).
      ranks_at_least (value (without q) t c) (m.transition c j) (value (without q) t k) (m.transition k j)) m.states (state_at rival_path t)
  -- the last state: of the allowed ones the highest-numbered of the greatest scores
  pub at_the_end : (t : ℕ) → suc t ≡ T q.lent → let m = model_of q.lent in
      WinsAmong (Allowed q t) (λ (c k : ℕ). le (closed m c (value (without q) t c)) (closed m k (value (without q) t k))) m.states
      (state_at rival_path t)

abbrev pub RivalIsStrongest : Type 0
RivalIsStrongest =
    (q : Asked) (r : Rivalry) (path rival_path : List ℕ) → Done q r path rival_path
    → Strongest q r path rival_path × TiesAsViterbi q rival_path

-- "every path with another state there scores minus infinity (one state alone included)"
abbrev pub NoneThere : Asked → Type 0
NoneThere q = (other : List ℕ) → IsOther q.lent q.index (chosen q) other → score_of q.lent other ≡ minus_infinity

-- a call that the checks 1 to 8 and 16 let through: it is refused, with 15, exactly when there is no rival
pub record NoRivalExactly : Type 0 where
  pub given : (q : Asked) (o e : Outputs) (r : Rivalry) → Accepted q.lent → Roomy (rooms q o) → q.index < T q.lent
      → Told q o r e → NoneThere q → Refused r.answer 15 0 0
  pub only_then : (q : Asked) (o e : Outputs) (r : Rivalry) → Accepted q.lent → Roomy (rooms q o) → q.index < T q.lent
      → Told q o r e → is_done r.answer ≡ false → NoneThere q

-- the best path that a done call gives beside the rival, with its value, as a way to decode
pub record Beside (l : Lent) (value : Float) (path : List ℕ) : Type 0 where
  pub index : ℕ
  pub rivalry : Rivalry
  pub rival_path : List ℕ
  pub done : Done (asked l index) rivalry path rival_path
  pub value_is : value ≡ rivalry.best

-- it is the best path
abbrev pub RivalTellsTheBest : Type 0
RivalTellsTheBest = GivesTheBest Beside
