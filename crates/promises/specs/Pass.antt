-- What a training pass never answers and what it always leaves (RULES 7).
use Rattle.std.specs.Prelude.{ℕ, ◌*◌, ◌<◌, ◌≡◌, true, false, take}
use Rattle.std.proofs.Math.Dec as Dec
use Rattle.std.specs.Float.Ieee.{le}
use Rattle.floats.specs.Float.{is_minus_infinity}
use Rattle.answer.specs.Answer.{is_done}
use Rattle.answer.specs.declared.Answer.{Answer}
use Rattle.answer.specs.declared.Refusal.TheVariants.{NegativeDifference}
use Rattle.model.specs.Lent.{Tables, Lent, tables_of, S, M, T}
use Rattle.model.specs.Accepted.{Accepted, AcceptedTables}
use Rattle.occupancy.specs.Occupancy.{last_occupancy, gamma}
use Rattle.baum_welch.specs.Call.{Outputs, walks_of, Trained}

-- the occupancies of a state add up to no less than the last of them, where the samples can be at all
abbrev pub GammaIsAbove : Type 0
GammaIsAbove =
    (l : Lent) → Accepted l → 0 < T l → is_minus_infinity (walks_of l).probx ≡ false
    → (i : ℕ) → i < S l → Dec.T (le (last_occupancy (walks_of l) i) (gamma (walks_of l) i))

-- so no difference is negative: 10 is never the answer, whatever is lent
abbrev pub NeverNegative : Type 0
NeverNegative = (l : Lent) (o e : Outputs) (r : Answer) → Trained l o r e → r.refusal ≡ NegativeDifference → ⊥

-- the new model: the front of each of its outputs
abbrev pub new_tables : Lent → Outputs → Tables
new_tables l e =
    tables_of l.tables.shape
    (take (S l * S l) e.transition) (take (S l * M l) e.emission) (take (S l) e.initial) (take (S l) e.end)

-- what a pass that is done leaves is accepted again: it can be decoded, and trained further
abbrev pub NewModelIsAccepted : Type 0
NewModelIsAccepted = (l : Lent) (o e : Outputs) (r : Answer) → Trained l o r e → is_done r ≡ true → AcceptedTables (new_tables l e)
