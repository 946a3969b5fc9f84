-- What an end state does not change of a best path (RULES 6.1): its rows of values and predecessors. It moves the last state and the value.
use Rattle.std.specs.Prelude.{◌*◌, ◌≡◌, true, take}
use Rattle.answer.specs.Answer.{is_done}
use Rattle.answer.specs.declared.Answer.{Answer}
use Rattle.model.specs.Lent.{Lent, S, M, T}
use Rattle.viterbi.specs.Call.{Outputs, Decoded}

-- the two are the same but for the end flag and the end table
pub record SameButForTheEnd (l l' : Lent) : Type 0 where
  pub states : S l ≡ S l'
  pub symbols : M l ≡ M l'
  pub transition : l.tables.transition ≡ l'.tables.transition
  pub emission : l.tables.emission ≡ l'.tables.emission
  pub initial : l.tables.initial ≡ l'.tables.initial
  pub samples : l.samples ≡ l'.samples

-- two calls of `viterbi` on such, both done, leave the same rows of values and predecessors, to the bit
abbrev pub EndMovesNoRow : Type 0
EndMovesNoRow =
    (l l' : Lent) (o e o' e' : Outputs) (r r' : Answer) → SameButForTheEnd l l'
    → Decoded l o r e → is_done r ≡ true → Decoded l' o' r' e' → is_done r' ≡ true → let n = T l * S l in
    (take n e.values ≡ take n e'.values) × (take n e.from ≡ take n e'.from)
