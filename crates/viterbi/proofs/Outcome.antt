-- The three ways in which a call ends, and that each is what it promises: refused, without a sample, and walked.
use mathlib.Core.Path.{◌≡◌, sym, ap, ◌∙◌}
use mathlib.Core.Bool.{true, false}
use lib.Ieee.{Float}
use Rattle.floats.specs.Float.{minus_infinity}
use Rattle.lists.specs.Lists.{flat}
use Rattle.lists.proofs.Over.{over_none}
use Rattle.answer.specs.Answer.{done, is_done}
use Rattle.answer.specs.declared.Answer.{Answer}
use Rattle.model.specs.Lent.{Lent, T}
use Rattle.model.specs.Model.{model_of}
use Rattle.best_path.specs.Walk.{best_path, best_value}
use Rattle.walk.specs.inner.Path.{Found}
use Rattle.viterbi.specs.Call.{Outputs, checked, Decoded}

module _ (l : Lent) (o : Outputs) (r : Answer) where
  pub is_refused : is_done (checked l o) ≡ false → r ≡ checked l o → Decoded l o r o
  is_refused not-ok e = record { answer = rw not-ok e; path = rw not-ok; values = rw not-ok; from = rw not-ok }

  pub is_empty : is_done (checked l o) ≡ true → T l ≡ 0 → r ≡ done minus_infinity → Decoded l o r o
  unfolding best_value best_path flat
  is_empty ok none e =
      record {
        answer = rw (ok, none) e;
        path = rw (ok, none) (sym (over_none 0 _));
        values = rw (ok, none) (sym (over_none 0 _));
        from = rw (ok, none) (sym (over_none 0 _));
      }

  pub is_walked : is_done (checked l o) ≡ true → (v : Float) (e : Outputs)
      → Found (model_of l) (T l) v o.path e.path o.values e.values o.from e.from → r ≡ done v → Decoded l o r e
  is_walked ok v e w d =
      record {
        answer = rw ok (d ∙ ap done w.value_found);
        path = rw ok w.path_stored;
        values = rw ok w.rows_filled.values_stored;
        from = rw ok w.rows_filled.from_stored;
      }
