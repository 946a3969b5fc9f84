-- What the checks let through can be walked, and a call without a sample ends as it promises.
use Prim.Native.Nat.{◌<◌}
use mathlib.Core.Path.{◌≡◌, refl, sym}
use mathlib.Core.Bool.{Bool, true, false, not}
use mathlib.Core.List.{List}
use lib.ListN.{length}
use lib.Ieee.{Float}
use Rattle.floats.specs.Float.{minus_infinity}
use Rattle.lists.specs.Lists.{flat}
use Rattle.lists.proofs.Over.{over_none}
use Rattle.answer.specs.Answer.{done, is_done}
use Rattle.answer.specs.declared.Answer.{Answer}
use Rattle.model.specs.Lent.{Lent, T}
use Rattle.model.specs.Model.{Model, model_of}
use Rattle.std.specs.Prelude.{Ok, Err}
use Rattle.checks.proofs.Done.{let_through}
use Rattle.checks.proofs.Parts as Parts
use Rattle.likelihood.specs.Walk.{forward_value, backward_value}
use Rattle.likelihood.specs.Call.{checked}
use Rattle.likelihood.specs.inner.Walk.{Ready, value_of}
use Rattle.likelihood.specs.inner.Call.{Answered, fault_for}

module _ (needs_sample : Bool) (l : Lent) (o : List Float) (ok : is_done (checked needs_sample l (length o)) ≡ true) where
  pub is_ready : 0 < T l → Ready l o
  is_ready some =
      let h = let_through needs_sample _ l ok in
      let a = h.accepted.tables in
      record {
        walkable = record {
          few_states = a.in_range.few_states;
          transition_length = a.transition_length;
          initial_length = a.initial_length;
          end_length = a.end_length;
          some_sample = some;
          values_room = h.roomy.0;
        };
        symbols = record { emission_length = a.emission_length; known = h.accepted.samples.known };
      }

-- the code's check: where it refuses the call, the call ends as it promises, and where it is passed, the answer of the checks is done
module _ (back : Bool) (l : Lent) (o : List Float) where
  pub is_refused : {x : Answer} → Err x ≡ fault_for (not back) l (length o) → Answered back l o x o
  is_refused e =
      let stopped = Parts.is_refused (not back) l _ e in
      record { answer = rw stopped (Parts.refusal_is (not back) l _ e); values = rw stopped refl }

  pub is_passed : {u : Unit} → Ok u ≡ fault_for (not back) l (length o) → is_done (checked (not back) l (length o)) ≡ true
  is_passed = Parts.is_passed (not back) l _

-- no samples have no rows, and are worth nothing
no_samples : (back : Bool) (m : Model) → value_of back m 0 ≡ minus_infinity
unfolding forward_value backward_value
no_samples false m = refl
no_samples true m = refl

pub is_empty : (back : Bool) (l : Lent) (o : List Float) (r : Answer) → is_done (checked (not back) l (length o)) ≡ true
    → T l ≡ 0 → r ≡ done minus_infinity → Answered back l o r o
unfolding flat
is_empty back l o r ok none e =
    record { answer = rw (ok, none, no_samples back (model_of l)) e; values = rw (ok, none) (sym (over_none 0 o)) }
