-- What is told in each case, what both walks leave, and that each way in which a call ends is what it promises.
use Prim.Native.Nat.{ℕ, ◌≤◌, ◌<◌}
use mathlib.Core.Path.{◌≡◌, refl, sym, ap, subst, ◌∙◌}
use mathlib.Core.Bool.{Bool, true, false, true≢false, cond}
use mathlib.Core.List.{List}
use native.Mathlib.Omega.{arith}
use borrow.Author.Tests.{lt-ltb, le-ltb, ltb-true}
use lib.Dec.{ltb}
use lib.ListN.{length}
use lib.Ieee.{Float}
use Rattle.std.specs.Prelude.{Err}
use Rattle.floats.specs.Float.{is_minus_infinity}
use Rattle.lists.specs.Lists.{tab, table}
use Rattle.lists.proofs.Over.{length_tab, over_settled}
use Rattle.lists.proofs.Rows.{length_flat}
use Rattle.answer.specs.Answer.{done, refuse, is_done, answered}
use Rattle.answer.specs.Checks.{first_of}
use Rattle.answer.specs.declared.Answer.{Answer}
use Rattle.answer.specs.declared.Refusal.TheVariants.{NoRival, BadIndex}
use Rattle.answer.proofs.Checks.{clear, goes_on, stops}
use Rattle.model.specs.Lent.{Lent, S, T}
use Rattle.model.specs.Model.{model_of}
use Rattle.checks.specs.Checks.{tests_of, passage, check, check_fault}
use Rattle.checks.proofs.Parts as Parts
use Rattle.checks.proofs.Done.{passage_refuses}
use Rattle.best_path.specs.Walk.{best_value}
use Rattle.walk.specs.Barred.{barred}
use Rattle.walk.specs.inner.Path as Walk
use Rattle.rival.specs.declared.Rivalry.{Rivalry}
use Rattle.rival.specs.declared.preview.Outlook.{Outlook}
use Rattle.rival.specs.Call.{Asked, Outputs, chosen, rival_value, rival_tests, rooms, checked, rivalry, Told}
use Rattle.rival.specs.inner.Origins.{previewed}
use Rattle.rival.specs.inner.Parts.{nothing_told, told, Found}

module _ (q : Asked) (r : Rivalry) where
  pub told_past : T q.lent ≤ q.index → r ≡ nothing_told (refuse BadIndex 0 0) → r ≡ told q
  unfolding first_of
  told_past h e = rw (le-ltb _ _ h) e

  module _ (within : q.index < T q.lent) where
    pub told_none : is_minus_infinity (rival_value q) ≡ true → r ≡ nothing_told (refuse NoRival 0 0) → r ≡ told q
    unfolding first_of
    told_none h e = rw (lt-ltb _ _ within, h) e

    pub told_some : is_minus_infinity (rival_value q) ≡ false
        → r ≡ record { answer = done (rival_value q); chosen = chosen q; best = best_value (model_of q.lent) (T q.lent) } → r ≡ told q
    unfolding first_of
    told_some h e = rw (lt-ltb _ _ within, h) e

-- ---- what the two previews foresee
module _ (q : Asked) (b : Outlook) (is : b ≡ previewed (model_of q.lent) (T q.lent) q.index) where
  pub best_foreseen : b.value ≡ best_value (model_of q.lent) (T q.lent)
  best_foreseen = ap (λ (o : Outlook). o.value) is

  pub chosen_foreseen : b.state ≡ chosen q
  chosen_foreseen = ap (λ (o : Outlook). o.state) is

  pub rival_foreseen : (o : Outlook) → o ≡ previewed (barred q.index b.state (model_of q.lent)) (T q.lent) q.index
      → o.value ≡ rival_value q
  rival_foreseen o e =
      ap (λ (p : Outlook). p.value) e
      ∙ ap (λ (d : ℕ). best_value (barred q.index d (model_of q.lent)) (T q.lent)) chosen_foreseen

-- ---- what both walks leave
module _ (l : Lent) (u d : ℕ) (o e : Outputs) (values : List Float) (from₁ : List ℕ) (best rival : Float) where
  same_room : {A : Type 0} (f g : ℕ → ℕ → A) → length (table (T l) (S l) f) ≤ length (table (T l) (S l) g)
  same_room f g =
      let long = length_flat (T l) (λ (t : ℕ). tab (S l) (f t)) (S l) (λ (k : ℕ). length_tab (S l) (f k)) in
      let same = length_flat (T l) (λ (t : ℕ). tab (S l) (g t)) (S l) (λ (k : ℕ). length_tab (S l) (g k)) in
      omega (arith, long, same)

  pub both_found : Walk.Found (model_of l) (T l) best o.path e.path o.values values o.from from₁
      → Walk.Found (barred u d (model_of l)) (T l) rival o.rival_path e.rival_path values e.values from₁ e.from
      → Found l u d o e
  both_found f g =
      record {
        path_stored = f.path_stored;
        rival_stored = g.path_stored;
        values_stored = over_settled _ _ _ _ _ g.rows_filled.values_stored f.rows_filled.values_stored (same_room _ _);
        from_stored = over_settled _ _ _ _ _ g.rows_filled.from_stored f.rows_filled.from_stored (same_room _ _);
      }

-- ---- the ways in which a call ends
-- a done answer stays done, and a refusal refused, whatever the value
answered_done : (a : Answer) (v : Float) → is_done (answered a v) ≡ is_done a
answered_done a v = go (is_done a) refl
  where
    go : (b : Bool) → is_done a ≡ b → is_done (cond b (done v) a) ≡ is_done a
    go true e = sym e
    go false e = refl

module _ (q : Asked) (o : Outputs) (r : Rivalry) where
  -- the checks 1 to 8
  abbrev pub early : Answer
  early = check false (rooms q o) q.lent

  stays : is_done (checked q o) ≡ false → r ≡ rivalry q o → Told q o r o
  stays h e = record { told = e; path = rw h; rival_path = rw h; values = rw h; from = rw h }

  pub is_refused : {x : Answer} → Err x ≡ check_fault false (rooms q o) q.lent → r ≡ nothing_told x → Told q o r o
  is_refused {x} f e' =
      let h = Parts.is_refused false q.lent (rooms q o) f in
      let e = e' ∙ ap nothing_told (Parts.refusal_is false q.lent (rooms q o) f) in
      let c : checked q o ≡ early = sym (stops _ (rival_tests q) early refl h) in
      stays (ap is_done c ∙ h) (rw (c, h) e)

  module _ (passed : is_done early ≡ true) (is : r ≡ told q) where
    late : checked q o ≡ first_of (rival_tests q)
    late =
        sym (goes_on (tests_of q.lent.tables (passage false (rooms q o) q.lent)) (rival_tests q) _ refl
        (clear _ (passage_refuses false (rooms q o) q.lent) passed))

    told_late : r ≡ rivalry q o
    told_late = rw late is

    -- what the code's test of the answer says
    tested : is_done (checked q o) ≡ is_done r.answer
    tested = ap is_done late ∙ sym (ap (λ (x : Rivalry). is_done x.answer) is ∙ answered_done (first_of (rival_tests q)) (rival_value q))

    pub is_told : is_done r.answer ≡ false → Told q o r o
    is_told h = stays (tested ∙ h) told_late

    module _ (h : is_done r.answer ≡ true) where
      passed_all : is_done (checked q o) ≡ true
      passed_all = tested ∙ h

      pub chosen_is : r.chosen ≡ chosen q
      chosen_is = ap (λ (x : Rivalry). x.chosen) told_late ∙ ap (λ (b : Bool). cond b (chosen q) 0) passed_all

      pub some_sample_lem : q.index < T q.lent
      unfolding first_of
      some_sample_lem = sample (ltb q.index (T q.lent)) refl (sym (ap is_done late) ∙ passed_all)
        where
          sample : (b : Bool) → ltb q.index (T q.lent) ≡ b → is_done (first_of (rival_tests q)) ≡ true → q.index < T q.lent
          sample true e k = ltb-true _ _ e
          sample false e k = absurd (true≢false (sym k ∙ rw e))

      pub is_found : (e : Outputs) (d : ℕ) → d ≡ r.chosen → Found q.lent q.index d o e → Told q o r e
      is_found e d i f =
          let c : d ≡ chosen q = i ∙ chosen_is in
          let g = subst (λ (k : ℕ). Found q.lent q.index k o e) c f in
          record {
            told = told_late;
            path = rw passed_all g.path_stored;
            rival_path = rw passed_all g.rival_stored;
            values = rw passed_all g.values_stored;
            from = rw passed_all g.from_stored;
          }
