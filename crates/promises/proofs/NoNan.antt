-- No NaN comes out of a call, and no plus infinity: both walks stay at most at the lid, and a new entry is at most 0.
use Prim.Native.Nat.{ℕ, zero, suc, ◌*◌, ◌<◌}
use native.Mathlib.Nat.{lt-suc_self}
use mathlib.Core.Path.{◌≡◌, refl, sym, ap, subst, ◌∙◌}
use mathlib.Core.Bool.{Bool, true, false, true≢false, cond}
use mathlib.Core.List.{List}
use lib.Dec as Dec
use lib.ListN.{length, take}
use lib.Ieee.{Float}
use Rattle.floats.specs.Float.{nought, one, minus_infinity, capped}
use Rattle.floats.proofs.Add.{capped_le}
use Rattle.floats.proofs.Ceiling.{lid_capped}
use Rattle.floats.proofs.PlusZero.{plus_zero_bounds}
use Rattle.lists.specs.Lists.{tab, table, after}
use Rattle.lists.proofs.Every.{every_tab, every_table}
use Rattle.answer.specs.Answer.{is_done, done}
use Rattle.answer.specs.declared.Answer.{Answer}
use Rattle.model.specs.Lent.{Lent, S, T}
use Rattle.model.specs.Good.{good, good_end}
use Rattle.model.specs.Accepted.{Every, Accepted}
use Rattle.model.specs.Model.{Model, model_of}
use Rattle.model.proofs.Low.{Low, accepted_low}
use Rattle.checks.specs.Faults.{Fault}
use Rattle.checks.specs.Exactly.{Exactly}
use Rattle.checks.proofs.Done.{let_through}
use Rattle.best_path.specs.Walk.{value, last_state, best_value}
use Rattle.best_path.proofs.States.{last_below_lem}
use Rattle.best_path.proofs.Ending.{ended_lid}
use Rattle.best_path.proofs.Bounds.{value_lid, value_capped}
use Rattle.viterbi.specs.Call as Viterbi
use Rattle.viterbi.specs.Call.{Decoded}
use Rattle.rival.specs.declared.Rivalry.{Rivalry}
use Rattle.rival.specs.Call as Rival
use Rattle.rival.specs.Call.{Asked, rival_value, Told}
use Rattle.rival_laws.proofs.Rival.{barred_low}
use Rattle.likelihood.specs.Walk.{alpha, forward_value, beta, backward_value}
use Rattle.likelihood.specs.Call.{checked, Walked}
use Rattle.likelihood.proofs.Bounds.{alpha_lid, beta_lid, forward_lid, backward_lid}
use Rattle.baum_welch.specs.Pass.{probx}
use Rattle.baum_welch.specs.Call as BaumWelch
use Rattle.baum_welch.proofs.Walks.{probx_is}
use Rattle.model_file.specs.Call.{read_check, write_check}
use Rattle.file_promises.specs.ModelFile.{model_read}
use Rattle.file_promises.proofs.ModelFile.{model_accepted}
use Rattle.promises.specs.NoNan.{NoNanFromFiles, NoNan}
use Rattle.promises.proofs.Always.{all_calls_answer}
use Rattle.checks.proofs.Left.{checks_done, tab_front, rows_front}
use Rattle.path_promises.proofs.Rival.{passed}
use Rattle.promises.proofs.Pass.{pass_done, new_model_is_accepted}

-- ---- the value of an answer: that of a refusal is minus infinity
answer_capped : (faults : List Fault) (r : Answer) → Exactly faults r → (is_done r ≡ true → Dec.T (capped r.value)) → Dec.T (capped r.value)
answer_capped faults r x h = go (is_done r) refl
  where
    go : (b : Bool) → is_done r ≡ b → Dec.T (capped r.value)
    go true e = h e
    go false e = subst (λ (v : Float). Dec.T (capped v)) (sym (x.given _ _ _ (x.only_then e)).value_is) tt

done_capped : (r : Answer) (v : Float) → r ≡ done v → Dec.T (capped v) → Dec.T (capped r.value)
done_capped r v e h = subst (λ (a : Answer). Dec.T (capped a.value)) (sym e) h

-- ---- the front of an output
rows_capped : (b : Bool) (n s : ℕ) (f : ℕ → ℕ → Float) (o e : List Float) → e ≡ after b (table n s f) o → b ≡ true
    → ((t j : ℕ) → t < n → j < s → Dec.T (capped (f t j))) → Every capped (take (n * s) e)
rows_capped b n s f o e h t c = subst (Every capped) (sym (rows_front b n s f o e h t)) (every_table minus_infinity capped n s f c)

wiped_capped : (b : Bool) (n : ℕ) (o e : List Float) → e ≡ after b (tab n (λ (k : ℕ). nought)) o → b ≡ true → Every capped (take n e)
wiped_capped b n o e h t =
    subst (Every capped) (sym (tab_front b n _ o e h t)) (every_tab minus_infinity capped n (λ (k : ℕ). nought) (λ k l. tt))

-- ---- the values of the walks
module _ (m : Model) where
  best_capped : (n : ℕ) → 0 < m.states → Low m n → Dec.T (capped (best_value m n))
  unfolding best_value
  best_capped zero some low = tt
  best_capped (suc t) some low =
      let j = last_state m t in
      let s = last_below_lem m some t in
      lid_capped _ (ended_lid m.ends (m.end j) (value m t j) (low.end j s) (value_lid (suc t) m some low t j (lt-suc_self t) s))

  forward_capped : (n : ℕ) → Low m n → Dec.T (capped (forward_value m n))
  forward_capped zero low = unfold forward_value in tt
  forward_capped (suc t) low = lid_capped (forward_value m (suc t)) (forward_lid m t low)

  backward_capped : (n : ℕ) → Low m n → Dec.T (capped (backward_value m n))
  backward_capped zero low = unfold backward_value in tt
  backward_capped (suc t) low = lid_capped (backward_value m (suc t)) (backward_lid m t low)

-- ---- the calls
of_viterbi_lem : (l : Lent) (o e : Viterbi.Outputs) (r : Answer) → Decoded l o r e → is_done r ≡ true
    → Dec.T (capped r.value) × Every capped (take (T l * S l) e.values)
of_viterbi_lem l o e r p d =
    let m = model_of l in
    let h = checks_done (Viterbi.checked l o) (done (best_value m (T l))) r p.answer d in
    let a = (let_through false (Viterbi.rooms l o) l h.0).accepted in
    let low = accepted_low l a in
    let some = a.tables.in_range.some_state in (
      done_capped r _ h.1 (best_capped m (T l) some low),
      rows_capped _ (T l) (S l) (value m) o.values e.values p.values h.0 (value_capped (T l) m some low),
    )

of_rival_lem : (q : Asked) (o e : Rival.Outputs) (r : Rivalry) → Told q o r e → is_done r.answer ≡ true → let l = q.lent in
    Dec.T (capped r.answer.value) × Every capped (take (T l * S l) e.values) × Dec.T (capped r.best)
of_rival_lem q o e r p d =
    let l = q.lent in
    let m = model_of l in
    let h = checks_done (Rival.checked q o) (done (rival_value q)) r.answer (ap (λ (x : Rivalry). x.answer) p.told) d in
    let a = (passed q o h.0).accepted in
    let low = accepted_low l a in
    let some = a.tables.in_range.some_state in
    let barred = barred_low (T l) m low q.index (Rival.chosen q) in
    let best : r.best ≡ best_value m (T l)
    = ap (λ (x : Rivalry). x.best) p.told ∙ ap (λ (b : Bool). cond b (best_value m (T l)) minus_infinity) h.0 in (
      done_capped r.answer _ h.1 (best_capped (Rival.without q) (T l) some barred),
      rows_capped _ (T l) (S l) (value (Rival.without q)) o.values e.values p.values h.0
          (value_capped (T l) (Rival.without q) some barred),
      subst (λ (v : Float). Dec.T (capped v)) (sym best) (best_capped m (T l) some low),
    )

best_told : (q : Asked) (o e : Rival.Outputs) (r : Rivalry) → Told q o r e → Dec.T (capped r.best)
best_told q o e r p = go (is_done r.answer) refl
  where
    refused : (b : Bool) → is_done (Rival.checked q o) ≡ b → is_done r.answer ≡ false
        → Dec.T (capped (cond b (best_value (model_of q.lent) (T q.lent)) minus_infinity))
    refused true h n = absurd (true≢false (sym (ap (λ (x : Rivalry). is_done x.answer) p.told ∙ rw h) ∙ n))
    refused false h n = tt

    go : (b : Bool) → is_done r.answer ≡ b → Dec.T (capped r.best)
    go true d = (of_rival_lem q o e r p d).2
    go false d =
        subst (λ (v : Float). Dec.T (capped v)) (sym (ap (λ (x : Rivalry). x.best) p.told)) (refused (is_done (Rival.checked q o)) refl d)

-- a walk, whatever its value and its rows are
module _ (needs_sample : Bool) (l : Lent) (v : Float) (f : ℕ → ℕ → Float) where
  of_walk_lem : (Low (model_of l) (T l) → Dec.T (capped v)) → (Low (model_of l) (T l) → (t j : ℕ) → t < T l → j < S l → Dec.T (capped (f t j)))
      → (o e : List Float) (r : Answer) → Walked needs_sample v (table (T l) (S l) f) l o r e → is_done r ≡ true
      → Dec.T (capped r.value) × Every capped (take (T l * S l) e)
  of_walk_lem whole cells o e r p d =
      let h = checks_done (checked needs_sample l (length o)) (done v) r p.answer d in
      let low = accepted_low l (let_through needs_sample _ l h.0).accepted in
      (done_capped r v h.1 (whole low), rows_capped _ (T l) (S l) f o e p.values h.0 (cells low))

of_forward_lem : (l : Lent) (o e : List Float) (r : Answer) → Walked true (forward_value (model_of l) (T l)) (table (T l) (S l) (alpha (model_of l))) l o r e
    → is_done r ≡ true → Dec.T (capped r.value) × Every capped (take (T l * S l) e)
of_forward_lem l =
    of_walk_lem true l _ (alpha (model_of l)) (forward_capped (model_of l) (T l))
    (λ low t j h s. lid_capped _ (alpha_lid (model_of l) (T l) low t j h s))

of_backward_lem : (l : Lent) (o e : List Float) (r : Answer)
    → Walked false (backward_value (model_of l) (T l)) (table (T l) (S l) (beta (model_of l) (T l))) l o r e
    → is_done r ≡ true → Dec.T (capped r.value) × Every capped (take (T l * S l) e)
of_backward_lem l =
    of_walk_lem false l _ (beta (model_of l) (T l)) (backward_capped (model_of l) (T l))
    (λ low t j h s. lid_capped _ (beta_lid (model_of l) (T l) low t j h s))

-- a pass: a good entry is at most 0
good_capped : (x : Float) → Dec.T (good x) → Dec.T (capped x)
unfolding good
good_capped x h = capped_le x nought h tt

end_capped : (ends : Bool) (x : Float) → Dec.T (good_end ends x) → Dec.T (capped x)
unfolding good_end
end_capped true x h = good_capped x h
end_capped false x h = capped_le x one (plus_zero_bounds x h).1 tt

probx_capped : (l : Lent) → Accepted l → 0 < T l → Dec.T (capped (probx (model_of l) (T l)))
probx_capped l a some =
    subst (λ (v : Float). Dec.T (capped v)) (probx_is (model_of l) (T l) some) (forward_capped (model_of l) (T l) (accepted_low l a))

pub no_nan : NoNan
no_nan =
    record {
      of_viterbi = λ l o e r p.
          record {
            value = answer_capped _ r (all_calls_answer.of_viterbi.exactly l o e r p) (λ d. (of_viterbi_lem l o e r p d).0);
            written = λ d. ((of_viterbi_lem l o e r p d).1, tt);
          };
      of_rival = λ q o e r p. (
        record {
          value = answer_capped _ r.answer (all_calls_answer.of_rival.exactly q o e r p) (λ d. (of_rival_lem q o e r p d).0);
          written = λ d. ((of_rival_lem q o e r p d).1, tt);
        },
        best_told q o e r p,
      );
      of_forward = λ l o e r p.
          record {
            value = answer_capped _ r (all_calls_answer.of_forward.exactly l o e r p) (λ d. (of_forward_lem l o e r p d).0);
            written = λ d. ((of_forward_lem l o e r p d).1, tt);
          };
      of_backward = λ l o e r p.
          record {
            value = answer_capped _ r (all_calls_answer.of_backward.exactly l o e r p) (λ d. (of_backward_lem l o e r p d).0);
            written = λ d. ((of_backward_lem l o e r p d).1, tt);
          };
      of_baum_welch = λ l o e r p.
          record {
            value = answer_capped _ r (all_calls_answer.of_baum_welch.exactly l o e r p) (λ d.
                let h = pass_done l o e r p d in
                let through = let_through true (BaumWelch.rooms l o) l h.0 in
                done_capped r _ h.2 (probx_capped l through.accepted (through.sampled tt)));
            written = λ d.
                let h = pass_done l o e r p d in
                let new = new_model_is_accepted l o e r p d in (
                  λ i b. good_capped _ (new.transition_good i b),
                  (
                    λ i b. good_capped _ (new.emission_good i b),
                    (
                      λ i b. good_capped _ (new.initial_good i b),
                      (
                        λ i b. end_capped l.tables.shape.ends _ (new.end_good i b),
                        (
                          wiped_capped _ (T l * S l) o.alpha e.alpha p.alpha h.0,
                          (wiped_capped _ (T l * S l) o.beta e.beta p.beta h.0, tt),
                        ),
                      ),
                    ),
                  ),
                );
          };
    }

-- ---- the model file: what is read is accepted
table_capped : (good : Float → Bool) → ((x : Float) → Dec.T (good x) → Dec.T (capped x)) → (xs : List Float) → Every good xs → Every capped xs
table_capped good h xs g i l = h _ (g i l)

pub no_nan_from_files : NoNanFromFiles
no_nan_from_files =
    record {
      of_read_model = λ file o e r small p.
          record {
            value = answer_capped _ r.answer (all_calls_answer.of_read_model.exactly file o e r p)
                (λ d. done_capped r.answer nought (checks_done (read_check file o) (done nought) r.answer p.answer d).1 tt);
            written = λ d.
                let m = model_read r e in
                let a = model_accepted file o e r small p d in (
                  table_capped good good_capped m.transition a.transition_good,
                  (
                    table_capped good good_capped m.emission a.emission_good,
                    (
                      table_capped good good_capped m.initial a.initial_good,
                      (table_capped (good_end m.shape.ends) (end_capped m.shape.ends) m.end a.end_good, tt),
                    ),
                  ),
                );
          };
      of_write_model = λ m o e r p.
          record {
            value = answer_capped _ r (all_calls_answer.of_write_model.exactly m o e r p)
                (λ d. done_capped r nought (checks_done (write_check m o) (done nought) r p.answer d).1 tt);
            written = λ d. tt;
          };
    }
