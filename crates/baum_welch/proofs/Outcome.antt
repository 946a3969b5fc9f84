-- What a call comes to once the checks are passed: both walks stand, there is room for the new tables, and what is written is promised.
use Prim.Native.Nat.{ℕ, ◌+◌, ◌*◌, ◌≤◌, ◌<◌}
use native.Mathlib.Nat.{zero-add, mul-le-mul}
use native.Mathlib.Omega.{arith}
use mathlib.Core.Path.{◌≡◌, refl, ap, ap₂, ◌∙◌}
use mathlib.Core.Bool.{Bool, true, false, cond}
use mathlib.Core.List.{List, [], ◌∷◌}
use lib.ListN.{length}
use lib.Ieee.{Float}
use Rattle.std.specs.Prelude.{Ok, Err}
use Rattle.floats.specs.Float.{nought, at, minus_infinity}
use Rattle.lists.specs.Lists.{tab, table, over, after}
use Rattle.lists.proofs.Over.{length_tab, get_or_tab, tab_same, length_over, over_settled}
use Rattle.lists.proofs.Rows.{length_flat, table_same, place_back}
use Rattle.lists.proofs.First.{first_same}
use Rattle.answer.specs.Answer.{done, is_done, answered}
use Rattle.answer.specs.Checks.{first_of}
use Rattle.answer.specs.declared.Answer.{Answer}
use Rattle.model.specs.Lent.{Tables, tables_of, Lent, S, M, T}
use Rattle.model.specs.Model.{Model, model_of}
use Rattle.checks.specs.Rooms.{room}
use Rattle.checks.specs.LetThrough.{LetThrough}
use Rattle.checks.proofs.Done.{let_through, is_let_through}
use Rattle.checks.proofs.Parts.{refusal_is, is_refused, is_passed}
use Rattle.likelihood.specs.Walk.{alpha, beta, forward_value}
use Rattle.likelihood.specs.Call as Likelihood
use Rattle.occupancy.specs.declared.Pass.{Pass}
use Rattle.occupancy.specs.Occupancy.{Walks}
use Rattle.occupancy.specs.inner.Rows.{lent_of, rows_of, Readable}
use Rattle.occupancy.proofs.Same as Same
use Rattle.baum_welch.specs.Pass.{probx, share, at_most_zero, new_transition, new_emission, new_initial, new_end}
use Rattle.baum_welch.specs.Call.{Outputs, outputs, rooms, lengths, mass_tests, mass_check, Estimated, walks_of, checked, Trained}
use Rattle.baum_welch.specs.inner.Tables.{fault_for, transitions_of, Roomy, Retrained}
use Rattle.baum_welch.proofs.ZeroMass.{hollow}
use Rattle.baum_welch.proofs.Walks.{probx_is}

-- ---- n rows of s places over a list, and how they are read back
abbrev wiped : ℕ → List Float
wiped n = tab n (λ (k : ℕ). nought)

module _ (n s : ℕ) (f : ℕ → ℕ → Float) (was is : List Float) (laid : is ≡ over 0 (table n s f) was) where
  long : length (table n s f) ≡ n * s
  long = length_flat n _ s (λ (t : ℕ). length_tab s (f t))

  rows_room : n * s ≤ length was → n * s ≤ length is
  rows_room h =
      let room : 0 + length (table n s f) ≤ length was = rw (zero-add (length (table n s f)), long) h in
      rw (laid, length_over 0 (table n s f) was room) h

  rows_at : (t i : ℕ) → t < n → i < s → at is (t * s + i) ≡ f t i
  rows_at t i h k =
      place_back n t s i _ was is minus_infinity (λ (u : ℕ). length_tab s (f u)) laid h k ∙ get_or_tab s (f t) i minus_infinity k

  -- cleared again
  rows_wiped : (end : List Float) → end ≡ over 0 (wiped (n * s)) is → end ≡ over 0 (wiped (n * s)) was
  rows_wiped end e =
      let shorter : length (table n s f) ≤ length (wiped (n * s)) = rw (long, length_tab (n * s) (λ (k : ℕ). nought)) (omega arith) in
      over_settled _ _ was is end e laid shorter

-- ---- past the checks
-- both walks stand: al and be hold them, and v is the likelihood
pub record Stood (l : Lent) (o : Outputs) (al be : List Float) (v : Float) : Type 0 where
  pub ok : is_done (checked l o) ≡ true
  pub alpha_laid : al ≡ over 0 (table (T l) (S l) (alpha (model_of l))) o.alpha
  pub beta_laid : be ≡ over 0 (table (T l) (S l) (beta (model_of l) (T l))) o.beta
  pub value : v ≡ probx (model_of l) (T l)

module _ (l : Lent) (o : Outputs) (ok : is_done (checked l o) ≡ true) where
  passed : LetThrough true (rooms l o) l
  passed = let_through true (rooms l o) l ok

  alpha_room_lem : T l * S l ≤ length o.alpha
  alpha_room_lem = passed.roomy.1.1.1.1.0

  beta_room_lem : T l * S l ≤ length o.beta
  beta_room_lem = passed.roomy.1.1.1.1.1.0

  -- the walks' own checks find no fault either
  walk_done : (needs_sample : Bool) (n : ℕ) → T l * S l ≤ n → is_done (Likelihood.checked needs_sample l n) ≡ true
  walk_done needs_sample n h =
      is_let_through needs_sample (room (T l * S l) n ∷ []) l
      (record { accepted = passed.accepted; roomy = (h, tt); sampled = λ _. passed.sampled tt })

-- the checks found no fault, and both walks were made
pub stood : {l : Lent} {u : Unit} {r' r'' : Answer} {al be : List Float} (o : Outputs) → Ok u ≡ fault_for l (lengths o)
    → Likelihood.Forward l o.alpha r' al → Likelihood.Backward l o.beta r'' be → Stood l o al be r'.value
stood {l} {u} {r'} o c f b =
    let ok = is_passed true l (rooms l o) c in
    let there = walk_done l o ok true (length o.alpha) (alpha_room_lem l o ok) in
    let back = walk_done l o ok false (length o.beta) (beta_room_lem l o ok) in
    let answer : r' ≡ done (forward_value (model_of l) (T l)) = rw there at f.answer in
    record {
      ok = ok;
      alpha_laid = rw there at f.values;
      beta_laid = rw back at b.values;
      value = ap (λ (x : Answer). x.value) answer ∙ probx_is (model_of l) (T l) ((passed l o ok).sampled tt);
    }

module _ {l : Lent} {o : Outputs} {al be : List Float} {v : Float} (st : Stood l o al be v) where
  pub few_places : T l * S l ≤ 4096 * 64
  few_places =
      let a = (passed l o st.ok).accepted in
      mul-le-mul a.samples.few_samples a.tables.in_range.few_states

  pub alpha_kept : T l * S l ≤ length al
  alpha_kept = rows_room (T l) (S l) _ _ _ st.alpha_laid (alpha_room_lem l o st.ok)

  pub beta_kept : T l * S l ≤ length be
  beta_kept = rows_room (T l) (S l) _ _ _ st.beta_laid (beta_room_lem l o st.ok)

-- the checks found fault
pub is_stopped : {l : Lent} {x : Answer} (o : Outputs) → Err x ≡ fault_for l (lengths o) → Trained l o x o
is_stopped {l} o e =
    let stopped = is_refused true l (rooms l o) e in
    record {
      answer = rw stopped (refusal_is true l (rooms l o) e);
      new = rw stopped (record { transition = refl; emission = refl; initial = refl; end = refl });
      alpha = rw stopped refl;
      beta = rw stopped refl;
    }

answered_done : (c : Answer) (v : Float) → is_done (answered c v) ≡ is_done c
answered_done c v = go (is_done c) refl
  where
    go : (b : Bool) → is_done c ≡ b → is_done (cond b (done v) c) ≡ b
    go true e = refl
    go false e = e

module _ (p : Pass) {o : Outputs} (st : Stood (lent_of p) o p.alpha.now p.beta.now p.probx) where
  abbrev l : Lent
  l = lent_of p

  abbrev al : List Float
  al = p.alpha.now

  abbrev be : List Float
  be = p.beta.now

  abbrev v : Float
  v = p.probx

  abbrev m : Model
  m = model_of l

  -- the rows in memory, and those of the walks
  abbrev rows : Walks
  rows = rows_of p

  abbrev w : Walks
  w = Same.of_rows (T l) (alpha m) (beta m (T l)) v

  through : LetThrough true (rooms l o) l
  through = passed l o st.ok

  some : 0 < T l
  some = through.sampled tt

  pub readable : Readable p
  readable =
      let a = through.accepted in
      record {
        standing = record { few = a.tables.in_range.few_states; some = some; alpha_room = alpha_kept st; beta_room = beta_kept st };
        known = record { few = a.tables.in_range.few_symbols; known = a.samples.known };
        transition_length = a.tables.transition_length;
        emission_length = a.tables.emission_length;
      }

  -- the outputs have room for the new tables
  pub roomy : Roomy p o.transition o.emission o.initial o.end
  roomy =
      let r = through.roomy in
      record { transition_room = r.0; emission_room = r.1.0; initial_room = r.1.1.0; end_room = r.1.1.1.0 }

  agree : Same.Agree (S l) (T l) rows.alpha w.alpha rows.beta w.beta
  agree =
      record {
        some = some;
        alpha = rows_at (T l) (S l) _ _ _ st.alpha_laid;
        beta = rows_at (T l) (S l) _ _ _ st.beta_laid;
      }

  hollow_same : hollow (S l) m.ends rows ≡ hollow (S l) m.ends w
  hollow_same = first_same (S l) _ _ (λ i s. Same.massless_same v agree i s m.ends)

  check_same : first_of (mass_tests (S l) m.ends rows) ≡ mass_check m (walks_of l)
  unfolding mass_check
  check_same = rw (hollow_same, st.value)

  answer_same : (r : Answer) → r ≡ answered (first_of (mass_tests (S l) m.ends rows)) v
      → r ≡ answered (mass_check m (walks_of l)) (probx m (T l))
  answer_same r e = e ∙ ap₂ answered check_same st.value

  -- ---- the new tables
  abbrev laid : ℕ → ℕ → Float
  laid = transitions_of p

  module _ (i : ℕ) (s : i < S l) where
    transition_same : (j : ℕ) → j < S l → laid i j ≡ new_transition m w i j
    unfolding new_transition
    transition_same j s' =
        ap₂ share (Same.arcs_same v agree i s m.transition m.emission j s') (Same.denominator_same v agree i s m.ends)

    emission_same : (x : ℕ) → new_emission rows l.samples i x ≡ new_emission w l.samples i x
    unfolding new_emission
    emission_same x = ap₂ share (Same.emitted_same v agree i s l.samples x (T l) (omega arith)) (Same.gamma_same v agree i s)

    initial_same : new_initial rows i ≡ new_initial w i
    unfolding new_initial
    initial_same = ap at_most_zero (Same.occupancy_same v agree i s 0 some)

    end_same : new_end rows m.ends i ≡ new_end w m.ends i
    unfolding new_end
    end_same = ap₂ (λ (x g : Float). cond m.ends (share x g) nought) (Same.last_same v agree i s) (Same.gamma_same v agree i s)

  relaid : (b : Bool) (xs : List Float) {p q : List Float} → p ≡ q → after b p xs ≡ after b q xs
  relaid b xs e = ap (λ (p : List Float). after b p xs) e

  abbrev made : Answer → Tables → Type 0
  made r e =
      Retrained p (tables_of l.tables.shape o.transition o.emission o.initial o.end) e r

  -- what the outputs hold after the tables are written or left
  estimated : (r : Answer) (e : Tables) → made r e
      → Estimated m w (M l) l.samples (is_done r) o (outputs e.transition e.emission e.initial e.end al be)
  estimated r e h =
      let b = is_done r in
      record {
        transition = h.laid_transition ∙ relaid b o.transition (table_same (S l) (S l) _ _ (λ i j s s'. transition_same i s j s'));
        emission = h.laid_emission ∙ relaid b o.emission (table_same (S l) (M l) _ _ (λ i x s _. emission_same i s x));
        initial = h.laid_initial ∙ relaid b o.initial (tab_same (S l) _ _ initial_same);
        end = h.laid_end ∙ relaid b o.end (tab_same (S l) _ _ end_same);
      }

  -- and after both walks are wiped
  pub is_trained : (r : Answer) (e : Tables) (al' be' : List Float) → made r e → al' ≡ over 0 (wiped (T l * S l)) al
      → be' ≡ over 0 (wiped (T l * S l)) be
      → Trained l o r (outputs e.transition e.emission e.initial e.end al' be')
  is_trained r e al' be' h wa wb =
      let answer = answer_same r h.answer in
      let new = rw (ap is_done answer ∙ answered_done (mass_check m (walks_of l)) (probx m (T l))) at (rw st.value at (estimated r e h)) in
      record {
        answer = rw st.ok answer;
        new = rw st.ok (record { transition = new.transition; emission = new.emission; initial = new.initial; end = new.end });
        alpha = rw st.ok (rows_wiped (T l) (S l) _ _ _ st.alpha_laid al' wa);
        beta = rw st.ok (rows_wiped (T l) (S l) _ _ _ st.beta_laid be' wb);
      }
