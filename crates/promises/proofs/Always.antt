-- Demand 1 holds of the five calls on a model and its samples, and of the reader and the writer of a model file.
use Prim.Native.Nat.{ℕ, ◌*◌, ◌<◌, ◌≤◌}
use mathlib.Core.Path.{◌≡◌, refl, sym, ◌∙◌}
use mathlib.Core.Bool.{Bool, true, false, true≢false, cond, not}
use mathlib.Core.List.{List, [], ◌∷◌, ◌++◌}
use native.Mathlib.Omega.{arith}
use borrow.Author.Tests.{ltb-true, ltb-false, not-true, not-false}
use lib.Dec as Dec
use lib.Dec.{ltb, ltb→lt}
use lib.ListN.{length}
use lib.Ieee.{Float}
use Rattle.floats.specs.Float.{nought, is_minus_infinity}
use Rattle.lists.specs.Lists.{tab, table, after}
use Rattle.lists.specs.First.{first}
use Rattle.lists.proofs.First.{passes_there, passes_first}
use Rattle.answer.specs.Answer.{done, is_done, refuse, answered}
use Rattle.answer.specs.Checks.{Tests, first_of}
use Rattle.answer.specs.declared.Answer.{Answer}
use Rattle.answer.specs.declared.Refusal.TheVariants.{ZeroMass, NoRival, BadIndex}
use Rattle.model.specs.Lent.{Tables, Lent, S, M, T}
use Rattle.model.specs.Model.{Model, model_of}
use Rattle.checks.specs.declared.Room.{Room}
use Rattle.checks.specs.Rooms.{room}
use Rattle.checks.specs.Checks.{table_rooms, tests_of, passage, check, unsampled}
use Rattle.checks.specs.Faults.{Fault, fault, shape_faults, count_faults, room_faults, bad_entries, unknown_symbols, check_faults, Some}
use Rattle.checks.specs.Faults.{faults_of, unsampled_faults}
use Rattle.checks.specs.Exactly.{Exactly}
use Rattle.checks.proofs.Tests.{is_true}
use Rattle.checks.proofs.FirstFault.{Tells, Tell, tell_both, exactly_first, exactly_both, not_some, some_left, some_right}
use Rattle.checks.proofs.Tells.{to_T, apart, at_one, checks_tell, passage_tells, unsampled_tells}
use Rattle.best_path.specs.Walk.{value, from, best_path, best_value}
use Rattle.viterbi.specs.Call as Viterbi
use Rattle.viterbi.specs.Call.{Decoded}
use Rattle.rival.specs.declared.Rivalry.{Rivalry}
use Rattle.rival.specs.Call as Rival
use Rattle.rival.specs.Call.{Asked, rival_value, rival_tests, Told}
use Rattle.likelihood.specs.Walk.{alpha, forward_value, beta, backward_value}
use Rattle.likelihood.specs.Call.{checked, Walked}
use Rattle.occupancy.specs.Occupancy.{Walks, massless}
use Rattle.baum_welch.specs.Pass.{new_transition, new_emission, new_initial, new_end}
use Rattle.baum_welch.specs.Call as BaumWelch
use Rattle.baum_welch.specs.Call.{mass_tests, mass_check, mass_answer, walks_of, Trained}
use Rattle.model_file.specs.declared.Reading.{Reading}
use Rattle.file_layout.specs.Layout.{model_file}
use Rattle.file_layout.specs.Reading.{shape_of, model_in}
use Rattle.file_layout.specs.Checks.{read_rooms, read_tests, write_rooms}
use Rattle.file_laws.specs.Faults.{too_short, bad_layout, bad_sums, bad_words, read_faults}
use Rattle.model_file.specs.Call as File
use Rattle.model_file.specs.Call.{no_shape, read_check, Read, write_check, Written}
use Rattle.file_laws.proofs.FileTells.{read_tells}
use Rattle.promises.specs.Always.{Always, AllCallsAnswer, ZeroMassClears, on_passage, mass_faults, walk, viterbi, baum_welch}
use Rattle.promises.specs.Always.{rival_faults, rival, read_model, write_model}

-- ---- a call on a model and one passage
module _ (Outputs : Type 0) (needs_sample : Bool) (rooms : Lent → Outputs → List Room) where
  abbrev checks : Lent → Outputs → Answer
  checks l o = check needs_sample (rooms l o) l

  abbrev faults : Lent → Outputs → List Fault
  faults l o = check_faults needs_sample (rooms l o) l

  tell : (l : Lent) (o : Outputs) → Tell (tests_of l.tables (passage needs_sample (rooms l o) l)) (faults l o)
  tell l o = checks_tell l.tables _ _ (passage_tells needs_sample (rooms l o) l)

  exact : (l : Lent) (o : Outputs) → Exactly (faults l o) (checks l o)
  exact l o = exactly_first _ (faults l o) (tell l o)

  -- where there is a fault, they are not done
  refuse_some : (l : Lent) (o : Outputs) → Some (faults l o) → is_done (checks l o) ≡ false
  refuse_some l o h = go (is_done (checks l o)) refl
    where
      go : (b : Bool) → is_done (checks l o) ≡ b → b ≡ false
      go true e = absurd (not_some (faults l o) h ((exact l o).done_only_then e))
      go false e = refl

  -- and a bad entry is one
  some_entry : (l : Lent) (o : Outputs) → Some (bad_entries l.tables) → Some (faults l o)
  some_entry l o h =
      let contents = bad_entries l.tables ++ unknown_symbols (M l) l.samples in
      let roomy = room_faults false 5 (rooms l o) in
      let tables = room_faults true 0 (table_rooms l.tables) in
      let counts = count_faults needs_sample (T l) in
      some_right (shape_faults l.tables.shape) (counts ++ (tables ++ (roomy ++ contents)))
      (some_right counts (tables ++ (roomy ++ contents))
      (some_right tables (roomy ++ contents)
      (some_right roomy contents (some_left (bad_entries l.tables) (unknown_symbols (M l) l.samples) h))))

  -- what a call keeps: it answers as its checks do, else as the tests of what it may meet do, else with its value; and where its checks
  -- refuse, its outputs stay
  record Kept (Promise : Lent → Outputs → Answer → Outputs → Type 0) (met : Lent → Outputs → List Fault) : Type 0 where
    tests : Lent → Tests
    given : Lent → Float
    tells : (l : Lent) (o : Outputs) → Tell (tests l) (met l o)
    some : (l : Lent) (o : Outputs) → (r : Answer) × (e : Outputs) × Promise l o r e
    answer : (l : Lent) (o e : Outputs) (r : Answer) → Promise l o r e
        → r ≡ cond (is_done (checks l o)) (answered (first_of (tests l)) (given l)) (checks l o)
    stays : (l : Lent) (o e : Outputs) (r : Answer) → Promise l o r e → is_done (checks l o) ≡ false → e ≡ o

  module _ (Promise : Lent → Outputs → Answer → Outputs → Type 0) (met : Lent → Outputs → List Fault) (k : Kept Promise met) where
    left_alone : (l : Lent) (o e : Outputs) (r : Answer) → Promise l o r e → Some (faults l o) → (is_done r ≡ false) × (e ≡ o)
    left_alone l o e r p h =
        let refused = refuse_some l o h in
        (rw (k.answer l o e r p, refused) refused, k.stays l o e r p refused)

    always : Always (on_passage Outputs needs_sample Promise rooms met)
    always =
        record {
          answers = k.some;
          exactly = λ l o e r p. rw (k.answer l o e r p) (exactly_both _ (k.tests l) (faults l o) (met l o) (tell l o) (k.tells l o) (k.given l));
          untouched = left_alone;
          bad_entry = λ l o e r p h. left_alone l o e r p (some_entry l o h);
        }

-- ---- the best path
pub viterbi_always : Always viterbi
unfolding first_of
viterbi_always =
    always Viterbi.Outputs false Viterbi.rooms Decoded _
    (record {
      tests = λ l. [];
      given = λ l. best_value (model_of l) (T l);
      tells = λ l o. tt;
      some = λ l o.
          let answer = answered (Viterbi.checked l o) (best_value (model_of l) (T l)) in
          (answer, left l o, record { answer = refl; path = refl; values = refl; from = refl });
      answer = λ l o e r p. p.answer;
      stays = λ l o e r p h.
          let path : e.path ≡ o.path = rw h at p.path in
          let values : e.values ≡ o.values = rw h at p.values in
          let from : e.from ≡ o.from = rw h at p.from in
          λ i. Viterbi.outputs (path i) (values i) (from i);
    })
  where
    left : (l : Lent) (o : Viterbi.Outputs) → Viterbi.Outputs
    left l o =
        let d = is_done (Viterbi.checked l o) in
        let m = model_of l in
        Viterbi.outputs (after d (best_path m (T l)) o.path) (after d (table (T l) (S l) (value m)) o.values)
        (after d (table (T l) (S l) (from m)) o.from)

-- ---- a call whose list of checks tells its list of faults, and that meets nothing on the way
module _ (ts : Tests) (fs : List Fault) (t : Tell ts fs) where
  refused_some : Some fs → is_done (first_of ts) ≡ false
  refused_some h = go (is_done (first_of ts)) refl
    where
      go : (b : Bool) → is_done (first_of ts) ≡ b → b ≡ false
      go true e = absurd (not_some fs h ((exactly_first ts fs t).done_only_then e))
      go false e = refl

  answered_exactly : (v : Float) → Exactly (fs ++ []) (answered (first_of ts) v)
  unfolding first_of
  answered_exactly v = exactly_both ts [] fs [] t tt v

-- ---- the strongest rival
rival_tells : (q : Asked) → Tell (rival_tests q) (rival_faults q)
rival_tells q =
    let past = at_one BadIndex 0 0 (T q.lent ≤ q.index) (not (ltb q.index (T q.lent))) tt
    (λ h. ltb-false _ _ (not-true _ h))
    (λ h (k : T q.lent ≤ q.index). let w : q.index < T q.lent = ltb-true _ _ (not-false _ h) in omega arith) in
    let none = at_one NoRival 0 0 (Dec.T (is_minus_infinity (rival_value q))) (is_minus_infinity (rival_value q)) tt (to_T _)
    (λ h k. true≢false (sym (is_true _ k) ∙ h)) in
    (past, (none, tt))

pub rival_always : Always rival
rival_always =
    record {
      answers = λ q o. (Rival.rivalry q o, left q o, record { told = refl; path = refl; rival_path = refl; values = refl; from = refl });
      exactly = λ q o e r p. rw p.told (answered_exactly (all q o) _ (tells q o) (rival_value q));
      untouched = stays;
      bad_entry = λ q o e r p h.
          stays q o e r p (some_left (check_faults false (Rival.rooms q o) q.lent) (rival_faults q)
          (some_entry Rival.Outputs false (λ l o. Rival.rooms q o) q.lent o h));
    }
  where
    all : (q : Asked) (o : Rival.Outputs) → Tests
    all q o = tests_of q.lent.tables (passage false (Rival.rooms q o) q.lent) ++ rival_tests q

    tells : (q : Asked) (o : Rival.Outputs) → Tell (all q o) (check_faults false (Rival.rooms q o) q.lent ++ rival_faults q)
    tells q o =
        tell_both (tests_of q.lent.tables (passage false (Rival.rooms q o) q.lent)) (rival_tests q)
        (check_faults false (Rival.rooms q o) q.lent) (rival_faults q)
        (checks_tell q.lent.tables _ _ (passage_tells false (Rival.rooms q o) q.lent)) (rival_tells q)

    left : (q : Asked) (o : Rival.Outputs) → Rival.Outputs
    left q o =
        let d = is_done (Rival.checked q o) in
        let l = q.lent in
        let m = Rival.without q in
        Rival.outputs (after d (best_path (model_of l) (T l)) o.path) (after d (best_path m (T l)) o.rival_path)
        (after d (table (T l) (S l) (value m)) o.values) (after d (table (T l) (S l) (from m)) o.from)

    stays : (q : Asked) (o e : Rival.Outputs) (r : Rivalry) → Told q o r e
        → Some (check_faults false (Rival.rooms q o) q.lent ++ rival_faults q) → (is_done r.answer ≡ false) × (e ≡ o)
    stays q o e r p h =
        let no : is_done (Rival.checked q o) ≡ false = refused_some (all q o) _ (tells q o) h in
        let path : e.path ≡ o.path = rw no at p.path in
        let other : e.rival_path ≡ o.rival_path = rw no at p.rival_path in
        let values : e.values ≡ o.values = rw no at p.values in
        let from : e.from ≡ o.from = rw no at p.from in
        (rw (p.told, no) no, λ i. Rival.outputs (path i) (other i) (values i) (from i))

-- ---- a walk, whatever its value and its rows are
walk_always : (needs_sample : Bool) (v : Lent → Float) (rows : Lent → List Float)
    → Always (walk needs_sample (λ l. Walked needs_sample (v l) (rows l) l))
unfolding first_of
walk_always needs_sample v rows =
    always (List Float) needs_sample (λ (l : Lent) (o : List Float). room (T l * S l) (length o) ∷ []) (λ l. Walked needs_sample (v l) (rows l) l) _
    (record {
      tests = λ l. [];
      given = v;
      tells = λ l o. tt;
      some = λ l o.
          let checks = checked needs_sample l (length o) in
          (answered checks (v l), after (is_done checks) (rows l) o, record { answer = refl; values = refl });
      answer = λ l o e r p. p.answer;
      stays = λ l o e r p h. rw h at p.values;
    })

-- ---- the checks of the mass, 9
module _ (m : Model) (w : Walks) where
  hollow : ℕ
  hollow = first (massless m.ends w) m.states

  state_tells : Tells (fault 9 0 (λ (p : ℕ). (p < m.states) × Dec.T (massless m.ends w p))) (ltb hollow m.states) (refuse ZeroMass 0 hollow)
  unfolding hollow
  state_tells =
      let earlier : (q : ℕ) → q < m.states → Dec.T (massless m.ends w q) → hollow ≤ q =
      λ q s h. passes_first (massless m.ends w) m.states q s (is_true _ h) in
      record {
        gives = record { number_is = refl; table_is = refl; place_is = refl; value_is = refl };
        some = ltb→lt 0 9 tt;
        found = λ h.
            let within : hollow < m.states = ltb-true _ _ h in
            ((within, to_T _ (passes_there (massless m.ends w) m.states within)), λ (q : ℕ) k. earlier q k.0 k.1);
        none = λ h (q : ℕ) k. apart q m.states hollow k.0 (ltb-false _ _ h) (earlier q k.0 k.1);
      }

  whole_tells : Tells (fault 9 0 (λ (p : ℕ). (p ≡ m.states) × Dec.T (is_minus_infinity w.probx))) (is_minus_infinity w.probx)
      (refuse ZeroMass 0 m.states)
  whole_tells =
      at_one ZeroMass 0 m.states (Dec.T (is_minus_infinity w.probx)) (is_minus_infinity w.probx) tt (to_T _)
      (λ h k. true≢false (sym (is_true _ k) ∙ h))

  mass_tells : Tell (mass_tests m.states m.ends w) (mass_faults m w)
  unfolding hollow
  mass_tells = (whole_tells, (state_tells, tt))

pub training_always : Always baum_welch
unfolding mass_check
training_always =
    always BaumWelch.Outputs true BaumWelch.rooms Trained _
    (record {
      tests = λ l. mass_tests (S l) l.tables.shape.ends (walks_of l);
      given = λ l. (walks_of l).probx;
      tells = λ l o. mass_tells (model_of l) (walks_of l);
      some = λ l o. (given l o, left l o, kept l o);
      answer = λ l o e r p. p.answer;
      stays = λ l o e r p h.
          let transition : e.transition ≡ o.transition = rw h at p.new.transition in
          let emission : e.emission ≡ o.emission = rw h at p.new.emission in
          let initial : e.initial ≡ o.initial = rw h at p.new.initial in
          let end : e.end ≡ o.end = rw h at p.new.end in
          let alpha : e.alpha ≡ o.alpha = rw h at p.alpha in
          let beta : e.beta ≡ o.beta = rw h at p.beta in
          λ i. BaumWelch.outputs (transition i) (emission i) (initial i) (end i) (alpha i) (beta i);
    })
  where
    given : (l : Lent) (o : BaumWelch.Outputs) → Answer
    given l o = cond (is_done (BaumWelch.checked l o)) (mass_answer (model_of l) (walks_of l)) (BaumWelch.checked l o)

    left : (l : Lent) (o : BaumWelch.Outputs) → BaumWelch.Outputs
    left l o =
        let m = model_of l in
        let w = walks_of l in
        let d = BaumWelch.written l o in
        BaumWelch.outputs
        (after d (table (S l) (S l) (new_transition m w)) o.transition) (after d (table (S l) (M l) (new_emission w l.samples)) o.emission)
        (after d (tab (S l) (new_initial w)) o.initial) (after d (tab (S l) (new_end w m.ends)) o.end)
        (BaumWelch.cleared l o o.alpha) (BaumWelch.cleared l o o.beta)

    kept : (l : Lent) (o : BaumWelch.Outputs) → Trained l o (given l o) (left l o)
    kept l o = record { answer = refl; new = record { transition = refl; emission = refl; initial = refl; end = refl }; alpha = refl; beta = refl }

abbrev read_checks : List ℕ → File.Outputs → Tests
read_checks file o = read_tests file (length o.transition) (length o.emission) (length o.initial) (length o.end)

pub read_always : Always read_model
read_always =
    record {
      answers = λ file o. (given file o, left file o, kept file o);
      exactly = λ file o e r p. rw p.answer (answered_exactly (read_checks file o) _ (tells file o) nought);
      untouched = stays;
      bad_entry = λ file o e r p h. stays file o e r p (some_word file o h);
    }
  where
    tells : (file : List ℕ) (o : File.Outputs)
        → Tell (read_checks file o) (read_faults file (length o.transition) (length o.emission) (length o.initial) (length o.end))
    tells file o = read_tells file _ _ _ _

    given : (file : List ℕ) (o : File.Outputs) → Reading
    given file o =
        record { answer = answered (read_check file o) nought; shape = cond (is_done (read_check file o)) (shape_of file) no_shape }

    left : (file : List ℕ) (o : File.Outputs) → File.Outputs
    left file o =
        let d = is_done (read_check file o) in
        let m = model_in file in
        File.outputs (after d m.transition o.transition) (after d m.emission o.emission)
        (after d m.initial o.initial) (after d m.end o.end)

    kept : (file : List ℕ) (o : File.Outputs) → Read file o (given file o) (left file o)
    kept file o = record { answer = refl; shape = refl; transition = refl; emission = refl; initial = refl; end = refl }

    stays : (file : List ℕ) (o e : File.Outputs) (r : Reading) → Read file o r e
        → Some (read_faults file (length o.transition) (length o.emission) (length o.initial) (length o.end))
        → (is_done r.answer ≡ false) × (e ≡ o)
    stays file o e r p h =
        let no : is_done (read_check file o) ≡ false = refused_some (read_checks file o) _ (tells file o) h in
        let transition : e.transition ≡ o.transition = rw no at p.transition in
        let emission : e.emission ≡ o.emission = rw no at p.emission in
        let initial : e.initial ≡ o.initial = rw no at p.initial in
        let end : e.end ≡ o.end = rw no at p.end in
        (rw (p.answer, no) no, λ i. File.outputs (transition i) (emission i) (initial i) (end i))

    some_word : (file : List ℕ) (o : File.Outputs) → Some (bad_words file)
        → Some (read_faults file (length o.transition) (length o.emission) (length o.initial) (length o.end))
    some_word file o h =
        let rooms = room_faults false 6
        (read_rooms (shape_of file) (length o.transition) (length o.emission) (length o.initial) (length o.end)) in
        some_right (too_short file ∷ (shape_faults (shape_of file) ++ (bad_layout file ∷ []))) (bad_sums file ++ (rooms ++ bad_words file))
        (some_right (bad_sums file) (rooms ++ bad_words file) (some_right rooms (bad_words file) h))

pub write_always : Always write_model
write_always =
    record {
      answers = λ m o.
          let checks = write_check m o in
          (answered checks nought, after (is_done checks) (model_file m) o, record { answer = refl; file = refl });
      exactly = λ m o e r p. rw p.answer (answered_exactly (tests_of m (unsampled (rooms m o))) _ (tells m o) nought);
      untouched = stays;
      bad_entry = λ m o e r p h. stays m o e r p (some_bad_lem m o h);
    }
  where
    rooms : (m : Tables) (o : List ℕ) → List Room
    rooms m o = write_rooms m.shape (length o)

    tells : (m : Tables) (o : List ℕ)
        → Tell (tests_of m (unsampled (write_rooms m.shape (length o)))) (faults_of m (unsampled_faults (write_rooms m.shape (length o))))
    tells m o = checks_tell m _ _ (unsampled_tells (write_rooms m.shape (length o)))

    stays : (m : Tables) (o e : List ℕ) (r : Answer) → Written m o r e → Some (faults_of m (unsampled_faults (write_rooms m.shape (length o))))
        → (is_done r ≡ false) × (e ≡ o)
    stays m o e r p h =
        let no : is_done (write_check m o) ≡ false = refused_some _ _ (tells m o) h in
        (rw (p.answer, no) no, rw no at p.file)

    some_bad_lem : (m : Tables) (o : List ℕ) → Some (bad_entries m) → Some (faults_of m (unsampled_faults (write_rooms m.shape (length o))))
    some_bad_lem m o h =
        let tables = room_faults true 0 (table_rooms m) in
        let outputs = room_faults false 5 (write_rooms m.shape (length o)) in
        some_right (shape_faults m.shape) (tables ++ (outputs ++ (bad_entries m ++ [])))
        (some_right tables (outputs ++ (bad_entries m ++ []))
        (some_right outputs (bad_entries m ++ []) (some_left (bad_entries m) [] h)))

pub all_calls_answer : AllCallsAnswer
all_calls_answer =
    record {
      of_viterbi = viterbi_always;
      of_rival = rival_always;
      of_forward = walk_always true (λ (l : Lent). forward_value (model_of l) (T l)) (λ (l : Lent). table (T l) (S l) (alpha (model_of l)));
      of_backward = walk_always false (λ (l : Lent). backward_value (model_of l) (T l)) (λ (l : Lent). table (T l) (S l) (beta (model_of l) (T l)));
      of_baum_welch = training_always;
      of_read_model = read_always;
      of_write_model = write_always;
    }

-- ---- after 9
refused_mass : (m : Model) (w : Walks) → is_done (mass_answer m w) ≡ false → is_done (mass_check m w) ≡ false
refused_mass m w h = go (is_done (mass_check m w)) refl h
  where
    go : (b : Bool) → is_done (mass_check m w) ≡ b → is_done (cond b (done w.probx) (mass_check m w)) ≡ false → b ≡ false
    go true e k = absurd (true≢false k)
    go false e k = refl

pub zero_mass_clears : ZeroMassClears
zero_mass_clears l o e r p h z =
    let checks : is_done (BaumWelch.checked l o) ≡ true = (exact BaumWelch.Outputs true BaumWelch.rooms l o).done h in
    let mass : is_done (mass_check (model_of l) (walks_of l)) ≡ false = refused_mass _ _ (rw (p.answer, checks) at z) in
    record {
      transition_stays = rw (checks, mass) at p.new.transition;
      emission_stays = rw (checks, mass) at p.new.emission;
      initial_stays = rw (checks, mass) at p.new.initial;
      end_stays = rw (checks, mass) at p.new.end;
      alpha_cleared = rw checks at p.alpha;
      beta_cleared = rw checks at p.beta;
    }
