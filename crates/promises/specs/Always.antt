-- Demand 1, always an answer (RULES 8.1), asked of any call: `Always` has its parts, and `AllCallsAnswer` the calls that it is proved of.
use Rattle.std.specs.Prelude.{ℕ, ◌*◌, ◌≤◌, ◌<◌, ◌≡◌, Bool, true, false, List, [], ◌∷◌, ◌++◌, length, Float}
use Rattle.std.proofs.Math.Dec as Dec
use Rattle.floats.specs.Float.{nought, is_minus_infinity}
use Rattle.lists.specs.Lists.{tab, over}
use Rattle.answer.specs.Answer.{is_done}
use Rattle.answer.specs.declared.Answer.{Answer}
use Rattle.model.specs.Lent.{Tables, Lent, S, T}
use Rattle.model.specs.Model.{Model, model_of}
use Rattle.checks.specs.declared.Room.{Room}
use Rattle.checks.specs.Rooms.{room}
use Rattle.checks.specs.Faults.{Fault, fault, faults_of, check_faults, unsampled_faults, bad_entries, Some, Faultless}
use Rattle.checks.specs.Exactly.{Exactly}
use Rattle.viterbi.specs.Call as Viterbi
use Rattle.viterbi.specs.Call.{Decoded}
use Rattle.rival.specs.declared.Rivalry.{Rivalry}
use Rattle.rival.specs.Call as Rival
use Rattle.rival.specs.Call.{Asked, rival_value, Told}
use Rattle.likelihood.specs.Call.{Forward, Backward}
use Rattle.occupancy.specs.Occupancy.{Walks, massless}
use Rattle.baum_welch.specs.Call as BaumWelch
use Rattle.baum_welch.specs.Call.{Trained, walks_of}
use Rattle.model_file.specs.declared.Reading.{Reading}
use Rattle.file_layout.specs.Checks.{write_rooms}
use Rattle.file_laws.specs.Faults.{bad_words, read_faults}
use Rattle.model_file.specs.Call as File
use Rattle.model_file.specs.Call.{Read, Written}

-- a call: what it is lent to read and to write, what it gives back and the answer in it, what it promises, the faults that it looks for
-- before it starts, the bad entries among them, and the faults that it may meet on the way
pub record Call : Type 1 where
  pub Input : Type 0
  pub Outputs : Type 0
  pub Result : Type 0
  pub answer : Result → Answer
  pub Promise : Input → Outputs → Result → Outputs → Type 0
  pub checked : Input → Outputs → List Fault
  pub entries : Input → List Fault
  pub met : Input → Outputs → List Fault

pub record Always (c : Call) : Type 1 where
  -- whatever is lent, some answer and final outputs meet the promise
  pub answers : (l : c.Input) (o : c.Outputs) → (r : c.Result) × (e : c.Outputs) × c.Promise l o r e
  -- every refusal is given exactly when RULES 3.2 says
  pub exactly : (l : c.Input) (o e : c.Outputs) (r : c.Result) → c.Promise l o r e
      → Exactly (c.checked l o ++ c.met l o) (c.answer r)
  -- what is refused before the call starts leaves all memory alone (RULES 3.4)
  pub untouched : (l : c.Input) (o e : c.Outputs) (r : c.Result) → c.Promise l o r e → Some (c.checked l o)
      → (is_done (c.answer r) ≡ false) × (e ≡ o)
  -- an entry that is NaN or above zero is refused, in every table, and every output is then what it was
  pub bad_entry : (l : c.Input) (o e : c.Outputs) (r : c.Result) → c.Promise l o r e → Some (c.entries l)
      → (is_done (c.answer r) ≡ false) × (e ≡ o)

-- a call on a model and one passage, which needs a sample or not, by its promise, the room of its outputs and what it may meet
module _ (Outputs : Type 0) (needs_sample : Bool) (Promise : Lent → Outputs → Answer → Outputs → Type 0) where
  abbrev pub on_passage : (Lent → Outputs → List Room) → (Lent → Outputs → List Fault) → Call
  on_passage rooms met =
      record {
        Input = Lent;
        Outputs = Outputs;
        Result = Answer;
        answer = λ (r : Answer). r;
        Promise = Promise;
        checked = λ (l : Lent) (o : Outputs). check_faults needs_sample (rooms l o) l;
        entries = λ (l : Lent). bad_entries l.tables;
        met = met;
      }

abbrev pub viterbi : Call
viterbi = on_passage Viterbi.Outputs false Decoded Viterbi.rooms (λ (l : Lent) (o : Viterbi.Outputs). [])

-- 16: there is no such sample; 15: the best path with another state there is at minus infinity
abbrev pub rival_faults : Asked → List Fault
rival_faults q =
    fault 16 0 (λ (p : ℕ). (p ≡ 0) × (T q.lent ≤ q.index))
    ∷ fault 15 0 (λ (p : ℕ). (p ≡ 0) × Dec.T (is_minus_infinity (rival_value q)))
    ∷ []

-- nothing is met on the way: whether there is a rival is known before memory is written
abbrev pub rival : Call
rival =
    record {
      Input = Asked;
      Outputs = Rival.Outputs;
      Result = Rivalry;
      answer = λ (r : Rivalry). r.answer;
      Promise = Told;
      checked = λ (q : Asked) (o : Rival.Outputs). check_faults false (Rival.rooms q o) q.lent ++ rival_faults q;
      entries = λ (q : Asked). bad_entries q.lent.tables;
      met = λ (q : Asked) (o : Rival.Outputs). [];
    }

-- a walk is lent one output, of T·S
abbrev pub walk : Bool → (Lent → List Float → Answer → List Float → Type 0) → Call
walk needs_sample Promise =
    on_passage (List Float) needs_sample Promise (λ (l : Lent) (o : List Float). room (T l * S l) (length o) ∷ []) (λ (l : Lent) (o : List Float). [])

abbrev pub forward : Call
forward = walk true Forward

abbrev pub backward : Call
backward = walk false Backward

-- 9, which a training pass may meet on the way: the whole has no mass, or else a state has none
abbrev pub mass_faults : Model → Walks → List Fault
mass_faults m w =
    fault 9 0 (λ (p : ℕ). (p ≡ m.states) × Dec.T (is_minus_infinity w.probx))
    ∷ fault 9 0 (λ (p : ℕ). (p < m.states) × Dec.T (massless m.ends w p))
    ∷ []

abbrev pub baum_welch : Call
baum_welch =
    on_passage BaumWelch.Outputs true Trained BaumWelch.rooms
    (λ (l : Lent) (o : BaumWelch.Outputs). mass_faults (model_of l) (walks_of l))

-- a reader gives its answer with the shape beside it; its bad entries are the bad words of the file
abbrev pub read_model : Call
read_model =
    record {
      Input = List ℕ;
      Outputs = File.Outputs;
      Result = Reading;
      answer = λ (r : Reading). r.answer;
      Promise = Read;
      checked = λ (file : List ℕ) (o : File.Outputs).
          read_faults file (length o.transition) (length o.emission) (length o.initial) (length o.end);
      entries = bad_words;
      met = λ (file : List ℕ) (o : File.Outputs). [];
    }

-- a writer is lent no samples
abbrev pub write_model : Call
write_model =
    record {
      Input = Tables;
      Outputs = List ℕ;
      Result = Answer;
      answer = λ (r : Answer). r;
      Promise = Written;
      checked = λ (m : Tables) (o : List ℕ). faults_of m (unsampled_faults (write_rooms m.shape (length o)));
      entries = bad_entries;
      met = λ (m : Tables) (o : List ℕ). [];
    }

-- of the five calls on a model and its samples, and of the two on a model file
pub record AllCallsAnswer : Type 1 where
  pub of_viterbi : Always viterbi
  pub of_rival : Always rival
  pub of_forward : Always forward
  pub of_backward : Always backward
  pub of_baum_welch : Always baum_welch
  pub of_read_model : Always read_model
  pub of_write_model : Always write_model

-- after 9 a training pass has left the new tables alone and cleared the scratch that it needed (RULES 3.4)
pub record Cleared (l : Lent) (o e : BaumWelch.Outputs) : Type 0 where
  pub transition_stays : e.transition ≡ o.transition
  pub emission_stays : e.emission ≡ o.emission
  pub initial_stays : e.initial ≡ o.initial
  pub end_stays : e.end ≡ o.end
  pub alpha_cleared : e.alpha ≡ over 0 (tab (T l * S l) (λ (k : ℕ). nought)) o.alpha
  pub beta_cleared : e.beta ≡ over 0 (tab (T l * S l) (λ (k : ℕ). nought)) o.beta

-- a pass that the checks let through and that is refused
abbrev pub ZeroMassClears : Type 0
ZeroMassClears =
    (l : Lent) (o e : BaumWelch.Outputs) (r : Answer)
    → Trained l o r e → Faultless (check_faults true (BaumWelch.rooms l o) l) → is_done r ≡ false → Cleared l o e
