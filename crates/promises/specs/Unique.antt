-- That a promise leaves one result (RULES 8.2): two results that meet it are equal. There is a line for each public function, by its name in
-- the code and with the promise of its contract; one that writes memory gives what its outputs hold at the end. What a function asks of its
-- caller is not needed for it. Lines beyond these state the same of the answer or the lists alone, as in `OfChecks`. The inner functions
-- that promise less than one result are listed in docs/LOOSE.md.
use Rattle.std.specs.Prelude.{ℕ, ◌-◌, ◌*◌, ◌/◌, ◌%◌, ◌^◌, ◌<◌, ◌≡◌, Bool, ◌||◌, List, length, get_or, Float, not, Option, Result}
use Rattle.std.specs.List.{position}
use Rattle.floats.specs.Float as Float
use Rattle.floats.specs.Float.{◌⊕◌, minus_infinity, is_number, is_minus_infinity, is_plus_infinity, is_infinite, is_plus_zero, at}
use Rattle.lists.specs.Lists as Lists
use Rattle.lists.specs.Lists.{tab, part, over, first_bad}
use Rattle.little_endian.specs.Bytes.{little, value, words, sum}
use Rattle.answer.specs.Answer as Spec
use Rattle.answer.specs.Answer.{number_of}
use Rattle.answer.specs.Checks.{first_of, first_fault}
use Rattle.answer.specs.declared.Answer.{Answer}
use Rattle.answer.specs.declared.Refusal.{Refusal}
use Rattle.kernels.specs.Exp.{exp_of}
use Rattle.kernels.specs.Ln.{ln_of}
use Rattle.kernels.specs.Ln1m.{ln1m_of}
use Rattle.kernels.specs.Calls.{exp_answer, ln_answer, ln1m_answer}
use Rattle.probs.specs.Calls.{is_valid, checked_answer, cap_answer, ln_sum_exp_answer, ln_add_exp_answer, ln_sub_exp_answer}
use Rattle.probs.specs.Calls.{Cumulated, scaled_answer, log_to_phred, phred_to_log}
use Rattle.sums.specs.Pair.{ln_add, ln_sub}
use Rattle.sums.specs.Sum.{no_peak, raised, plus_exp, grown, ln_sum}
use Rattle.sums.specs.inner.Open.{opened, closed_sum}
use Rattle.probs.specs.declared.Prob.{Prob}
use Rattle.probs.specs.declared.LogProb.{LogProb}
use Rattle.probs.specs.declared.PHREDProb.{PHREDProb}
use Rattle.sums.specs.declared.sum.Peak.{Peak}
use Rattle.sums.specs.declared.sum.Open.{Open}
use Rattle.model.specs.declared.Shape.{Shape}
use Rattle.model.specs.Lent.{Tables, Lent, S, T, tables_of, lent}
use Rattle.model.specs.Good.{good, good_end, good_bits}
use Rattle.model.specs.inner.Marks.{is_set}
use Rattle.model.specs.Model.{emission_of, model_of}
use Rattle.checks.specs.declared.Room.{Room}
use Rattle.checks.specs.Rooms.{room, rooms_of}
use Rattle.checks.specs.Checks.{shape_tests, count_tests, room_tests, entry_tests, is_symbol, sample_tests}
use Rattle.checks.specs.inner.Parts.{sizes_of, size_tests, rest_tests}
use Rattle.emission.specs.declared.Bar.{Bar}
use Rattle.emission.specs.Barring.{barring, barring_by}
use Rattle.emission.specs.inner.Row.{emissions_of, first_row}
use Rattle.best_path.specs.Best.{greatest}
use Rattle.best_path.specs.Walk.{ended, path_to}
use Rattle.best_path.specs.inner.Back.{from_at}
use Rattle.best_path.specs.inner.Step.{Stepped}
use Rattle.best_path.specs.inner.Row.{first_from}
use Rattle.walk.specs.Barred.{barred, barred_by}
use Rattle.walk.specs.inner.Rows.{RowsStored, RowsLaid}
use Rattle.walk.specs.inner.Path.{Found}
use Rattle.viterbi.specs.Call.{Outputs, Decoded}
use Rattle.rival.specs.declared.Rivalry.{Rivalry}
use Rattle.rival.specs.Call as Rival
use Rattle.rival.specs.Call.{Asked, asked, Told}
use Rattle.likelihood.specs.Call.{Forward, Backward}
use Rattle.occupancy.specs.declared.Pass.{Pass}
use Rattle.occupancy.specs.declared.Rows.{Rows}
use Rattle.occupancy.specs.Occupancy as Occupancy
use Rattle.occupancy.specs.inner.Rows.{walks_in, lent_of, rows_in, rows_of}
use Rattle.baum_welch.specs.Call as BaumWelch
use Rattle.baum_welch.specs.Call.{Trained}
use Rattle.model_file.specs.declared.Reading.{Reading}
use Rattle.model_file.specs.Call as File
use Rattle.model_file.specs.Call.{Read, Written, length_of}
use Rattle.wasnugram.specs.Face.{shape_of, Answers, Reads, Tells}
use Rattle.wasnugram.specs.declared.WasnugramAnswer.{WasnugramAnswer}
use Rattle.wasnugram.specs.declared.WasnugramReading.{WasnugramReading}
use Rattle.wasnugram.specs.declared.WasnugramRivalry.{WasnugramRivalry}
use Rattle.wasnugram.specs.declared.WasnugramShape.{WasnugramShape}

-- any two results that meet the promise are equal
abbrev pub Unique : {A : Type 0} → (A → Type 0) → Type 0
Unique {A} promise = (x y : A) → promise x → promise y → x ≡ y

pub record OfFloats : Type 0 where
  pub minus_infinity : Unique (λ (r : Float). r ≡ minus_infinity)
  pub is_number : (x : Float) → Unique (λ (r : Bool). r ≡ is_number x)
  pub is_minus_infinity : (x : Float) → Unique (λ (r : Bool). r ≡ is_minus_infinity x)
  pub is_plus_infinity : (x : Float) → Unique (λ (r : Bool). r ≡ is_plus_infinity x)
  pub is_infinite : (x : Float) → Unique (λ (r : Bool). r ≡ is_infinite x)
  pub is_plus_zero : (x : Float) → Unique (λ (r : Bool). r ≡ is_plus_zero x)
  pub magnitude : (x : Float) → Unique (λ (r : Float). r ≡ Float.magnitude x)

pub record OfLittleEndian : Type 0 where
  pub two_bytes_at : (bytes : List ℕ) (at : ℕ) → Unique (λ (r : ℕ). (r ≡ value (part at 2 bytes)) × (r < 2 ^ 16))
  pub word_at : (bytes : List ℕ) (at : ℕ) → Unique (λ (r : ℕ). r ≡ value (part at 8 bytes))
  pub sum_of : (bytes : List ℕ) (at n : ℕ) → Unique (λ (r : ℕ). r ≡ sum (words n (part at (8 * n) bytes)))
  pub byte_of : (x j : ℕ) → Unique (λ (r : ℕ). r ≡ x / 2 ^ (8 * j) % 256)
  pub put : (bytes : List ℕ) (at width x : ℕ) → Unique (λ (e : List ℕ). e ≡ over at (little width x) bytes)

pub record OfAnswer : Type 0 where
  pub number : (refusal : Refusal) → Unique (λ (r : ℕ). r ≡ number_of refusal)
  pub done : (value : Float) → Unique (λ (r : Answer). r ≡ Spec.done value)
  pub refused : (refusal : Refusal) (table place : ℕ) → Unique (λ (r : Answer). r ≡ Spec.refuse refusal table place)
  pub is_done : (answer : Answer) → Unique (λ (r : Bool). r ≡ Spec.is_done answer)

pub record OfKernels : Type 0 where
  pub exp_of : (d : Float) → Unique (λ (r : Float). r ≡ exp_of d)
  pub exp : (d : Float) → Unique (λ (r : Answer). r ≡ exp_answer d)
  pub ln_of : (x : Float) → Unique (λ (r : Float). r ≡ ln_of x)
  pub ln : (x : Float) → Unique (λ (r : Answer). r ≡ ln_answer x)
  pub ln_1m_of : (p : Float) → Unique (λ (r : Float). r ≡ ln1m_of p)
  pub ln_1m_exp : (p : Float) → Unique (λ (r : Answer). r ≡ ln1m_answer p)

-- the leaves
pub record OfProb : Type 0 where
  pub checked : (p : Float) → Unique (λ (r : Answer). r ≡ checked_answer p)
  pub from_log_prob : (p : LogProb) → Unique (λ (r : Answer). r ≡ exp_answer p.0)

pub record OfLogProb : Type 0 where
  pub is_valid : (self : LogProb) → Unique (λ (r : Bool). r ≡ is_valid self.0)
  pub ln_zero : Unique (λ (r : LogProb). r.0 ≡ minus_infinity)
  pub cap_numerical_overshoot : (self : LogProb) (epsilon : Float) → Unique (λ (r : Answer). r ≡ cap_answer self.0 epsilon)
  pub ln_one_minus_exp : (self : LogProb) → Unique (λ (r : Answer). r ≡ ln1m_answer self.0)
  pub ln_sum_exp : (probs : List Float) → Unique (λ (r : Answer). r ≡ ln_sum_exp_answer probs)
  pub ln_add_exp : (self other : LogProb) → Unique (λ (r : Answer). r ≡ ln_add_exp_answer self.0 other.0)
  pub ln_sub_exp : (self other : LogProb) → Unique (λ (r : Answer). r ≡ ln_sub_exp_answer self.0 other.0)
  pub ln_cumsum_exp : (probs sums : List Float) → Unique (λ (r : Answer × List Float). Cumulated probs sums r.1 r.0)
  pub from_prob : (p : Prob) → Unique (λ (r : Answer). r ≡ ln_answer p.0)
  pub from_phred_prob : (p : PHREDProb) → Unique (λ (r : Answer). r ≡ scaled_answer phred_to_log p.0)

pub record OfPHREDProb : Type 0 where
  pub from_log_prob : (p : LogProb) → Unique (λ (r : Answer). r ≡ scaled_answer log_to_phred p.0)

-- the sums under the leaves
pub record OfSums : Type 0 where
  pub ln_add : (x y : Float) → Unique (λ (r : Float). r ≡ ln_add x y)
  pub ln_sub : (p0 p1 : Float) → Unique (λ (r : Float). r ≡ ln_sub p0 p1)
  pub no_peak : Unique (λ (r : Peak). r ≡ no_peak)
  pub raise : (peak : Peak) (x : Float) (k : ℕ) → Unique (λ (r : Peak). r ≡ raised peak x k)
  pub plus_exp : (peak : Peak) (sum x : Float) (k : ℕ) → Unique (λ (r : Float). r ≡ plus_exp peak sum x k)
  pub close : (peak : Peak) (sum : Float) → Unique (λ (r : Float). r ≡ grown peak sum)
  pub open_sum : (xs : List Float) → Unique (λ (r : Open). r ≡ opened (length xs) (at xs))
  pub close_sum : (whole : Open) → Unique (λ (r : Float). r ≡ closed_sum whole)
  pub ln_sum_by : (n : ℕ) (f : ℕ → Float) → Unique (λ (r : Float). r ≡ ln_sum n f)
  pub ln_sum : (xs : List Float) → Unique (λ (r : Float). r ≡ ln_sum (length xs) (at xs))

pub record OfModel : Type 0 where
  pub entry : (table : List Float) (i : ℕ) → Unique (λ (r : Float). r ≡ at table i)
  pub is_set : (mark : ℕ) → Unique (λ (r : Bool). r ≡ is_set mark)
  pub is_good : (x : Float) → Unique (λ (r : Bool). r ≡ good x)
  pub is_good_word : (w : ℕ) → Unique (λ (r : Bool). r ≡ good_bits w)
  pub is_good_end : (ends : Bool) (x : Float) → Unique (λ (r : Bool). r ≡ good_end ends x)

pub record OfChecks : Type 0 where
  pub check_shape : (shape : Shape) → Unique (λ (r : Answer). r ≡ first_of (shape_tests shape))
  pub check_count : (needs_sample : Bool) (samples : ℕ) → Unique (λ (r : Answer). r ≡ first_of (count_tests needs_sample samples))
  pub check_rooms : (exact : Bool) (first : ℕ) (needed lent : List ℕ)
      → Unique (λ (r : Answer). r ≡ first_of (room_tests exact first (rooms_of needed lent)))
  pub first_bad_end : (ends : Bool) (table : List Float) → Unique (λ (r : ℕ). r ≡ first_bad (good_end ends) table)
  pub first_bad : (table : List Float) → Unique (λ (r : ℕ). r ≡ first_bad good table)
  pub check_entries : (m : Tables) → Unique (λ (r : Answer). r ≡ first_of (entry_tests m))
  pub first_bad_sample : (symbols : ℕ) (samples : List ℕ) → Unique (λ (r : ℕ). r ≡ Lists.first_bad (is_symbol symbols) samples)
  pub check_samples : (symbols : ℕ) (samples : List ℕ) → Unique (λ (r : Answer). r ≡ first_of (sample_tests symbols samples))
  pub check_sizes : (needs_sample : Bool) (shape : Shape) (transition emission initial end samples : ℕ)
      → Unique (λ (r : Answer). r ≡ first_of (sizes_of needs_sample shape transition emission initial end samples))
  pub check_rest : (l : Lent) (needed lent : List ℕ) → Unique (λ (r : Answer). r ≡ first_of (rest_tests (rooms_of needed lent) l))

-- the same as the code's checks say them: nothing, or the refusal of the first fault; and what its searches give
pub record OfCheckResults : Type 0 where
  pub check_shape : (shape : Shape) → Unique (λ (r : Result Unit Answer). r ≡ first_fault (shape_tests shape))
  pub check_count : (needs_sample : Bool) (samples : ℕ) → Unique (λ (r : Result Unit Answer). r ≡ first_fault (count_tests needs_sample samples))
  pub check_rooms : (exact : Bool) (first : ℕ) (rooms : List Room)
      → Unique (λ (r : Result Unit Answer). r ≡ first_fault (room_tests exact first rooms))
  pub first_bad_end : (ends : Bool) (table : List Float)
      → Unique (λ (r : Option ℕ). r ≡ position (λ (x : Float). not (good_end ends x)) table)
  pub first_bad : (table : List Float) → Unique (λ (r : Option ℕ). r ≡ position (λ (x : Float). not (good x)) table)
  pub check_entries : (m : Tables) → Unique (λ (r : Result Unit Answer). r ≡ first_fault (entry_tests m))
  pub first_bad_sample : (symbols : ℕ) (samples : List ℕ)
      → Unique (λ (r : Option ℕ). r ≡ position (λ (x : ℕ). not (is_symbol symbols x)) samples)
  pub check_samples : (symbols : ℕ) (samples : List ℕ) → Unique (λ (r : Result Unit Answer). r ≡ first_fault (sample_tests symbols samples))
  pub check_sizes : (needs_sample : Bool) (shape : Shape) (transition emission initial end samples : ℕ)
      → Unique (λ (r : Result Unit Answer). r ≡ first_fault (sizes_of needs_sample shape transition emission initial end samples))
  pub room_of : (needed lent : ℕ) → Unique (λ (r : Room). r ≡ room needed lent)
  pub check_lengths : (needs_sample : Bool) (l : Lent) → Unique (λ (r : Result Unit Answer). r ≡ first_fault (size_tests needs_sample l))
  pub check_rest : (l : Lent) (outputs : List Room) → Unique (λ (r : Result Unit Answer). r ≡ first_fault (rest_tests outputs l))

pub record OfEmission : Type 0 where
  pub lay_emissions : (emission : List Float) (states symbols : ℕ) (samples : List ℕ) (t : ℕ) (emissions : List Float)
      → Unique (λ (e : List Float). e ≡ over 0 (tab states (emission_of symbols emission samples t)) emissions)
  pub lay_barred : (emission : List Float) (states symbols : ℕ) (samples : List ℕ) (index state t : ℕ) (emissions : List Float)
      → Unique (λ (e : List Float). e ≡ over 0 (tab states (barring index state (emission_of symbols emission samples) t)) emissions)
  pub lay_barred_by : (l : Lent) (bar : Option Bar) (t : ℕ) (emissions : List Float)
      → Unique (λ (e : List Float). e ≡ over 0 (tab (S l) (barring_by bar (emissions_of l) t)) emissions)
  pub first_row : (initial emissions values : List Float) → Unique (λ (e : List Float). e ≡ over 0 (first_row initial emissions) values)

pub record OfBestPath : Type 0 where
  pub close : (ends : Bool) (end row : List Float) (k : ℕ) → Unique (λ (r : Float). r ≡ ended ends (at end k) (at row k))
  pub last_state : (ends : Bool) (end row : List Float)
      → Unique (λ (r : ℕ). r ≡ greatest (length row) (λ (j : ℕ). ended ends (at end j) (at row j)))
  pub trace : (states : ℕ) (from : List ℕ) (n last start : ℕ) (path : List ℕ)
      → Unique (λ (e : List ℕ). e ≡ over start (path_to (from_at states from) (n - 1) last) path)
  pub lay_sums : (states : ℕ) (sums emissions : List Float) (target : ℕ) (values : List Float)
      → Unique (λ (e : List Float). e ≡ over target (tab states (λ (j : ℕ). at sums j ⊕ at emissions j)) values)
  pub lay_winners : (states : ℕ) (winners : List ℕ) (target : ℕ) (from : List ℕ)
      → Unique (λ (e : List ℕ). e ≡ over target (tab states (λ (j : ℕ). get_or winners j 0)) from)
  pub next_row : (states : ℕ) (transition emissions : List Float) (source target : ℕ) (values : List Float) (from : List ℕ)
      → Unique (λ (e : List Float × List ℕ). Stepped states transition emissions source target values e.0 from e.1)
  pub first_from : (states : ℕ) (from : List ℕ) → Unique (λ (e : List ℕ). e ≡ over 0 (first_from states) from)

-- the walk over lent memory; a path, values and predecessors are left
pub record OfWalk : Type 0 where
  pub rows : (states symbols : ℕ) (transition emission initial : List Float) (samples : List ℕ) (index state : ℕ)
      (values : List Float) (from : List ℕ)
      → Unique (λ (e : List Float × List ℕ).
      RowsStored states transition initial (barring index state (emission_of symbols emission samples)) (length samples) values e.0 from e.1)
  pub rows_barred : (l : Lent) (bar : Option Bar) (values : List Float) (from : List ℕ)
      → Unique (λ (e : List Float × List ℕ). RowsLaid l bar values e.0 from e.1)
  pub decode : (l : Lent) (index state : ℕ) (path : List ℕ) (values : List Float) (from : List ℕ)
      → Unique (λ (e : Float × List ℕ × List Float × List ℕ).
      Found (barred index state (model_of l)) (T l) e.0 path e.1 values e.2 from e.3)
  pub decode_barred : (l : Lent) (bar : Option Bar) (path : List ℕ) (values : List Float) (from : List ℕ)
      → Unique (λ (e : Float × List ℕ × List Float × List ℕ).
      Found (barred_by bar (model_of l)) (T l) e.0 path e.1 values e.2 from e.3)

-- of the rows of both walks, whatever their shape, their number and their entries, and of a pass by the rows that it holds
pub record OfOccupancy : Type 0 where
  pub rows : (pass : Pass) → Unique (λ (r : Rows). r ≡ rows_in pass)
  pub occupancy : (rows : Rows) (i t : ℕ) → Unique (λ (r : Float). r ≡ Occupancy.occupancy (walks_in rows) i t)
  pub gamma : (rows : Rows) (i : ℕ) → Unique (λ (r : Float). r ≡ Occupancy.gamma (walks_in rows) i)
  pub denominator : (rows : Rows) (i : ℕ) → Unique (λ (r : Float). r ≡ Occupancy.denominator rows.shape.ends (walks_in rows) i)
  pub occupancy_of_pass : (pass : Pass) (i t : ℕ) → Unique (λ (r : Float). r ≡ Occupancy.occupancy (rows_of pass) i t)
  pub gamma_of_pass : (pass : Pass) (i : ℕ) → Unique (λ (r : Float). r ≡ Occupancy.gamma (rows_of pass) i)
  pub denominator_of_pass : (pass : Pass) (i : ℕ)
      → Unique (λ (r : Float). r ≡ Occupancy.denominator (lent_of pass).tables.shape.ends (rows_of pass) i)
  pub is_massless : (gamma denominator : Float) → Unique (λ (r : Bool). r ≡ (is_minus_infinity gamma || is_minus_infinity denominator))

-- the calls on a model: the answer and every output
pub record OfCalls : Type 0 where
  pub viterbi : (l : Lent) (o : Outputs) → Unique (λ (r : Answer × Outputs). Decoded l o r.0 r.1)
  pub rival : (q : Asked) (o : Rival.Outputs) → Unique (λ (r : Rivalry × Rival.Outputs). Told q o r.0 r.1)
  pub forward : (l : Lent) (o : List Float) → Unique (λ (r : Answer × List Float). Forward l o r.0 r.1)
  pub backward : (l : Lent) (o : List Float) → Unique (λ (r : Answer × List Float). Backward l o r.0 r.1)
  pub baum_welch : (l : Lent) (o : BaumWelch.Outputs) → Unique (λ (r : Answer × BaumWelch.Outputs). Trained l o r.0 r.1)

-- the calls on a model file: the reading or the answer, and every output
pub record OfModelFile : Type 0 where
  pub read_model : (file : List ℕ) (o : File.Outputs) → Unique (λ (r : Reading × File.Outputs). Read file o r.0 r.1)
  pub write_model : (m : Tables) (o : List ℕ) → Unique (λ (r : Answer × List ℕ). Written m o r.0 r.1)
  pub file_length : (shape : Shape) → Unique (λ (r : ℕ). r ≡ length_of shape)

-- the exports of the C face on a model, by what they are lent to read
pub record OfExportedCalls (l : Lent) : Type 0 where
  pub wasnugram_viterbi : (o : Outputs) → Unique (λ (r : WasnugramAnswer × Outputs). Answers (λ (a : Answer). Decoded l o a r.1) r.0)
  pub wasnugram_rival : (index : ℕ) (o : Rival.Outputs)
      → Unique (λ (r : WasnugramRivalry × Rival.Outputs). Tells (λ (a : Rivalry). Told (asked l index) o a r.1) r.0)
  pub wasnugram_forward : (o : List Float)
      → Unique (λ (r : WasnugramAnswer × List Float). Answers (λ (a : Answer). Forward l o a r.1) r.0)
  pub wasnugram_backward : (o : List Float)
      → Unique (λ (r : WasnugramAnswer × List Float). Answers (λ (a : Answer). Backward l o a r.1) r.0)
  pub wasnugram_baum_welch : (o : BaumWelch.Outputs)
      → Unique (λ (r : WasnugramAnswer × BaumWelch.Outputs). Answers (λ (a : Answer). Trained l o a r.1) r.0)

-- all sixteen
pub record OfFace : Type 0 where
  pub calls : (shape : WasnugramShape) (transition emission initial end : List Float) (samples : List ℕ)
      → OfExportedCalls (lent (shape_of shape) transition emission initial end samples)
  pub wasnugram_read_model : (file : List ℕ) (o : File.Outputs)
      → Unique (λ (r : WasnugramReading × File.Outputs). Reads (λ (a : Reading). Read file o a r.1) r.0)
  pub wasnugram_write_model : (shape : WasnugramShape) (transition emission initial end : List Float) (o : List ℕ)
      → Unique (λ (r : WasnugramAnswer × List ℕ).
      Answers (λ (a : Answer). Written (tables_of (shape_of shape) transition emission initial end) o a r.1) r.0)
  pub wasnugram_model_file_length : (shape : WasnugramShape) → Unique (λ (r : ℕ). r ≡ length_of (shape_of shape))
  pub wasnugram_exp : (d : Float) → Unique (λ (r : WasnugramAnswer). Answers (λ (a : Answer). a ≡ exp_answer d) r)
  pub wasnugram_ln : (x : Float) → Unique (λ (r : WasnugramAnswer). Answers (λ (a : Answer). a ≡ ln_answer x) r)
  pub wasnugram_ln_one_minus_exp : (p : Float) → Unique (λ (r : WasnugramAnswer). Answers (λ (a : Answer). a ≡ ln1m_answer p) r)
  pub wasnugram_ln_sum_exp : (probs : List Float) → Unique (λ (r : WasnugramAnswer). Answers (λ (a : Answer). a ≡ ln_sum_exp_answer probs) r)
  pub wasnugram_ln_add_exp : (p0 p1 : Float) → Unique (λ (r : WasnugramAnswer). Answers (λ (a : Answer). a ≡ ln_add_exp_answer p0 p1) r)
  pub wasnugram_ln_sub_exp : (p0 p1 : Float) → Unique (λ (r : WasnugramAnswer). Answers (λ (a : Answer). a ≡ ln_sub_exp_answer p0 p1) r)
  pub wasnugram_ln_cumsum_exp : (probs sums : List Float)
      → Unique (λ (r : WasnugramAnswer × List Float). Answers (λ (a : Answer). Cumulated probs sums r.1 a) r.0)
  pub wasnugram_cap_numerical_overshoot : (value epsilon : Float)
      → Unique (λ (r : WasnugramAnswer). Answers (λ (a : Answer). a ≡ cap_answer value epsilon) r)

-- all of them
pub record EveryPromiseIsUnique : Type 0 where
  pub of_floats : OfFloats
  pub of_little_endian : OfLittleEndian
  pub of_answer : OfAnswer
  pub of_kernels : OfKernels
  pub of_prob : OfProb
  pub of_log_prob : OfLogProb
  pub of_phred_prob : OfPHREDProb
  pub of_sums : OfSums
  pub of_model : OfModel
  pub of_checks : OfChecks
  pub of_check_results : OfCheckResults
  pub of_emission : OfEmission
  pub of_best_path : OfBestPath
  pub of_walk : OfWalk
  pub of_occupancy : OfOccupancy
  pub of_calls : OfCalls
  pub of_model_file : OfModelFile
  pub of_face : OfFace
