-- Every promise leaves one result, since each is an equality or a list of them.
use Prim.Native.Nat.{ℕ}
use mathlib.Core.Path.{◌≡◌, sym, ap, ◌∙◌}
use mathlib.Core.Bool.{Bool, true, false}
use mathlib.Core.List.{List}
use lib.Ieee.{Float}
use Rattle.floats.specs.Float.{nought}
use Rattle.answer.specs.declared.Answer.{Answer}
use Rattle.probs.specs.Calls.{Cumulated}
use Rattle.model.specs.Lent as Lent
use Rattle.model.specs.Lent.{Tables, Lent, S}
use Rattle.model.specs.Model.{Model, model_of}
use Rattle.lists.specs.Lists.{table}
use Rattle.best_path.specs.inner.Step.{Stored}
use Rattle.walk.specs.inner.Path.{Found}
use Rattle.viterbi.specs.Call as Viterbi
use Rattle.viterbi.specs.Call.{Decoded}
use Rattle.rival.specs.declared.Rivalry.{Rivalry}
use Rattle.rival.specs.Call as Rival
use Rattle.rival.specs.Call.{Asked, asked, Told}
use Rattle.likelihood.specs.Walk.{alpha, forward_value, beta, backward_value}
use Rattle.likelihood.specs.Call.{Forward, Backward, Walked}
use Rattle.baum_welch.specs.Call as BaumWelch
use Rattle.baum_welch.specs.Call.{Trained}
use Rattle.model_file.specs.declared.Reading.{Reading}
use Rattle.model_file.specs.Call as File
use Rattle.model_file.specs.Call.{Read, Written}
use Rattle.wasnugram.specs.Face.{flattened, flat_reading, flat_rivalry, Answers}
use Rattle.wasnugram.specs.declared.WasnugramAnswer.{WasnugramAnswer}
use Rattle.wasnugram.proofs.Face.{face_is_unique}
use Rattle.promises.specs.Unique.{Unique, EveryPromiseIsUnique, OfFloats, OfLittleEndian, OfAnswer, OfKernels, OfProb, OfLogProb, OfPHREDProb, OfSums}
use Rattle.promises.specs.Unique.{OfModel, OfChecks, OfCheckResults, OfEmission, OfBestPath, OfWalk, OfOccupancy, OfCalls, OfModelFile, OfExportedCalls, OfFace}

-- ---- a promise that is one equality
one : {A : Type 0} (v : A) → Unique (λ (r : A). r ≡ v)
one v x y p q = p ∙ sym q

-- ---- promises that are records of them
cumulated : (probs sums : List Float) → Unique (λ (r : Answer × List Float). Cumulated probs sums r.1 r.0)
cumulated probs sums x y p q =
    let answer : x.0 ≡ y.0 = p.answer ∙ sym q.answer in
    let output : x.1 ≡ y.1 = p.output ∙ sym q.output in
    λ i. (answer i, output i)

stored : (i : ℕ) (v : List Float) (f : List ℕ) (values : List Float) (from : List ℕ)
    → Unique (λ (e : List Float × List ℕ). Stored i v f values e.0 from e.1)
stored i v f values from x y p q =
    let row : x.0 ≡ y.0 = p.values_stored ∙ sym q.values_stored in
    let before : x.1 ≡ y.1 = p.from_stored ∙ sym q.from_stored in
    λ k. (row k, before k)

found_one : (m : Model) (n : ℕ) (path : List ℕ) (values : List Float) (from : List ℕ)
    → Unique (λ (e : Float × List ℕ × List Float × List ℕ). Found m n e.0 path e.1 values e.2 from e.3)
found_one m n path values from x y p q =
    let value : x.0 ≡ y.0 = p.value_found ∙ sym q.value_found in
    let path : x.1 ≡ y.1 = p.path_stored ∙ sym q.path_stored in
    let values : x.2 ≡ y.2 = p.rows_filled.values_stored ∙ sym q.rows_filled.values_stored in
    let from : x.3 ≡ y.3 = p.rows_filled.from_stored ∙ sym q.rows_filled.from_stored in
    λ i. (value i, path i, values i, from i)

decoded : (l : Lent) (o : Viterbi.Outputs) → Unique (λ (r : Answer × Viterbi.Outputs). Decoded l o r.0 r.1)
decoded l o x y p q =
    let answer : x.0 ≡ y.0 = p.answer ∙ sym q.answer in
    let path : x.1.path ≡ y.1.path = p.path ∙ sym q.path in
    let values : x.1.values ≡ y.1.values = p.values ∙ sym q.values in
    let from : x.1.from ≡ y.1.from = p.from ∙ sym q.from in
    λ i. (answer i, Viterbi.outputs (path i) (values i) (from i))

told_one : (q : Asked) (o : Rival.Outputs) → Unique (λ (r : Rivalry × Rival.Outputs). Told q o r.0 r.1)
told_one q o x y p q' =
    let told : x.0 ≡ y.0 = p.told ∙ sym q'.told in
    let path : x.1.path ≡ y.1.path = p.path ∙ sym q'.path in
    let other : x.1.rival_path ≡ y.1.rival_path = p.rival_path ∙ sym q'.rival_path in
    let values : x.1.values ≡ y.1.values = p.values ∙ sym q'.values in
    let from : x.1.from ≡ y.1.from = p.from ∙ sym q'.from in
    λ i. (told i, Rival.outputs (path i) (other i) (values i) (from i))

walked : (needs_sample : Bool) (v : Float) (rows : List Float) (l : Lent) (o : List Float)
    → Unique (λ (r : Answer × List Float). Walked needs_sample v rows l o r.0 r.1)
walked needs_sample v rows l o x y p q =
    let answer : x.0 ≡ y.0 = p.answer ∙ sym q.answer in
    let values : x.1 ≡ y.1 = p.values ∙ sym q.values in
    λ i. (answer i, values i)

trained : (l : Lent) (o : BaumWelch.Outputs) → Unique (λ (r : Answer × BaumWelch.Outputs). Trained l o r.0 r.1)
trained l o x y p q =
    let answer : x.0 ≡ y.0 = p.answer ∙ sym q.answer in
    let transition : x.1.transition ≡ y.1.transition = p.new.transition ∙ sym q.new.transition in
    let emission : x.1.emission ≡ y.1.emission = p.new.emission ∙ sym q.new.emission in
    let initial : x.1.initial ≡ y.1.initial = p.new.initial ∙ sym q.new.initial in
    let end : x.1.end ≡ y.1.end = p.new.end ∙ sym q.new.end in
    let alpha : x.1.alpha ≡ y.1.alpha = p.alpha ∙ sym q.alpha in
    let beta : x.1.beta ≡ y.1.beta = p.beta ∙ sym q.beta in
    λ i. (answer i, BaumWelch.outputs (transition i) (emission i) (initial i) (end i) (alpha i) (beta i))

forward_one : (l : Lent) (o : List Float) → Unique (λ (r : Answer × List Float). Forward l o r.0 r.1)
forward_one l = walked true (forward_value (model_of l) (Lent.T l)) (table (Lent.T l) (S l) (alpha (model_of l))) l

backward_one : (l : Lent) (o : List Float) → Unique (λ (r : Answer × List Float). Backward l o r.0 r.1)
backward_one l = walked false (backward_value (model_of l) (Lent.T l)) (table (Lent.T l) (S l) (beta (model_of l) (Lent.T l))) l

read_one : (file : List ℕ) (o : File.Outputs) → Unique (λ (r : Reading × File.Outputs). Read file o r.0 r.1)
read_one file o x y p q =
    let answer : x.0.answer ≡ y.0.answer = p.answer ∙ sym q.answer in
    let shape : x.0.shape ≡ y.0.shape = p.shape ∙ sym q.shape in
    let transition : x.1.transition ≡ y.1.transition = p.transition ∙ sym q.transition in
    let emission : x.1.emission ≡ y.1.emission = p.emission ∙ sym q.emission in
    let initial : x.1.initial ≡ y.1.initial = p.initial ∙ sym q.initial in
    let end : x.1.end ≡ y.1.end = p.end ∙ sym q.end in
    λ i. (record { answer = answer i; shape = shape i }, File.outputs (transition i) (emission i) (initial i) (end i))

written_one : (m : Tables) (o : List ℕ) → Unique (λ (r : Answer × List ℕ). Written m o r.0 r.1)
written_one m o x y p q =
    let answer : x.0 ≡ y.0 = p.answer ∙ sym q.answer in
    let file : x.1 ≡ y.1 = p.file ∙ sym q.file in
    λ i. (answer i, file i)

-- ---- an export that writes no memory
flat : (v : Answer) → Unique (λ (r : WasnugramAnswer). Answers (λ (a : Answer). a ≡ v) r)
flat v r s p q = p.flat ∙ ap flattened (p.promised ∙ sym q.promised) ∙ sym q.flat

-- ---- crate by crate
of_floats_lem : OfFloats
of_floats_lem =
    record {
      minus_infinity = one _;
      is_number = λ x. one _;
      is_minus_infinity = λ x. one _;
      is_plus_infinity = λ x. one _;
      is_infinite = λ x. one _;
      is_plus_zero = λ x. one _;
      magnitude = λ x. one _;
    }

of_little_endian_lem : OfLittleEndian
of_little_endian_lem =
    record {
      two_bytes_at = λ bytes at x y p q. p.0 ∙ sym q.0;
      word_at = λ bytes at. one _;
      sum_of = λ bytes at n. one _;
      byte_of = λ x j. one _;
      put = λ bytes at width x. one _;
    }

of_answer_lem : OfAnswer
of_answer_lem =
    record { number = λ refusal. one _; done = λ value. one _; refused = λ refusal table place. one _; is_done = λ answer. one _ }

of_kernels_lem : OfKernels
of_kernels_lem =
    record {
      exp_of = λ d. one _;
      exp = λ d. one _;
      ln_of = λ x. one _;
      ln = λ x. one _;
      ln_1m_of = λ p. one _;
      ln_1m_exp = λ p. one _;
    }

of_prob_lem : OfProb
of_prob_lem = record { checked = λ p. one _; from_log_prob = λ p. one _ }

of_log_prob_lem : OfLogProb
of_log_prob_lem =
    record {
      is_valid = λ self. one _;
      ln_zero = λ x y p q.
          let value : x.0 ≡ y.0 = p ∙ sym q in
          λ i. record { 0 = value i };
      cap_numerical_overshoot = λ self epsilon. one _;
      ln_one_minus_exp = λ self. one _;
      ln_sum_exp = λ probs. one _;
      ln_add_exp = λ self other. one _;
      ln_sub_exp = λ self other. one _;
      ln_cumsum_exp = cumulated;
      from_prob = λ p. one _;
      from_phred_prob = λ p. one _;
    }

of_phred_prob_lem : OfPHREDProb
of_phred_prob_lem = record { from_log_prob = λ p. one _ }

of_sums_lem : OfSums
of_sums_lem =
    record {
      ln_add = λ x y. one _;
      ln_sub = λ p0 p1. one _;
      no_peak = one _;
      raise = λ peak x k. one _;
      plus_exp = λ peak sum x k. one _;
      close = λ peak sum. one _;
      open_sum = λ xs. one _;
      close_sum = λ whole. one _;
      ln_sum_by = λ n f. one _;
      ln_sum = λ xs. one _;
    }

of_model_lem : OfModel
of_model_lem =
    record {
      entry = λ table i. one _;
      is_set = λ mark. one _;
      is_good = λ x. one _;
      is_good_word = λ w. one _;
      is_good_end = λ ends x. one _;
    }

of_checks_lem : OfChecks
of_checks_lem =
    record {
      check_shape = λ shape. one _;
      check_count = λ needs_sample samples. one _;
      check_rooms = λ exact first needed lent. one _;
      first_bad_end = λ ends table. one _;
      first_bad = λ table. one _;
      check_entries = λ m. one _;
      first_bad_sample = λ symbols samples. one _;
      check_samples = λ symbols samples. one _;
      check_sizes = λ needs_sample shape transition emission initial end samples. one _;
      check_rest = λ l needed lent. one _;
    }

of_check_results_lem : OfCheckResults
of_check_results_lem =
    record {
      check_shape = λ shape. one _;
      check_count = λ needs_sample samples. one _;
      check_rooms = λ exact first rooms. one _;
      first_bad_end = λ ends table. one _;
      first_bad = λ table. one _;
      check_entries = λ m. one _;
      first_bad_sample = λ symbols samples. one _;
      check_samples = λ symbols samples. one _;
      check_sizes = λ needs_sample shape transition emission initial end samples. one _;
      room_of = λ needed lent. one _;
      check_lengths = λ needs_sample l. one _;
      check_rest = λ l outputs. one _;
    }

of_emission_lem : OfEmission
of_emission_lem =
    record {
      lay_emissions = λ emission states symbols samples t emissions. one _;
      lay_barred = λ emission states symbols samples index state t emissions. one _;
      lay_barred_by = λ l bar t emissions. one _;
      first_row = λ initial emissions values. one _;
    }

of_best_path_lem : OfBestPath
of_best_path_lem =
    record {
      close = λ ends end row k. one _;
      last_state = λ ends end row. one _;
      trace = λ states from n last start path. one _;
      lay_sums = λ states sums emissions target values. one _;
      lay_winners = λ states winners target from. one _;
      next_row = λ states transition emissions source target values from. stored target _ _ values from;
      first_from = λ states from. one _;
    }

of_walk_lem : OfWalk
of_walk_lem =
    record {
      rows = λ states symbols transition emission initial samples index state values from x y p q.
          stored 0 _ _ values from x y (p false (λ (j : ℕ). nought)) (q false (λ (j : ℕ). nought));
      rows_barred = λ l bar values from x y p q.
          stored 0 _ _ values from x y (p false (λ (j : ℕ). nought)) (q false (λ (j : ℕ). nought));
      decode = λ l index state path values from. found_one _ _ path values from;
      decode_barred = λ l bar path values from. found_one _ _ path values from;
    }

of_occupancy_lem : OfOccupancy
of_occupancy_lem =
    record {
      rows = λ pass. one _;
      occupancy = λ rows i t. one _;
      gamma = λ rows i. one _;
      denominator = λ rows i. one _;
      occupancy_of_pass = λ pass i t. one _;
      gamma_of_pass = λ pass i. one _;
      denominator_of_pass = λ pass i. one _;
      is_massless = λ gamma denominator. one _;
    }

of_calls : OfCalls
of_calls = record { viterbi = decoded; rival = told_one; forward = forward_one; backward = backward_one; baum_welch = trained }

of_exported_calls : (l : Lent) → OfExportedCalls l
of_exported_calls l =
    record {
      wasnugram_viterbi = λ o. face_is_unique _ _ _ flattened _ (decoded l o);
      wasnugram_rival = λ index o. face_is_unique _ _ _ flat_rivalry _ (told_one (asked l index) o);
      wasnugram_forward = λ o. face_is_unique _ _ _ flattened _ (forward_one l o);
      wasnugram_backward = λ o. face_is_unique _ _ _ flattened _ (backward_one l o);
      wasnugram_baum_welch = λ o. face_is_unique _ _ _ flattened _ (trained l o);
    }

of_model_file_lem : OfModelFile
of_model_file_lem = record { read_model = read_one; write_model = written_one; file_length = λ shape. one _ }

of_face_lem : OfFace
of_face_lem =
    record {
      calls = λ shape transition emission initial end samples. of_exported_calls _;
      wasnugram_read_model = λ file o. face_is_unique _ _ _ flat_reading _ (read_one file o);
      wasnugram_write_model = λ shape transition emission initial end o. face_is_unique _ _ _ flattened _ (written_one _ o);
      wasnugram_model_file_length = λ shape. one _;
      wasnugram_exp = λ d. flat _;
      wasnugram_ln = λ x. flat _;
      wasnugram_ln_one_minus_exp = λ p. flat _;
      wasnugram_ln_sum_exp = λ probs. flat _;
      wasnugram_ln_add_exp = λ p0 p1. flat _;
      wasnugram_ln_sub_exp = λ p0 p1. flat _;
      wasnugram_ln_cumsum_exp = λ probs sums. face_is_unique _ _ _ flattened _ (cumulated probs sums);
      wasnugram_cap_numerical_overshoot = λ value epsilon. flat _;
    }

pub every_promise_is_unique : EveryPromiseIsUnique
every_promise_is_unique =
    record {
      of_floats = of_floats_lem;
      of_little_endian = of_little_endian_lem;
      of_answer = of_answer_lem;
      of_kernels = of_kernels_lem;
      of_prob = of_prob_lem;
      of_log_prob = of_log_prob_lem;
      of_phred_prob = of_phred_prob_lem;
      of_sums = of_sums_lem;
      of_model = of_model_lem;
      of_checks = of_checks_lem;
      of_check_results = of_check_results_lem;
      of_emission = of_emission_lem;
      of_best_path = of_best_path_lem;
      of_walk = of_walk_lem;
      of_occupancy = of_occupancy_lem;
      of_calls = of_calls;
      of_model_file = of_model_file_lem;
      of_face = of_face_lem;
    }
