-- All gate-post examples hold, those of Viterbi, of the rival and of the leaves by computation.
use mathlib.Core.Path.{refl, ap}
use mathlib.Core.Bool.{false}
use lib.ListN.{drop}
use lib.Ieee.{of_bits, of_int, to_bits, round, size, add, sum, le, lt, eq, is_nan, neg}
use Rattle.lists.specs.Lists.{first_bad, over}
use Rattle.answer.specs.Answer.{done}
use Rattle.answer.specs.Checks.{first_of}
use Rattle.kernels.proofs.ExpLaws.{exp_zero, exp_minus_infinity}
use Rattle.kernels.proofs.LnLaws.{ln_one}
use Rattle.floats.specs.Float.{is_infinite, is_plus_zero}
use Rattle.sums.specs.Sum.{raised, peak, grown, ln_sum}
use Rattle.sums.specs.Pair.{relative_eq, ln_sub}
use Rattle.probs.specs.Calls.{unless_nan}
use Rattle.model.specs.Good.{good, good_end}
use Rattle.checks.specs.Checks.{shape_tests, count_tests, room_tests, entry_tests, sample_tests, tests_of}
use Rattle.emission.specs.Barring.{barring}
use Rattle.best_path.specs.Best.{best_of, ranks_at_least, predecessor, greatest}
use Rattle.best_path.specs.Walk.{cell, ended, path_to, value, from, last_state, best_path, best_value}
use Rattle.gate_posts.specs.Models.{minus, least}
use Rattle.gate_posts.specs.Table.{AllHold, gate_posts, GatePostsHold}
use Rattle.gate_posts.proofs.Kernels.{ln_two, ln_half}
use Rattle.gate_posts.proofs.OneSample.{forward_value_lem, backward_value_lem}
use Rattle.gate_posts.proofs.OneState.{one_state_lem}
use Rattle.gate_posts.proofs.NoMass.{no_mass}
use Rattle.gate_posts.proofs.Example.{holds}
use Rattle.gate_posts.proofs.Files.{files}

pub gate_posts_lem : GatePostsHold
unfolding gate_posts minus least over tests_of shape_tests count_tests room_tests entry_tests sample_tests first_of first_bad good good_end
    is_plus_zero barring best_of ranks_at_least predecessor greatest cell ended path_to value from last_state best_path best_value unless_nan ln_sum
    grown peak raised is_infinite ln_sub relative_eq of_bits of_int to_bits round size add sum le lt eq is_nan neg
gate_posts_lem =
    let sums : AllHold (drop 30 gate_posts) = (holds _ refl refl, (holds _ refl refl, files)) in
    let logs : AllHold (drop 27 gate_posts) = (holds _ (ap done ln_one) refl, (holds _ (ap done ln_two) refl, (holds _ (ap done ln_half) refl, sums))) in
    let exps : AllHold (drop 25 gate_posts) = (holds _ (ap done (exp_zero false)) refl, (holds _ (ap done exp_minus_infinity) refl, logs)) in
    let blocked : AllHold (drop 19 gate_posts) = (holds _ refl refl, (holds _ refl refl, (holds _ refl refl, one_state_lem exps))) in
    let r : AllHold (drop 16 gate_posts) = (holds _ refl refl, (holds _ refl refl, (holds _ refl refl, blocked))) in
    let pass : AllHold (drop 15 gate_posts) = (holds _ no_mass refl, r) in
    let walks : AllHold (drop 13 gate_posts) = (holds _ (ap done forward_value_lem) refl, (holds _ (ap done backward_value_lem) refl, pass)) in
    let z : AllHold (drop 11 gate_posts) = (holds _ refl refl, (holds _ refl refl, walks)) in
    let e : AllHold (drop 7 gate_posts) = (holds _ refl refl, (holds _ refl refl, (holds _ refl refl, (holds _ refl refl, z)))) in
    let p : AllHold (drop 3 gate_posts) = (holds _ refl refl, (holds _ refl refl, (holds _ refl refl, (holds _ refl refl, e)))) in
    (holds _ refl refl, (holds _ refl refl, (holds _ refl refl, p)))
