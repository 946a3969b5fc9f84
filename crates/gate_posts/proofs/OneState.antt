-- A1 and A2: where there is one state, a sum has one term, and a walk only adds.
use Prim.Native.Nat.{ℕ, zero, suc, ◌^◌, ◌<◌}
use native.Mathlib.Omega.{arith}
use mathlib.Core.Path.{◌≡◌, refl, sym, ap, ◌∙◌}
use mathlib.Core.Bool.{true}
use mathlib.Core.List.{[], ◌∷◌}
use lib.IntN.{pos, negsuc}
use lib.ListN.{drop}
use lib.Ieee.{Float, fin, of_int, to_bits, add, sum, round, size, le, lt, eq, is_nan}
use Rattle.floats.specs.Float.{◌⊕◌, is_infinite, is_plus_zero}
use Rattle.lists.specs.Lists.{first_bad, over}
use Rattle.answer.specs.Answer.{done}
use Rattle.answer.specs.Checks.{first_of}
use Rattle.sums.specs.Sum.{raised, peak, plus_exp, exp_sum, grown, ln_sum}
use Rattle.sums.proofs.Loops.{ln_sum_same}
use Rattle.model.specs.Good.{good, good_end}
use Rattle.model.specs.Model.{Model, model_of}
use Rattle.checks.specs.Checks.{shape_tests, count_tests, room_tests, entry_tests, sample_tests, tests_of}
use Rattle.best_path.specs.Best.{best_of, ranks_at_least, predecessor, greatest}
use Rattle.best_path.specs.Walk.{cell, ended, path_to, value, from, last_state, best_path, best_value}
use Rattle.likelihood.specs.Walk.{alpha, forward_value, beta, backward_value}
use Rattle.gate_posts.specs.Models.{minus, model_a}
use Rattle.gate_posts.specs.Table.{AllHold, gate_posts}
use Rattle.gate_posts.proofs.Example.{holds}
use Rattle.gate_posts.proofs.Kernels.{log_one}

abbrev m : Model
m = model_of (model_a (0 ∷ 0 ∷ []))

-- -2^-53, -2^-52 and -(1 + 2^-51)
abbrev small : Float
small = fin true 1 (negsuc 52)

abbrev both : Float
both = fin true 1 (negsuc 51)

abbrev below : Float
below = fin true (suc (2 ^ 51)) (negsuc 50)

-- ---- the sum of one number is that number
sum_one : ln_sum 1 (λ (k : ℕ). minus 1) ≡ minus 1
unfolding ln_sum grown peak raised exp_sum plus_exp is_infinite lt eq minus of_int add sum round size
sum_one = rw log_one

sum_both : ln_sum 1 (λ (k : ℕ). both) ≡ both
unfolding ln_sum grown peak raised exp_sum plus_exp is_infinite lt eq add sum round size
sum_both = rw log_one

sum_below : ln_sum 1 (λ (k : ℕ). below) ≡ below
unfolding ln_sum grown peak raised exp_sum plus_exp is_infinite lt eq add sum round size
sum_below = rw log_one

none : (k : ℕ) → suc k < 1 → ⊥
none k h = omega arith

-- ---- Viterbi and forward: each addition to -1 leaves it
minus_one : minus 1 ≡ fin true 1 (pos 0)
unfolding minus of_int round size
minus_one = refl

lost_there : fin true 1 (pos 0) ⊕ small ≡ fin true 1 (pos 0)
unfolding add sum round size
lost_there = refl

lost : minus 1 ⊕ small ≡ minus 1
lost = ap (λ (x : Float). x ⊕ small) minus_one ∙ lost_there ∙ sym minus_one

all_lost : ((minus 1 ⊕ small) ⊕ small) ⊕ small ≡ minus 1
all_lost = ap (λ (x : Float). (x ⊕ small) ⊕ small) lost ∙ ap (λ (x : Float). x ⊕ small) lost ∙ lost

viterbi_a : best_value m 2 ≡ minus 1
unfolding best_value ended last_state greatest best_of value cell predecessor ranks_at_least minus of_int add le
viterbi_a = all_lost

forward_terms : (k : ℕ) → k < 1 → (alpha m 0 k ⊕ m.transition k 0) ⊕ m.emission 1 0 ≡ minus 1
unfolding alpha
forward_terms zero h = all_lost
forward_terms (suc k) h = absurd (none k h)

last_row : alpha m 1 0 ≡ minus 1
unfolding alpha
last_row = ln_sum_same 1 _ _ forward_terms ∙ sum_one

end_terms : (k : ℕ) → k < 1 → alpha m 1 k ⊕ m.end k ≡ minus 1
unfolding minus of_int add sum round size
end_terms zero h = rw last_row
end_terms (suc k) h = absurd (none k h)

forward_a : forward_value m 2 ≡ minus 1
unfolding forward_value
forward_a = ln_sum_same 1 _ _ end_terms ∙ sum_one

-- ---- backward: the small ones are added up first
backward_terms : (k : ℕ) → k < 1 → (beta m 2 0 k ⊕ m.transition 0 k) ⊕ m.emission 1 k ≡ both
unfolding beta add sum round size
backward_terms zero h = refl
backward_terms (suc k) h = absurd (none k h)

first_row_lem : beta m 2 1 0 ≡ both
unfolding beta
first_row_lem = ln_sum_same 1 _ _ backward_terms ∙ sum_both

start_terms : (k : ℕ) → k < 1 → (beta m 2 1 k ⊕ m.initial k) ⊕ m.emission 0 k ≡ below
unfolding minus of_int add sum round size
start_terms zero h = rw first_row_lem
start_terms (suc k) h = absurd (none k h)

backward_a : backward_value m 2 ≡ below
unfolding backward_value
backward_a = ln_sum_same 1 _ _ start_terms ∙ sum_below

pub one_state_lem : AllHold (drop 25 gate_posts) → AllHold (drop 22 gate_posts)
unfolding gate_posts minus over tests_of shape_tests count_tests room_tests entry_tests sample_tests first_of first_bad good good_end is_plus_zero
    best_of ranks_at_least predecessor greatest cell ended path_to value from last_state best_path of_int to_bits round size add sum le lt is_nan
one_state_lem rest = (holds _ (ap done viterbi_a) refl, (holds _ (ap done forward_a) refl, (holds _ (ap done backward_a) refl, rest)))
