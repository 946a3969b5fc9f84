-- What each leaf answers (RULES 5). A NaN is refusal 7 at table 0; the place is the argument's number from 0, or the index in a slice,
-- whose length is free. exp, ln and ln_1m_exp answer as the kernels do.
use Rattle.std.specs.Prelude.{ℕ, ◌+◌, ◌≡◌, Bool, cond, not, ◌&&◌, ◌||◌, List, [], ◌∷◌, ltb, length, Float}
use Rattle.std.specs.Float.{binary64}
use Rattle.std.specs.Float.Ieee.{mul, neg, lt, le, is_nan}
use Rattle.floats.specs.Float.{◌⊖◌, nought, one, is_number, at}
use Rattle.lists.specs.Lists.{tab, after, first_bad, some_bad}
use Rattle.answer.specs.Answer.{done, refuse, is_done}
use Rattle.answer.specs.declared.Answer.{Answer}
use Rattle.answer.specs.declared.Refusal.TheVariants.{OutputTooShort, NotGood, NegativeDifference, Overshoot}
use Rattle.kernels.specs.Binary.{decimal}
use Rattle.sums.specs.Sum.{ln_sum}
use Rattle.sums.specs.Pair.{ln_add, ln_sub, ln_cumsum}

-- the numbers that a call is handed, as a lent slice or as its arguments in order: the answer a, unless one of them is NaN
unfoldable pub unless_nan : List Float → Answer → Answer
unless_nan xs a = cond (some_bad is_number xs) (refuse NotGood 0 (first_bad is_number xs)) a

-- not NaN, and at most 0
abbrev pub is_valid : Float → Bool
is_valid x = le x nought

-- RULES 5.6: `Prob::checked` takes 0 to 1
abbrev pub is_probability : Float → Bool
is_probability p = le nought p && le p one

unfoldable pub checked_answer : Float → Answer
checked_answer p = cond (is_probability p) (done p) (refuse NotGood 0 0)

-- RULES 5.6: 11 where either is NaN, and where x is above 0 and x - epsilon not at most 0, so with +inf and +inf
abbrev pub overshoots : Float → Float → Bool
overshoots x epsilon = is_nan x || is_nan epsilon || (lt nought x && not (le (x ⊖ epsilon) nought))

unfoldable pub cap_answer : Float → Float → Answer
cap_answer x epsilon = cond (overshoots x epsilon) (refuse Overshoot 0 0) (done (cond (le x nought) x nought))

abbrev pub ln_sum_exp_answer : List Float → Answer
ln_sum_exp_answer probs = unless_nan probs (done (ln_sum (length probs) (at probs)))

abbrev pub ln_add_exp_answer : Float → Float → Answer
ln_add_exp_answer x y = unless_nan (x ∷ y ∷ []) (done (ln_add x y))

-- RULES 5.4: 7 comes before 10
abbrev pub ln_sub_exp_answer : Float → Float → Answer
ln_sub_exp_answer p0 p1 = unless_nan (p0 ∷ p1 ∷ []) (cond (lt p0 p1) (refuse NegativeDifference 0 0) (done (ln_sub p0 p1)))

-- RULES 5.5: 6 comes before 7, and the value is the last sum; room is the length of output 5
unfoldable pub ln_cumsum_exp_answer : List Float → ℕ → Answer
ln_cumsum_exp_answer probs room =
    cond (ltb room (length probs)) (refuse OutputTooShort 5 room) (unless_nan probs (done (ln_cumsum (length probs) (at probs))))

abbrev pub cumsums : List Float → List Float
cumsums probs = tab (length probs) (λ (i : ℕ). ln_cumsum (i + 1) (at probs))

-- what `ln_cumsum_exp` promises, where the output was sums and is sums' at exit
pub record Cumulated (probs sums sums' : List Float) (r : Answer) : Type 0 where
  pub answer : r ≡ ln_cumsum_exp_answer probs (length sums)
  pub output : sums' ≡ after (is_done (ln_cumsum_exp_answer probs (length sums))) (cumsums probs) sums

-- RULES 5.7: one product each, with the Rust's factors -4.3429448190325175 and -0.23025850929940456
unfoldable pub log_to_phred : Float
log_to_phred = neg (decimal 43429448190325175 16)

unfoldable pub phred_to_log : Float
phred_to_log = neg (decimal 23025850929940456 17)

unfoldable pub scaled_answer : Float → Float → Answer
scaled_answer factor x = cond (is_number x) (done (mul binary64 x factor)) (refuse NotGood 0 0)
