-- The four ways out of `cap_numerical_overshoot`, by its tests: a NaN epsilon, a value at most 0, one within epsilon of 0, any other.
use Rattle.std.proofs.Common.{◌≡◌, Bool, true, false, not, cond, ◌&&◌, ◌||◌, refl, sym, ap, ◌∙◌}
use Rattle.std.proofs.lemmas.Bool.{not-true}
use lib.Dec.{T}
use lib.Ieee.Bits.{is_false}
use lib.Ieee.{Float, nan, inf, fin, add, sub, lt, le, is_nan}
use Rattle.floats.specs.Float.{◌⊖◌, nought}
use Rattle.floats.proofs.Literals.{nought_bits}
use Rattle.floats.proofs.Order.{le_left, not_lt, not_le}
use Rattle.answer.specs.Answer.{done, refuse}
use Rattle.answer.specs.declared.Answer.{Answer}
use Rattle.answer.specs.declared.Refusal.TheVariants.{Overshoot}
use Rattle.probs.specs.Calls.{cap_answer}

nought_number : T (not (is_nan nought))
unfolding is_nan
nought_number = tt

-- a difference with a NaN is one
less_number : (x epsilon : Float) → T (not (is_nan (x ⊖ epsilon))) → T (not (is_nan x))
unfolding is_nan sub add
less_number nan epsilon h = h
less_number (inf s) epsilon h = tt
less_number (fin s m e) epsilon h = tt

-- a number that is not at most 0 is above 0
above : (x : Float) → T (not (is_nan x)) → le x nought ≡ false → lt nought x ≡ true
above x n h = sym (not_le x nought n nought_number) ∙ ap not h

module _ (x epsilon : Float) where
  -- what is answered, by whether it overshoots
  abbrev ended : Bool → Answer
  ended b = cond b (refuse Overshoot 0 0) (done (cond (le x nought) x nought))

  pub nan_epsilon : is_nan epsilon ≡ true → cap_answer x epsilon ≡ refuse Overshoot 0 0
  unfolding cap_answer
  nan_epsilon h = rw h (go (is_nan x))
    where
      go : (b : Bool) → ended ((b || true) || (lt nought x && not (le (x ⊖ epsilon) nought))) ≡ refuse Overshoot 0 0
      go true = refl
      go false = refl

  module _ (number : is_nan epsilon ≡ false) where
    pub at_most_0 : le x nought ≡ true → cap_answer x epsilon ≡ done x
    unfolding cap_answer
    at_most_0 h =
        let n : T (not (is_nan x)) = le_left x nought (rw h tt) in
        let below = not-true (lt nought x) (not_lt nought x nought_number n ∙ h) in
        rw (is_false (is_nan x) n, number, below, h)

    pub in_reach : le x nought ≡ false → le (x ⊖ epsilon) nought ≡ true → cap_answer x epsilon ≡ done nought
    unfolding cap_answer
    in_reach h k =
        let n : T (not (is_nan x)) = less_number x epsilon (le_left (x ⊖ epsilon) nought (rw k tt)) in
        rw (is_false (is_nan x) n, number, above x n h, k, h)

    pub out_of_reach : le x nought ≡ false → le (x ⊖ epsilon) nought ≡ false → cap_answer x epsilon ≡ refuse Overshoot 0 0
    unfolding cap_answer
    out_of_reach h k = rw (number, k) (go (is_nan x) (λ n. above x n h))
      where
        go : (b : Bool) → (T (not b) → lt nought x ≡ true) → ended ((b || false) || (lt nought x && true)) ≡ refuse Overshoot 0 0
        go true a = refl
        go false a = rw (a tt)

pub ruleset ways_out = (nought_bits, nan_epsilon, at_most_0, in_reach, out_of_reach)
