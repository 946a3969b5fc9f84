-- The first NaN of the numbers that a call is handed, as `position` finds it, is the place that the answer names.
use Rattle.std.proofs.Common.{◌≡◌, ℕ, List, [], ◌∷◌, Bool, true, false, cond, Some, None, refl, sym, ap, ◌∙◌, length, ltb, arith}
use Rattle.std.specs.List.{position, prefix_len}
use Rattle.std.proofs.lemmas.Option.{cond_some}
use lib.Ieee.{Float, is_nan}
use Rattle.lists.specs.Lists.{first_bad, some_bad}
use Rattle.floats.specs.Float.{is_number}
use Rattle.answer.specs.declared.Answer.{Answer}
use Rattle.answer.specs.declared.Refusal.TheVariants.{NotGood}
use Rattle.answer.specs.Answer.{refuse}
use Rattle.probs.specs.Calls.{unless_nan}

first_is : (xs : List Float) → prefix_len is_number xs ≡ first_bad is_number xs
unfolding first_bad
first_is [] = refl
first_is (x ∷ xs) = rw (first_is xs) (ap (λ (n : ℕ). cond (is_number x) n 0) (omega arith))

found : (xs : List Float) → position is_nan xs ≡ cond (some_bad is_number xs) (Some (first_bad is_number xs)) None
found xs = ap (λ (n : ℕ). cond (ltb n (length xs)) (Some n) None) (first_is xs)

module _ (xs : List Float) (a : Answer) where
  pub at_nan : (place : ℕ) → Some place ≡ position is_nan xs → unless_nan xs a ≡ refuse NotGood 0 place
  unfolding unless_nan
  at_nan place e = let found_there = cond_some (some_bad is_number xs) (first_bad is_number xs) place (sym (e ∙ found xs)) in rw (found_there.0, found_there.1)

  pub no_nan : None ≡ position is_nan xs → unless_nan xs a ≡ a
  unfolding unless_nan
  no_nan e = go (some_bad is_number xs) (e ∙ found xs)
    where
      go : (b : Bool) → None ≡ cond b (Some (first_bad is_number xs)) None → cond b (refuse NotGood 0 (first_bad is_number xs)) a ≡ a
      go true h = cc
      go false h = refl

pub ruleset nan_or_not = (at_nan, no_nan)
