-- The place of the first element that fails a test is what the library's `position` gives of the opposite test.
use Rattle.std.proofs.Common.{◌≡◌, refl, sym, ap, ◌+◌, Bool, true, false, not, cond, List, ℕ, suc, nat_lt, length}
use Rattle.std.specs.Prelude.{Option, Some, None}
use Rattle.std.specs.List.{position, position_or_len}
use Rattle.std.proofs.lemmas.List.Recursion.{is_position_or_len}
use native.Mathlib.Omega.{arith}
use Rattle.lists.specs.Lists.{first_bad, some_bad}

module _ {A : Type 0} (good : A → Bool) where
  turned : (b : Bool) (n : ℕ) → cond b (suc n) 0 ≡ cond (not b) 0 (1 + n)
  turned true n = omega arith
  turned false n = refl

  counted : (xs : List A) → first_bad good xs ≡ position_or_len (λ (x : A). not (good x)) xs
  unfolding first_bad
  counted = is_position_or_len (first_bad good) (λ (x : A). not (good x)) refl (λ x xs. turned (good x) (first_bad good xs))

  -- that place, where some element fails the test
  abbrev pub bad_place : List A → Option ℕ
  bad_place xs = cond (some_bad good xs) (Some (first_bad good xs)) None

  pub place_is : (xs : List A) → position (λ (x : A). not (good x)) xs ≡ bad_place xs
  place_is xs = ap (λ (n : ℕ). cond (nat_lt n (length xs)) (Some n) None) (sym (counted xs))
