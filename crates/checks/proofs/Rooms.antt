-- Buffers that are checked one after the other: what the code knows at place i of them.
use Prim.Native.Nat.{ℕ, suc, ◌+◌, ◌≤◌, ◌<◌}
use mathlib.Core.Path.{◌≡◌, refl, sym, ap, ◌∙◌}
use mathlib.Core.Bool.{Bool, true, false}
use mathlib.Core.List.{List, [], ◌∷◌, ◌++◌}
use native.Mathlib.Numerals.{add-one}
use native.Mathlib.Omega.{arith}
use lib.ListN.{length, get_or, drop, drop_of_length-le}
use lib.Seq.{drop-cons}
use Rattle.std.specs.Prelude.{Result, Ok, Err}
use Rattle.answer.specs.Checks.{Tests, first_fault}
use Rattle.answer.specs.declared.Answer.{Answer}
use Rattle.answer.proofs.Checks.{Refuses, fault_stops, fault_goes_on, unfaulted}
use Rattle.checks.specs.declared.Room.{Room}
use Rattle.checks.specs.Checks.{unfit_test, room_tests}

pub rooms_refuse : (exact : Bool) (first : ℕ) (os : List Room) → Refuses (room_tests exact first os)
unfolding room_tests
rooms_refuse exact first [] = tt
rooms_refuse true first (o ∷ os) = (tt, rooms_refuse true (suc first) os)
rooms_refuse false first (o ∷ os) = (tt, rooms_refuse false (suc first) os)

module _ (exact : Bool) (first : ℕ) (rooms : List Room) where
  abbrev all : Result Unit Answer
  all = first_fault (room_tests exact first rooms)

  -- what is left to ask from buffer i on
  abbrev from : ℕ → Tests
  from i = room_tests exact (first + i) (drop i rooms)

  pub asked_none : first_fault (from 0) ≡ all
  asked_none = ap (λ (k : ℕ). first_fault (room_tests exact k rooms)) (omega arith)

  module _ (i : ℕ) (d : Room) (same : first_fault (from i) ≡ all) (h : i < length rooms) where
    abbrev here : Tests
    here = unfit_test exact (first + i) (get_or rooms i d) ∷ []

    rest : drop i rooms ≡ get_or rooms i d ∷ drop (i + 1) rooms
    rest = rw add-one (drop-cons rooms i d h)

    split : first_fault (here ++ from (i + 1)) ≡ all
    unfolding room_tests
    split =
        let next : suc (first + i) ≡ first + (i + 1) = omega arith in
        ap (λ (k : ℕ). first_fault (unfit_test exact (first + i) (get_or rooms i d) ∷ room_tests exact k (drop (i + 1) rooms))) (sym next)
        ∙ ap (λ (os : List Room). first_fault (room_tests exact (first + i) os)) (sym rest)
        ∙ same

    pub asked_stop : (x : Answer) → Err x ≡ first_fault here → Err x ≡ all
    asked_stop x e = fault_stops here (from (i + 1)) x (sym e) ∙ split

    pub asked_more : (u : Unit) → Ok u ≡ first_fault here → first_fault (from (i + 1)) ≡ all
    asked_more u e = fault_goes_on here (from (i + 1)) u (first_fault (from (i + 1))) (sym e) refl ∙ split

  pub asked_all : (i : ℕ) → first_fault (from i) ≡ all → length rooms ≤ i → Ok tt ≡ all
  unfolding room_tests
  asked_all i same h = unfaulted ∙ ap (λ (os : List Room). first_fault (room_tests exact (first + i) os)) (sym (drop_of_length-le rooms h)) ∙ same
