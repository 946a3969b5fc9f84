-- A list of tests answers with the first fault of a list of faults, where each test tells its fault.
use Prim.Native.Nat.{ℕ, ◌≤◌, ◌<◌}
use mathlib.Core.Path.{◌≡◌, refl, sym, ap, ◌∙◌}
use mathlib.Core.Logic.{inl, inr}
use mathlib.Core.Bool.{Bool, true, false, true≢false, cond}
use mathlib.Core.List.{List, [], ◌∷◌, ◌++◌}
use native.Mathlib.Omega.{arith}
use borrow.Author.Tests.{eqb-true}
use lib.Dec.{lt→ltb}
use lib.Ieee.{Float}
use Rattle.answer.specs.Answer.{number_of, done, is_done}
use Rattle.answer.specs.Checks.{Tests, first_of}
use Rattle.answer.specs.declared.Answer.{Answer}
use Rattle.answer.proofs.Checks.{Refuses, clear, goes_on, stops}
use Rattle.checks.specs.Faults.{Fault, Least, None, First, Some, Faultless}
use Rattle.checks.specs.Exactly.{Refused, Exactly}

-- the test b, with its answer a, tells the fault f
pub record Tells (f : Fault) (b : Bool) (a : Answer) : Type 0 where
  pub gives : Refused a f.number f.table a.place
  pub some : 0 < f.number
  pub found : b ≡ true → Least f a.place
  pub none : b ≡ false → None f

abbrev pub Tell : Tests → List Fault → Type 0
Tell [] [] = Unit
Tell [] (f ∷ fs) = ⊥
Tell (t ∷ ts) [] = ⊥
Tell (t ∷ ts) (f ∷ fs) = Tells f t.0 t.1 × Tell ts fs

pub tell_both : (ts us : Tests) (fs gs : List Fault) → Tell ts fs → Tell us gs → Tell (ts ++ us) (fs ++ gs)
tell_both [] us [] gs h k = k
tell_both [] us (f ∷ fs) gs h k = absurd h
tell_both (t ∷ ts) us [] gs h k = absurd h
tell_both (t ∷ ts) us (f ∷ fs) gs h k = (h.0, tell_both ts us fs gs h.1 k)

-- ---- none is not some
never : (n : ℕ) → 0 < n → n ≡ 0 → ⊥
never n z e = omega arith

same : (a b : ℕ) → a ≤ b → b ≤ a → a ≡ b
same a b h k = omega arith

pub not_first : (fs : List Fault) (n t p : ℕ) → First fs n t p → Faultless fs → ⊥
not_first [] n t p h k = h
not_first (f ∷ fs) n t p (inl h) k = k.0 p h.2.0
not_first (f ∷ fs) n t p (inr h) k = not_first fs n t p h.1 k.1

pub not_some : (fs : List Fault) → Some fs → Faultless fs → ⊥
not_some [] h k = h
not_some (f ∷ fs) (inl h) k = k.0 h.0 h.1
not_some (f ∷ fs) (inr h) k = not_some fs h k.1

pub some_left : (fs gs : List Fault) → Some fs → Some (fs ++ gs)
some_left [] gs h = absurd h
some_left (f ∷ fs) gs (inl h) = inl h
some_left (f ∷ fs) gs (inr h) = inr (some_left fs gs h)

pub some_right : (fs gs : List Fault) → Some gs → Some (fs ++ gs)
some_right [] gs h = h
some_right (f ∷ fs) gs h = inr (some_right fs gs h)

-- ---- the first test that finds a fault answers
module _ (f : Fault) (fs : List Fault) (a rest : Answer) where
  found_first : Tells f true a → (n t p : ℕ) → First (f ∷ fs) n t p → Refused a n t p
  found_first h n t p (inl k) =
      let here = h.found refl in
      record {
        number_is = h.gives.number_is ∙ sym k.0;
        table_is = h.gives.table_is ∙ sym k.1;
        place_is = same a.place p (here.1 p k.2.0) (k.2.1 a.place here.0);
        value_is = h.gives.value_is;
      }
  found_first h n t p (inr k) = absurd (k.0 a.place (h.found refl).0)

  passed_first : Tells f false a → Exactly fs rest → (n t p : ℕ) → First (f ∷ fs) n t p → Refused rest n t p
  passed_first h e n t p (inl k) = absurd (h.none refl p k.2.0)
  passed_first h e n t p (inr k) = e.given n t p k.1

  choose : (b : Bool) → Tells f b a → Exactly fs rest → Exactly (f ∷ fs) (cond b a rest)
  choose true h e =
      record {
        given = found_first h;
        only_then = λ z. inl (h.gives.number_is, h.gives.table_is, h.found refl);
        done = λ k. absurd (k.0 a.place (h.found refl).0);
        done_only_then = λ z. absurd (never f.number h.some (sym h.gives.number_is ∙ eqb-true (number_of a.refusal) 0 z));
      }
  choose false h e =
      record {
        given = passed_first h e;
        only_then = λ z. inr (h.none refl, e.only_then z);
        done = λ k. e.done k.1;
        done_only_then = λ z. (h.none refl, e.done_only_then z);
      }

pub exactly_first : (ts : Tests) (fs : List Fault) → Tell ts fs → Exactly fs (first_of ts)
unfolding first_of
exactly_first [] [] h =
    record { given = λ n t p k. absurd k; only_then = λ z. absurd (true≢false z); done = λ k. refl; done_only_then = λ z. tt }
exactly_first [] (f ∷ fs) h = absurd h
exactly_first (t ∷ ts) [] h = absurd h
exactly_first (t ∷ ts) (f ∷ fs) h = choose f fs t.1 (first_of ts) t.0 h.0 (exactly_first ts fs h.1)

-- ---- a call that goes on where the tests are done, and else answers as they do
module _ (fs : List Fault) (a r : Answer) (e : Exactly fs a) where
  pub exactly_as : (b : Bool) → is_done a ≡ b → (b ≡ true → is_done r ≡ true) → (b ≡ false → r ≡ a) → Exactly fs r
  exactly_as true h d s =
      record {
        given = λ n t p k. absurd (not_first fs n t p k (e.done_only_then h));
        only_then = λ z. absurd (true≢false (sym (d refl) ∙ z));
        done = λ k. d refl;
        done_only_then = λ z. e.done_only_then h;
      }
  exactly_as false h d s = rw (s refl) e

-- ---- two lists of tests, the second asked where the first is done, and the value v where both are
pub refuses : (ts : Tests) (fs : List Fault) → Tell ts fs → Refuses ts
refuses [] [] h = tt
refuses [] (f ∷ fs) h = absurd h
refuses (t ∷ ts) [] h = absurd h
refuses (t ∷ ts) (f ∷ fs) h =
    let some : 0 < number_of t.1.refusal = rw h.0.gives.number_is h.0.some in
    (lt→ltb _ _ some, refuses ts fs h.1)

module _ (ts us : Tests) (fs gs : List Fault) (h : Tell ts fs) (k : Tell us gs) (v : Float) where
  both : Exactly (fs ++ gs) (first_of (ts ++ us))
  both = exactly_first (ts ++ us) (fs ++ gs) (tell_both ts us fs gs h k)

  second : is_done (first_of ts) ≡ true → first_of us ≡ first_of (ts ++ us)
  second e = goes_on ts us (first_of us) refl (clear ts (refuses ts fs h) e)

  answered : (b c : Bool) → is_done (first_of ts) ≡ b → is_done (first_of us) ≡ c → Exactly (fs ++ gs) (cond b (cond c (done v) (first_of us)) (first_of ts))
  answered true true e d =
      exactly_as _ _ (done v) both true (sym (ap is_done (second e)) ∙ d) (λ z. refl) (λ z. absurd (true≢false z))
  answered true false e d =
      exactly_as _ _ (first_of us) both false (sym (ap is_done (second e)) ∙ d) (λ z. absurd (true≢false (sym z))) (λ z. second e)
  answered false c e d =
      let first = stops ts us (first_of ts) refl e in
      exactly_as _ _ (first_of ts) both false (sym (ap is_done first) ∙ e) (λ z. absurd (true≢false (sym z))) (λ z. first)

  pub exactly_both : Exactly (fs ++ gs) (cond (is_done (first_of ts)) (cond (is_done (first_of us)) (done v) (first_of us)) (first_of ts))
  exactly_both = answered (is_done (first_of ts)) (is_done (first_of us)) refl refl
