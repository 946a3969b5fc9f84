-- Laws of a list of tests: which part of a list answers, and what is known once none finds fault.
use Prim.Native.Nat.{ℕ, ◌<◌}
use mathlib.Core.Path.{◌≡◌, refl, sym, ap, subst, ◌∙◌}
use mathlib.Core.Bool.{Bool, true, false, true≢false, cond}
use mathlib.Core.List.{[], ◌∷◌, ◌++◌}
use native.Mathlib.Omega.{arith}
use lib.Dec.{T, ltb, ltb→lt}
use borrow.Author.Tests.{eqb-true}
use Rattle.floats.specs.Float.{minus_infinity}
use Rattle.answer.specs.declared.Answer.{Answer}
use Rattle.answer.specs.Answer.{number_of, is_done, done}
use Rattle.answer.specs.Checks.{Tests, first_of, first_fault}
use Rattle.std.specs.Prelude.{Result, Ok, Err, is_err}

-- every test of the list gives an answer whose number passes the test
abbrev pub Gives : (ℕ → Bool) → Tests → Type 0
Gives test [] = Unit
Gives test (t ∷ ts) = T (test (number_of t.1.refusal)) × Gives test ts

pub give_both : (test : ℕ → Bool) (a b : Tests) → Gives test a → Gives test b → Gives test (a ++ b)
give_both test [] b r q = q
give_both test (t ∷ a) b r q = (r.0, give_both test a b r.1 q)

-- every test of the list has a refusal to give
abbrev pub Refuses : Tests → Type 0
Refuses = Gives (ltb 0)

pub refuse_both : (a b : Tests) → Refuses a → Refuses b → Refuses (a ++ b)
refuse_both = give_both (ltb 0)

-- no test of the list finds fault
unfoldable pub Clear : Tests → Type 0
Clear [] = Unit
Clear (t ∷ ts) = (t.0 ≡ false) × Clear ts

pick : (b : Bool) (a rest : Answer) → T (ltb 0 (number_of a.refusal)) → is_done (cond b a rest) ≡ true → (b ≡ false) × (is_done rest ≡ true)
pick true a rest r h = absurd (never (number_of a.refusal) (ltb→lt _ _ r) (eqb-true _ 0 h))
  where
    never : (n : ℕ) → 0 < n → n ≡ 0 → ⊥
    never n z e = omega arith
pick false a rest r h = (refl, h)

-- a check that is done found no fault
pub clear : (ts : Tests) → Refuses ts → is_done (first_of ts) ≡ true → Clear ts
unfolding first_of Clear
clear [] r h = tt
clear (t ∷ ts) r h =
    let p = pick t.0 t.1 (first_of ts) r.0 h in
    (p.0, clear ts r.1 p.1)

-- a check that is not done gives one of its tests' numbers
pub given : (test : ℕ → Bool) (ts : Tests) → Gives test ts → is_done (first_of ts) ≡ false → T (test (number_of (first_of ts).refusal))
unfolding first_of
given test [] g h = absurd (let z : ◌≡◌ {A = ℕ} 0 1 = cc in omega arith)
given test (t ∷ ts) g h = go t.0 (given test ts g.1) h
  where
    go : (b : Bool) → (is_done (first_of ts) ≡ false → T (test (number_of (first_of ts).refusal)))
        → is_done (cond b t.1 (first_of ts)) ≡ false → T (test (number_of (cond b t.1 (first_of ts)).refusal))
    go true rest k = g.0
    go false rest k = rest k

-- and one that found no fault is done
pub no_fault : (ts : Tests) → Clear ts → is_done (first_of ts) ≡ true
unfolding first_of Clear
no_fault [] c = refl
no_fault (t ∷ ts) c = rw c.0 (no_fault ts c.1)

pub clear_both : (a b : Tests) → Clear a → Clear b → Clear (a ++ b)
unfolding Clear
clear_both [] b c d = d
clear_both (t ∷ a) b c d = (c.0, clear_both a b c.1 d)

pub clear_left : (a b : Tests) → Clear (a ++ b) → Clear a
unfolding Clear
clear_left [] b c = tt
clear_left (t ∷ a) b c = (c.0, clear_left a b c.1)

pub clear_right : (a b : Tests) → Clear (a ++ b) → Clear b
unfolding Clear
clear_right [] b c = c
clear_right (t ∷ a) b c = clear_right a b c.1

-- the first test of a list: it answers where it finds fault, and the rest where it finds none
pub finds : (b : Bool) (a : Answer) (ts : Tests) (r : Answer) → b ≡ true → r ≡ a → r ≡ first_of ((b, a) ∷ ts)
unfolding first_of
finds b a ts r h e = rw h e

pub passes : (b : Bool) (a : Answer) (ts : Tests) (r : Answer) → b ≡ false → r ≡ first_of ts → r ≡ first_of ((b, a) ∷ ts)
unfolding first_of
passes b a ts r h e = rw h e

-- of two lists of tests, one after the other: the second answers where the first found no fault
pub goes_on : (a b : Tests) (r : Answer) → r ≡ first_of b → Clear a → r ≡ first_of (a ++ b)
unfolding first_of Clear
goes_on [] b r e c = e
goes_on (t ∷ a) b r e c = rw c.0 (goes_on a b r e c.1)

stop : (b : Bool) (a rest rest' : Answer) → (b ≡ false → rest' ≡ rest) → cond b a rest' ≡ cond b a rest
stop true a rest rest' h = refl
stop false a rest rest' h = h refl

stopped : (a b : Tests) → is_done (first_of a) ≡ false → first_of (a ++ b) ≡ first_of a
unfolding first_of
stopped [] b h = absurd (let z : ◌≡◌ {A = ℕ} 0 1 = cc in omega arith)
stopped (t ∷ a) b h = stop t.0 t.1 (first_of a) (first_of (a ++ b)) (λ e. stopped a b (rw e at h))

-- and the first answers where it did
pub stops : (a b : Tests) (r : Answer) → r ≡ first_of a → is_done r ≡ false → r ≡ first_of (a ++ b)
stops a b r e h = e ∙ sym (stopped a b (sym (ap is_done e) ∙ h))

-- what the code's check says of the tests: it is passed, or it has the answer of the list
abbrev pub told : Result Unit Answer → Answer
told (Ok u) = done minus_infinity
told (Err a) = a

told_cond : (b : Bool) (a : Answer) (r : Result Unit Answer) → told (cond b (Err a) r) ≡ cond b a (told r)
told_cond true a r = refl
told_cond false a r = refl

-- and it tells the answer that the tests give
pub fault_told : (ts : Tests) → told (first_fault ts) ≡ first_of ts
unfolding first_of first_fault
fault_told [] = refl
fault_told (t ∷ ts) = told_cond t.0 t.1 (first_fault ts) ∙ ap (cond t.0 t.1) (fault_told ts)

-- the code's check of the tests found this fault
pub found : (ts : Tests) (a : Answer) → first_fault ts ≡ Err a → a ≡ first_of ts
found ts a h = sym (ap told h) ∙ fault_told ts

ok_is_no_err : (u : Unit) (a : Answer) → ◌≡◌ {A = Result Unit Answer} (Ok u) (Err a) → ⊥
ok_is_no_err u a h = subst (λ (r : Result Unit Answer). told_kind r) h tt
  where
    told_kind : Result Unit Answer → Type 0
    told_kind (Ok v) = Unit
    told_kind (Err b) = ⊥

one_clear : (b : Bool) (a : Answer) (rest : Result Unit Answer) (u : Unit) → cond b (Err a) rest ≡ Ok u → (b ≡ false) × (rest ≡ Ok u)
one_clear true a rest u h = absurd (ok_is_no_err u a (sym h))
one_clear false a rest u h = (refl, h)

-- the code's check of the tests is passed where none finds fault
pub passed : (ts : Tests) (u : Unit) → first_fault ts ≡ Ok u → Clear ts
unfolding first_fault Clear
passed [] u h = tt
passed (t ∷ ts) u h =
    let p = one_clear t.0 t.1 (first_fault ts) u h in
    (p.0, passed ts u p.1)

-- of two lists of tests, one after the other: the code's check of the first stops the call where it finds fault
pub fault_stops : (a b : Tests) (x : Answer) → first_fault a ≡ Err x → Err x ≡ first_fault (a ++ b)
unfolding first_fault
fault_stops [] b x h = absurd (ok_is_no_err tt x h)
fault_stops (t ∷ a) b x h = go t.0 h (fault_stops a b x)
  where
    go : (c : Bool) → cond c (Err t.1) (first_fault a) ≡ Err x → (first_fault a ≡ Err x → Err x ≡ first_fault (a ++ b))
        → Err x ≡ cond c (Err t.1) (first_fault (a ++ b))
    go true k rest = sym k
    go false k rest = rest k

-- and else the second is made
pub fault_goes_on : (a b : Tests) (u : Unit) (r : Result Unit Answer) → first_fault a ≡ Ok u → r ≡ first_fault b → r ≡ first_fault (a ++ b)
unfolding first_fault
fault_goes_on [] b u r h e = e
fault_goes_on (t ∷ a) b u r h e =
    let p = one_clear t.0 t.1 (first_fault a) u h in
    rw p.0 (fault_goes_on a b u r p.1 e)

-- the first test of a list: the code's check refuses the call with it where it finds fault, and else goes on
pub faulty : (b : Bool) (a x : Answer) (ts : Tests) → b ≡ true → x ≡ a → Err x ≡ first_fault ((b, a) ∷ ts)
unfolding first_fault
faulty b a x ts h e = rw h (ap Err e)

pub faultless : (b : Bool) (a : Answer) (ts : Tests) (r : Result Unit Answer) → b ≡ false → r ≡ first_fault ts → r ≡ first_fault ((b, a) ∷ ts)
unfolding first_fault
faultless b a ts r h e = rw h e

-- no test is left
pub unfaulted : ◌≡◌ {A = Result Unit Answer} (Ok tt) (first_fault [])
unfolding first_fault
unfaulted = refl

pub all_clear : (ts : Tests) → Clear ts → first_fault ts ≡ Ok tt
unfolding first_fault Clear
all_clear [] c = refl
all_clear (t ∷ ts) c = rw c.0 (all_clear ts c.1)

-- where the code's check refuses the call, so does the answer of the list, and where it is passed, the answer is done
pub refuses_too : (ts : Tests) → Refuses ts → (x : Answer) → first_fault ts ≡ Err x → is_done (first_of ts) ≡ false
refuses_too ts r x h = go (is_done (first_of ts)) refl
  where
    go : (b : Bool) → is_done (first_of ts) ≡ b → b ≡ false
    go true e = absurd (ok_is_no_err tt x (sym (all_clear ts (clear ts r e)) ∙ h))
    go false e = refl

pub passes_too : (ts : Tests) (u : Unit) → first_fault ts ≡ Ok u → is_done (first_of ts) ≡ true
passes_too ts u h = no_fault ts (passed ts u h)

-- tests that find no fault may be left out of the code's check
pub fault_left_out : (a b c : Tests) → Clear b → first_fault (a ++ (b ++ c)) ≡ first_fault (a ++ c)
unfolding first_fault
fault_left_out [] b c h = sym (fault_goes_on b c tt (first_fault c) (all_clear b h) refl)
fault_left_out (t ∷ a) b c h = ap (cond t.0 (Err t.1)) (fault_left_out a b c h)

-- a refusal that the list of tests answers is what the code's check has
pub as_fault : (ts : Tests) → (x : Answer) → x ≡ first_of ts → is_done x ≡ false → Err x ≡ first_fault ts
as_fault ts x e d = go (first_fault ts) refl
  where
    go : (r : Result Unit Answer) → first_fault ts ≡ r → Err x ≡ r
    go (Ok u) h = absurd (true≢false (sym (passes_too ts u h) ∙ ap is_done (sym e) ∙ d))
    go (Err y) h = ap Err (e ∙ sym (found ts y h))

-- the same by whether the code's check is a refusal
pub err_is_not_done : (ts : Tests) → Refuses ts → (r : Result Unit Answer) → r ≡ first_fault ts → is_err r ≡ true → is_done (first_of ts) ≡ false
err_is_not_done ts k (Ok u) e h = absurd (true≢false (sym h))
err_is_not_done ts k (Err x) e h = refuses_too ts k x (sym e)

pub ok_is_done : (ts : Tests) → (r : Result Unit Answer) → r ≡ first_fault ts → is_err r ≡ false → is_done (first_of ts) ≡ true
ok_is_done ts (Ok u) e h = passes_too ts u (sym e)
ok_is_done ts (Err x) e h = absurd (true≢false h)
