-- Each test of the checks tells its fault, slot by slot.
use Prim.Native.Nat.{ℕ, suc, ◌≤◌, ◌<◌}
use mathlib.Core.Path.{◌≡◌, refl, sym, ap, ◌∙◌}
use mathlib.Core.Logic.{inl, inr}
use mathlib.Core.Bool.{Bool, true, false, true≢false, not, ◌&&◌, ◌||◌}
use mathlib.Core.List.{List, [], ◌∷◌, ◌++◌}
use native.Mathlib.Nat.{le_of_eq}
use native.Mathlib.Omega.{arith}
use borrow.Author.Tests.{ltb-true, ltb-false, eqb-true, eqb-false, le-ltb, not-true, not-false}
use lib.Dec.{T, ltb, eqb, ltb→lt}
use lib.ListN.{length, get_or}
use lib.Ieee.{Float, nan, inf, fin, le, lt, is_nan, eq}
use Rattle.floats.specs.Float.{nought, minus_infinity}
use Rattle.floats.proofs.Order.{not_le, le_right, lt_le}
use Rattle.lists.specs.Lists.{first_bad, some_bad}
use Rattle.lists.proofs.Scan.{bad_there, bad_first}
use Rattle.answer.specs.Answer.{number_of, refuse}
use Rattle.answer.specs.declared.Refusal.{Refusal}
use Rattle.answer.specs.declared.Refusal.TheVariants.{BadStates, BadSymbols, TooManySamples, NoSamples, WrongLength, OutputTooShort, NotGood, UnknownSymbol}
use Rattle.model.specs.declared.Shape.{Shape}
use Rattle.model.specs.Lent as Memory
use Rattle.model.specs.Lent.{Tables, Lent, M}
use Rattle.model.specs.Good.{good, good_end}
use Rattle.checks.specs.declared.Room.{Room}
use Rattle.checks.specs.Checks.{Slots, shape_tests, count_tests, room_tests, table_rooms, entry_tests, is_symbol, sample_tests, tests_of, passage, unsampled}
use Rattle.checks.specs.Faults.{fault, OutOfRange, Bad, BadEnd, bad_entry, FaultSlots, faults_of, passage_faults}
use Rattle.checks.specs.Faults.{shape_faults, count_faults, room_faults, bad_entries, unknown_symbols, unsampled_faults}
use Rattle.checks.proofs.Tests.{is_true, in_range_lem, needs_one}
use Rattle.checks.proofs.FirstFault.{Tells, Tell, tell_both}

pub to_T : (b : Bool) → b ≡ true → T b
to_T b h = rw h tt

-- ---- a fault that is at one place only, n
module _ (R : Refusal) (table n : ℕ) (Q : Type 0) (b : Bool) where
  pub at_one : T (ltb 0 (number_of R)) → (b ≡ true → Q) → (b ≡ false → Q → ⊥)
      → Tells (fault (number_of R) table (λ (p : ℕ). (p ≡ n) × Q)) b (refuse R table n)
  at_one some is not_so =
      record {
        gives = record { number_is = refl; table_is = refl; place_is = refl; value_is = refl };
        some = ltb→lt _ _ some;
        found = λ h. ((refl, is h), λ (q : ℕ) k. le_of_eq (sym k.0));
        none = λ h (q : ℕ) k. not_so h k.1;
      }

pub apart : (q n i : ℕ) → q < n → n ≤ i → i ≤ q → ⊥
apart q n i a b c = omega arith

-- ---- a fault that may be at any place of a list: the first element that fails a test
module _ {A : Type 0} (R : Refusal) (table : ℕ) (is_good : A → Bool) (IsBad : A → Type 0) (d : A) (xs : List A) where
  pub at_first : T (ltb 0 (number_of R)) → ((x : A) → is_good x ≡ false → IsBad x) → ((x : A) → IsBad x → is_good x ≡ false)
      → Tells (fault (number_of R) table (λ (p : ℕ). (p < length xs) × IsBad (get_or xs p d))) (some_bad is_good xs) (refuse R table (first_bad is_good xs))
  at_first some is not_so =
      record {
        gives = record { number_is = refl; table_is = refl; place_is = refl; value_is = refl };
        some = ltb→lt _ _ some;
        found = λ h.
            let within : first_bad is_good xs < length xs = ltb-true _ _ h in
            ((within, is _ (bad_there is_good d xs within)), λ (q : ℕ) k. bad_first is_good d xs q k.0 (not_so _ k.1));
        none = λ h (q : ℕ) k.
            let past : length xs ≤ first_bad is_good xs = ltb-false _ _ h in
            let before : first_bad is_good xs ≤ q = bad_first is_good d xs q k.0 (not_so _ k.1) in
            apart q (length xs) (first_bad is_good xs) k.0 past before;
      }

-- ---- 1 and 2
out_of_range : (n most : ℕ) → (eqb n 0 || ltb most n) ≡ true → OutOfRange most n
out_of_range n most h = go (eqb n 0) refl h
  where
    go : (b : Bool) → eqb n 0 ≡ b → (b || ltb most n) ≡ true → OutOfRange most n
    go true e k = inl (eqb-true n 0 e)
    go false e k = inr (ltb-true most n k)

not_in_range : (n most : ℕ) → (eqb n 0 || ltb most n) ≡ false → OutOfRange most n → ⊥
not_in_range n most h (inl e) = let p = in_range_lem n most h in omega arith
not_in_range n most h (inr l) = let p = in_range_lem n most h in omega arith

range : (R : Refusal) (most n : ℕ) → T (ltb 0 (number_of R))
    → Tells (fault (number_of R) 0 (λ (p : ℕ). (p ≡ n) × OutOfRange most n)) (eqb n 0 || ltb most n) (refuse R 0 n)
range R most n some = at_one R 0 n (OutOfRange most n) (eqb n 0 || ltb most n) some (out_of_range n most) (not_in_range n most)

pub shape_tells : (shape : Shape) → Tell (shape_tests shape) (shape_faults shape)
unfolding shape_tests
shape_tells shape = (range BadStates 64 shape.states tt, (range BadSymbols 256 shape.symbols tt, tt))

-- ---- 3 and 4
lacks_one : (b : Bool) (n : ℕ) → (b && eqb n 0) ≡ true → T b × (n ≡ 0)
lacks_one true n h = (tt, eqb-true n 0 h)
lacks_one false n h = absurd (true≢false (sym h))

has_one : (b : Bool) (n : ℕ) → (b && eqb n 0) ≡ false → T b × (n ≡ 0) → ⊥
has_one b n h k = let some = needs_one b n h k.0 in let none = k.1 in omega arith

above : (a b : ℕ) → ltb a b ≡ false → a < b → ⊥
above a b h k = let z = ltb-false a b h in omega arith

pub count_tells : (needs_sample : Bool) (n : ℕ) → Tell (count_tests needs_sample n) (count_faults needs_sample n)
unfolding count_tests
count_tells needs_sample n =
    let many = at_one TooManySamples 4 n (4096 < n) (ltb 4096 n) tt (ltb-true 4096 n) (above 4096 n) in
    let none = at_one NoSamples 4 0 (T needs_sample × (n ≡ 0)) (needs_sample && eqb n 0) tt (lacks_one needs_sample n) (has_one needs_sample n) in
    (many, (none, tt))

-- ---- 5 and 6
pub rooms_tell : (exact : Bool) (first : ℕ) (os : List Room) → Tell (room_tests exact first os) (room_faults exact first os)
unfolding room_tests
rooms_tell exact first [] = tt
rooms_tell true first (o ∷ os) =
    let wrong = at_one WrongLength first o.lent (o.lent ≡ o.needed → ⊥) (not (eqb o.lent o.needed)) tt
    (λ h. eqb-false _ _ (not-true _ h))
    (λ h k. k (eqb-true _ _ (not-false _ h))) in
    (wrong, rooms_tell true (suc first) os)
rooms_tell false first (o ∷ os) =
    let short = at_one OutputTooShort first o.lent (o.lent < o.needed) (ltb o.lent o.needed) tt (ltb-true _ _) (above _ _) in
    (short, rooms_tell false (suc first) os)

-- ---- 7
bad : (x : Float) → good x ≡ false → Bad x
unfolding good is_nan
bad x h = go (is_nan x) refl
  where
    go : (b : Bool) → is_nan x ≡ b → Bad x
    go true e = inl (to_T _ e)
    go false e = inr (to_T _ (sym (not_le x nought (to_T _ (ap not e)) tt) ∙ ap not h))

nan_is_not_good : (x : Float) → T (is_nan x) → good x ≡ false
unfolding good le lt eq is_nan
nan_is_not_good nan h = refl
nan_is_not_good (inf s) h = absurd h
nan_is_not_good (fin s m e) h = absurd h

number : (x : Float) → T (lt nought x) → T (not (is_nan x))
number x h = le_right nought x (lt_le nought x h)

not_good : (x : Float) → Bad x → good x ≡ false
unfolding good is_nan
not_good x (inl h) = nan_is_not_good x h
not_good x (inr h) = not-true _ (not_le x nought (number x h) tt ∙ is_true _ h)

bad_end : (ends : Bool) (x : Float) → good_end ends x ≡ false → BadEnd ends x
unfolding good_end
bad_end true x h = bad x h
bad_end false x h = to_T _ (ap not h)

not_good_end : (ends : Bool) (x : Float) → BadEnd ends x → good_end ends x ≡ false
unfolding good_end
not_good_end true x h = not_good x h
not_good_end false x h = not-true _ (is_true _ h)

pub entries_tell : (m : Tables) → Tell (entry_tests m) (bad_entries m)
unfolding entry_tests
entries_tell m =
    let table : (k : ℕ) (xs : List Float) → Tells (bad_entry k Bad xs) (some_bad good xs) (refuse NotGood k (first_bad good xs)) =
    λ k xs. at_first NotGood k good Bad minus_infinity xs tt bad not_good in
    let ends = m.shape.ends in
    let end = at_first NotGood 3 (good_end ends) (BadEnd ends) minus_infinity m.end tt (bad_end ends) (not_good_end ends) in
    (table 0 m.transition, (table 1 m.emission, (table 2 m.initial, (end, tt))))

-- ---- 8
pub samples_tell : (symbols : ℕ) (samples : List ℕ) → Tell (sample_tests symbols samples) (unknown_symbols symbols samples)
unfolding sample_tests
samples_tell symbols samples =
    let none = at_first UnknownSymbol 4 (is_symbol symbols) (λ (x : ℕ). symbols ≤ x) 0 samples tt
    (λ (x : ℕ) h. ltb-false x symbols h)
    (λ (x : ℕ) h. le-ltb x symbols h) in
    (none, tt)

-- ---- all slots
pub record SlotsTell (s : Slots) (f : FaultSlots) : Type 0 where
  pub before : Tell s.before f.before
  pub counts : Tell s.counts f.counts
  pub inputs : Tell s.inputs f.inputs
  pub outputs : Tell s.outputs f.outputs
  pub samples : Tell s.samples f.samples
  pub more : Tell s.more f.more

pub checks_tell : (m : Tables) (s : Slots) (f : FaultSlots) → SlotsTell s f → Tell (tests_of m s) (faults_of m f)
unfolding tests_of
checks_tell m s f h =
    let tables = room_tests true 0 (table_rooms m) in
    let table_faults = room_faults true 0 (table_rooms m) in
    let contents = tell_both s.samples s.more f.samples f.more h.samples h.more in
    let entered = tell_both (entry_tests m) (s.samples ++ s.more) (bad_entries m) (f.samples ++ f.more) (entries_tell m) contents in
    let rest = entry_tests m ++ (s.samples ++ s.more) in
    let rest_faults = bad_entries m ++ (f.samples ++ f.more) in
    let roomy = tell_both s.inputs (s.outputs ++ rest) f.inputs (f.outputs ++ rest_faults) h.inputs
    (tell_both s.outputs rest f.outputs rest_faults h.outputs entered) in
    let sized = tell_both tables (s.inputs ++ (s.outputs ++ rest)) table_faults (f.inputs ++ (f.outputs ++ rest_faults))
    (rooms_tell true 0 (table_rooms m)) roomy in
    let later = tables ++ (s.inputs ++ (s.outputs ++ rest)) in
    let later_faults = table_faults ++ (f.inputs ++ (f.outputs ++ rest_faults)) in
    tell_both s.before (shape_tests m.shape ++ (s.counts ++ later)) f.before (shape_faults m.shape ++ (f.counts ++ later_faults)) h.before
    (tell_both (shape_tests m.shape) (s.counts ++ later) (shape_faults m.shape) (f.counts ++ later_faults) (shape_tells m.shape)
    (tell_both s.counts later f.counts later_faults h.counts sized))

pub passage_tells : (needs_sample : Bool) (outputs : List Room) (l : Lent) → SlotsTell (passage needs_sample outputs l) (passage_faults needs_sample outputs l)
passage_tells needs_sample outputs l =
    record {
      before = tt;
      counts = count_tells needs_sample (Memory.T l);
      inputs = tt;
      outputs = rooms_tell false 5 outputs;
      samples = samples_tell (M l) l.samples;
      more = tt;
    }

pub unsampled_tells : (outputs : List Room) → SlotsTell (unsampled outputs) (unsampled_faults outputs)
unsampled_tells outputs = record { before = tt; counts = tt; inputs = tt; outputs = rooms_tell false 5 outputs; samples = tt; more = tt }
