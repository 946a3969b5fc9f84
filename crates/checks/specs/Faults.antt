-- What a call on a model is refused for (RULES 3.2): a line for each refusal number and table, in the order of the checks, with the same slots.
use Rattle.std.specs.Prelude.{ℕ, suc, ◌≤◌, ◌<◌, ◌≡◌, ◌⊎◌, Bool, true, false, not, List, [], ◌∷◌, ◌++◌, T, length, Float}
use Rattle.std.specs.Float.Ieee.{lt, is_nan}
use Rattle.floats.specs.Float.{nought, at, is_plus_zero}
use Rattle.model.specs.declared.Shape.{Shape}
use Rattle.model.specs.Lent as Lent
use Rattle.model.specs.Lent.{Tables, Lent, M}
use Rattle.model.specs.Model.{sample_at}
use Rattle.checks.specs.declared.Room.{Room}
use Rattle.checks.specs.Checks.{table_rooms}

-- a line: a refusal's number, the table that it names, and the places that it may name, each with what is at fault there
pub record Fault : Type 1 where
  pub number : ℕ
  pub table : ℕ
  pub At : ℕ → Type 0

abbrev pub fault : ℕ → ℕ → (ℕ → Type 0) → Fault
fault number table At = record { number = number; table = table; At = At }

abbrev pub OutOfRange : ℕ → ℕ → Type 0
OutOfRange most n = (n ≡ 0) ⊎ (most < n)

-- 1: S is 0 or above 64; 2: M is 0 or above 256
abbrev pub shape_faults : Shape → List Fault
shape_faults shape =
    fault 1 0 (λ (p : ℕ). (p ≡ shape.states) × OutOfRange 64 shape.states)
    ∷ fault 2 0 (λ (p : ℕ). (p ≡ shape.symbols) × OutOfRange 256 shape.symbols)
    ∷ []

-- 3: there are more than 4,096 samples; 4: there is none, and the call needs one
abbrev pub count_faults : Bool → ℕ → List Fault
count_faults needs_sample n =
    fault 3 4 (λ (p : ℕ). (p ≡ n) × (4096 < n)) ∷ fault 4 4 (λ (p : ℕ). (p ≡ 0) × (T needs_sample × (n ≡ 0))) ∷ []

-- 5: a table or a further input has a wrong length; 6: an output or scratch is too short. The place is its length
abbrev pub unfit : Bool → ℕ → Room → Fault
unfit true number o = fault 5 number (λ (p : ℕ). (p ≡ o.lent) × (o.lent ≡ o.needed → ⊥))
unfit false number o = fault 6 number (λ (p : ℕ). (p ≡ o.lent) × (o.lent < o.needed))

abbrev pub room_faults : Bool → ℕ → List Room → List Fault
room_faults exact first [] = []
room_faults exact first (o ∷ os) = unfit exact first o ∷ room_faults exact (suc first) os

-- an entry is bad when it is NaN or above zero; without an end state, an entry of the end table is when it is not +0.0
abbrev pub Bad : Float → Type 0
Bad x = T (is_nan x) ⊎ T (lt nought x)

abbrev pub BadEnd : Bool → Float → Type 0
BadEnd true x = Bad x
BadEnd false x = T (not (is_plus_zero x))

-- 7: an entry of a table is bad
abbrev pub bad_entry : ℕ → (Float → Type 0) → List Float → Fault
bad_entry table IsBad xs = fault 7 table (λ (p : ℕ). (p < length xs) × IsBad (at xs p))

abbrev pub bad_entries : Tables → List Fault
bad_entries m =
    bad_entry 0 Bad m.transition
    ∷ bad_entry 1 Bad m.emission
    ∷ bad_entry 2 Bad m.initial
    ∷ bad_entry 3 (BadEnd m.shape.ends) m.end
    ∷ []

-- 8: a sample is M or more
abbrev pub unknown_symbols : ℕ → List ℕ → List Fault
unknown_symbols symbols samples = fault 8 4 (λ (p : ℕ). (p < length samples) × (symbols ≤ sample_at samples p)) ∷ []

-- the slots of the checks, as faults
pub record FaultSlots : Type 1 where
  pub before : List Fault
  pub counts : List Fault
  pub inputs : List Fault
  pub outputs : List Fault
  pub samples : List Fault
  pub more : List Fault

abbrev pub faults_of : Tables → FaultSlots → List Fault
faults_of m s =
    s.before
    ++ (shape_faults m.shape
    ++ (s.counts
    ++ (room_faults true 0 (table_rooms m)
    ++ (s.inputs
    ++ (s.outputs
    ++ (bad_entries m
    ++ (s.samples
    ++ s.more)))))))

-- 1 to 8, of a call with one passage of samples and outputs, which are numbered from 5
abbrev pub passage_faults : Bool → List Room → Lent → FaultSlots
passage_faults needs_sample outputs l =
    record {
      before = [];
      counts = count_faults needs_sample (Lent.T l);
      inputs = [];
      outputs = room_faults false 5 outputs;
      samples = unknown_symbols (M l) l.samples;
      more = [];
    }

abbrev pub check_faults : Bool → List Room → Lent → List Fault
check_faults needs_sample outputs l = faults_of l.tables (passage_faults needs_sample outputs l)

-- 1, 2 and 5 to 7, of a call without samples
abbrev pub unsampled_faults : List Room → FaultSlots
unsampled_faults outputs = record { before = []; counts = []; inputs = []; outputs = room_faults false 5 outputs; samples = []; more = [] }

-- p is the least place of a fault
abbrev pub Least : Fault → ℕ → Type 0
Least f p = f.At p × ((q : ℕ) → f.At q → p ≤ q)

-- there is no such fault
abbrev pub None : Fault → Type 0
None f = (q : ℕ) → f.At q → ⊥

-- number, table and place of the first fault of a list
abbrev pub First : List Fault → ℕ → ℕ → ℕ → Type 0
First [] n t p = ⊥
First (f ∷ fs) n t p = ((n ≡ f.number) × (t ≡ f.table) × Least f p) ⊎ (None f × First fs n t p)

-- some fault of a list, and none of them
abbrev pub Some : List Fault → Type 0
Some [] = ⊥
Some (f ∷ fs) = ((p : ℕ) × f.At p) ⊎ Some fs

abbrev pub Faultless : List Fault → Type 0
Faultless [] = Unit
Faultless (f ∷ fs) = None f × Faultless fs
