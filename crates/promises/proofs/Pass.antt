-- A training pass never gives 10, and its new model is accepted again.
use Prim.Native.Nat.{ℕ, ◌<◌}
use native.Mathlib.Omega.{arith}
use mathlib.Core.Path.{◌≡◌, sym, ap, ap₂, subst}
use mathlib.Core.Logic.{⊎_elim}
use mathlib.Core.Bool.{Bool, true, false, ◌&&◌}
use mathlib.Core.List.{List, [], ◌∷◌, ◌++◌}
use lib.Dec as Dec
use lib.Dec.{ltb, ltb→lt}
use lib.Ieee.Fits.{and_l, and_r}
use Rattle.answer.specs.Answer.{number_of, is_done, done}
use Rattle.answer.specs.declared.Answer.{Answer}
use Rattle.model.specs.Lent.{Lent, S, M, T, tables_of}
use Rattle.model.specs.Accepted.{AcceptedTables}
use Rattle.model.specs.Model.{model_of}
use Rattle.model.proofs.Low.{accepted_low}
use Rattle.checks.specs.Faults.{Fault, First}
use Rattle.occupancy.proofs.Bounds.{last_below_lem}
use Rattle.baum_welch.specs.Pass.{probx}
use Rattle.baum_welch.specs.Call.{Outputs, checked, written, mass_check, mass_answer, walks_of, Trained}
use Rattle.baum_welch.proofs.Walks.{walks_lidded}
use Rattle.baum_welch.proofs.Again.{accepted_again}
use Rattle.promises.specs.Always.{baum_welch}
use Rattle.promises.specs.Pass.{GammaIsAbove, NeverNegative, NewModelIsAccepted}
use Rattle.promises.proofs.Always.{all_calls_answer}
use Rattle.checks.proofs.Left.{checks_done, tab_front, rows_front}

pub gamma_is_above : GammaIsAbove
gamma_is_above l a some likely i s = last_below_lem (walks_lidded (model_of l) (T l) some (accepted_low l a) likely) i s

-- ---- never 10: every fault that a pass looks for has a number below it
abbrev below_ten : List Fault → Bool
below_ten [] = true
below_ten (f ∷ fs) = ltb f.number 10 && below_ten fs

first_below : (fs : List Fault) (n t p : ℕ) → Dec.T (below_ten fs) → First fs n t p → n < 10
first_below [] n t p h g = absurd g
first_below (f ∷ fs) n t p h g =
    ⊎_elim
    (λ k. rw k.0 (ltb→lt f.number 10 (and_l (ltb f.number 10) (below_ten fs) h)))
    (λ k. first_below fs n t p (and_r (ltb f.number 10) (below_ten fs) h) k.1)
    g

pub never_negative : NeverNegative
never_negative l o e r p h =
    let ten : number_of r.refusal ≡ 10 = ap number_of h in
    let refused : is_done r ≡ false = rw h in
    let fault = (all_calls_answer.of_baum_welch.exactly l o e r p).only_then refused in
    let small : number_of r.refusal < 10
    = first_below (baum_welch.checked l o ++ baum_welch.met l o) (number_of r.refusal) r.table r.place tt fault in
    omega arith

-- ---- the new model
pub pass_done : (l : Lent) (o e : Outputs) (r : Answer) → Trained l o r e → is_done r ≡ true
    → (is_done (checked l o) ≡ true) × (is_done (mass_check (model_of l) (walks_of l)) ≡ true) × (r ≡ done (probx (model_of l) (T l)))
pass_done l o e r p d =
    let checks = checks_done (checked l o) (mass_answer (model_of l) (walks_of l)) r p.answer d in
    let mass = checks_done (mass_check (model_of l) (walks_of l)) (done (probx (model_of l) (T l))) r checks.1 d in
    (checks.0, mass.0, mass.1)

pub pass_written : (l : Lent) (o e : Outputs) (r : Answer) → Trained l o r e → is_done r ≡ true → written l o ≡ true
pass_written l o e r p d =
    let h = pass_done l o e r p d in
    ap₂ ◌&&◌ h.0 h.1

pub new_model_is_accepted : NewModelIsAccepted
new_model_is_accepted l o e r p d =
    let t = pass_written l o e r p d in
    let transition = rows_front (written l o) (S l) (S l) _ o.transition e.transition p.new.transition t in
    let emission = rows_front (written l o) (S l) (M l) _ o.emission e.emission p.new.emission t in
    let initial = tab_front (written l o) (S l) _ o.initial e.initial p.new.initial t in
    let end = tab_front (written l o) (S l) _ o.end e.end p.new.end t in
    subst AcceptedTables (λ i. tables_of l.tables.shape (sym transition i) (sym emission i) (sym initial i) (sym end i))
    (accepted_again l o t)
