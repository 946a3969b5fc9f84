-- Forward is never under Viterbi: a sum is at least each of its terms, and the best predecessor's is one of them. First by the definitions,
-- then of calls.
use Prim.Native.Nat.{ℕ, zero, suc, ◌+◌, ◌*◌, ◌-◌, ◌<◌}
use mathlib.Core.Path.{◌≡◌, ap, ◌∙◌}
use mathlib.Core.Bool.{Bool, true, false}
use mathlib.Core.List.{List, [], ◌∷◌}
use native.Mathlib.Nat.{lt-suc_self}
use native.Mathlib.Omega.{arith}
use lib.Dec.{T}
use lib.ListN.{length}
use lib.Ieee.{Float, binary64, le, fits}
use Rattle.floats.specs.Float.{◌⊕◌, minus_infinity, at, capped}
use Rattle.floats.proofs.Order.{le_self, le_le}
use Rattle.floats.proofs.Add.{add_mono, add_ge}
use Rattle.floats.proofs.Ceiling.{most, lid_add, lid_number, lid_capped}
use Rattle.floats.proofs.PlusZero.{plus_zero_bounds}
use Rattle.lists.specs.Lists.{tab, table, after}
use Rattle.lists.proofs.Over.{length_tab, get_or_tab}
use Rattle.lists.proofs.Rows.{place_back}
use Rattle.answer.specs.Answer.{is_done, done}
use Rattle.model.specs.Lent as Lent
use Rattle.model.specs.Lent.{Lent, S}
use Rattle.model.specs.Good.{good_end}
use Rattle.model.specs.Accepted.{Accepted}
use Rattle.model.specs.Model.{Model, model_of}
use Rattle.model.proofs.Low.{Low, accepted_low}
use Rattle.checks.specs.Rooms.{room}
use Rattle.checks.proofs.Done.{let_through, is_let_through}
use Rattle.checks.proofs.Left.{checks_done}
use Rattle.best_path.specs.Walk.{cell, ended, closed, value, from, last_state, best_value}
use Rattle.best_path.proofs.States.{from_below, last_below_lem}
use Rattle.best_path.proofs.Bounds.{entry_capped, entry_itself}
use Rattle.viterbi.specs.Call.{rooms}
use Rattle.likelihood.specs.Walk.{alpha, forward_value}
use Rattle.likelihood.specs.Call.{checked}
use Rattle.likelihood.proofs.Bounds.{alpha_lid, alpha_above, alpha_fits, forward_above}
use Rattle.path_promises.specs.BestPath.{Decoder}
use Rattle.path_promises.specs.Calls.{Viterbi, Defined}
use Rattle.path_promises.specs.Rival.{Beside}
use Rattle.path_promises.specs.Likelihood.{ForwardIsAbove, LikelihoodIsAbove, Likely, ForwardIsDone, NeverUnder, CellsNeverUnder}
use Rattle.path_promises.proofs.Calls.{passed, defined}
use Rattle.path_promises.proofs.Rival.{beside}

module _ (m : Model) (n : ℕ) (low : Low m n) (some : 0 < m.states) where
  cells_above : (t j : ℕ) → t < n → j < m.states → T (le (value m t j) (alpha m t j))
  unfolding value alpha from cell
  cells_above zero j h s = le_self (alpha m 0 j) (lid_number (alpha m 0 j) (alpha_lid m n low 0 j h s))
  cells_above (suc t) j h s =
      let w = from m (suc t) j in
      let i : w < m.states = from_below m some t j in
      let a = m.transition w j in
      let e = m.emission (suc t) j in
      let a-most = low.transition w j i s in
      let e-most = low.emission (suc t) j h s in
      let top = alpha_lid m n low t w (omega arith) i in
      let arc : T (le (value m t w ⊕ a) (alpha m t w ⊕ a))
      = add_mono binary64 (value m t w) (alpha m t w) a a (lid_capped _ top) (entry_capped a a-most)
      (cells_above t w (omega arith) i) (entry_itself a a-most) in
      le_le _ ((alpha m t w ⊕ a) ⊕ e) _
      (add_mono binary64 (value m t w ⊕ a) (alpha m t w ⊕ a) e e
      (lid_capped _ (lid_add _ a top a-most)) (entry_capped e e-most) arc (entry_itself e e-most))
      (alpha_above m n low t j w h s i)

pub forward_is_above : ForwardIsAbove
forward_is_above l a t j h s = cells_above (model_of l) (Lent.T l) (accepted_low l a) a.tables.in_range.some_state t j h s

-- forward adds the end entry in any case: without an end state it is +0.0
ended_above : (ends : Bool) (e x y : Float) → T (good_end ends e) → T (le e most) → T (fits binary64 y) → T (capped y) → T (le x y)
    → T (le (ended ends e x) (y ⊕ e))
unfolding ended good_end
ended_above true e x y g h f c l = add_mono binary64 x y e e c (entry_capped e h) l (entry_itself e h)
ended_above false e x y g h f c l = le_le x y (y ⊕ e) l (add_ge binary64 y e f c (plus_zero_bounds e g).0 (entry_capped e h))

-- ---- the answers, where the last sample is at time n
module _ (l : Lent) (a : Accepted l) where
  value_above : (n : ℕ) → Lent.T l ≡ suc n → T (le (best_value (model_of l) (suc n)) (forward_value (model_of l) (suc n)))
  unfolding best_value
  value_above n long =
      let m = model_of l in
      let b = a.tables in
      let low : Low m (suc n) = rw long at (accepted_low l a) in
      let j = last_state m n in
      let s : j < m.states = last_below_lem m b.in_range.some_state n in
      let h = lt-suc_self n in
      le_le (closed m j (value m n j)) (alpha m n j ⊕ m.end j) _
      (ended_above l.tables.shape.ends (m.end j) (value m n j) (alpha m n j) (b.end_good j (rw b.end_length s)) (low.end j s)
      (alpha_fits m n j) (lid_capped _ (alpha_lid m (suc n) low n j h s)) (cells_above m (suc n) low b.in_range.some_state n j h s))
      (forward_above m n low j s)

pub likelihood_is_above : LikelihoodIsAbove
likelihood_is_above l a some =
    let long : Lent.T l ≡ suc (Lent.T l - 1) = omega arith in
    rw long (value_above l a (Lent.T l - 1) long)

-- ---- of calls
-- what a done call of `forward` answers and leaves, by the definitions
module _ (l : Lent) (x : Float) (values : List Float) (c : Likely l x values) where
  is_checked : (is_done (checked true l (length c.lent)) ≡ true) × (c.answer ≡ done (forward_value (model_of l) (Lent.T l)))
  is_checked = checks_done (checked true l (length c.lent)) _ c.answer c.promised.answer c.done

  likelihood_is_lem : x ≡ forward_value (model_of l) (Lent.T l)
  likelihood_is_lem = c.likelihood_is ∙ ap (λ r. r.value) is_checked.1

pub forward_is_done : ForwardIsDone
forward_is_done l lent left answer a some enough p =
    let h = is_let_through true (room (Lent.T l * S l) (length lent) ∷ []) l in
    let d : is_done (checked true l (length lent)) ≡ true = h (record { accepted = a; roomy = (enough, tt); sampled = λ n. some }) in
    ap is_done p.answer ∙ rw d

-- a way to decode that gives what is defined
never_under : (gives : Decoder) → ((l : Lent) (value : Float) (path : List ℕ) → gives l value path → Defined l value path) → NeverUnder gives
never_under gives by-definition l v x path values g c =
    let d = by-definition l v path g in
    rw (d.value_is, likelihood_is_lem l x values c) (likelihood_is_above l d.accepted d.some_sample)

pub viterbi_never_under : NeverUnder Viterbi
viterbi_never_under = never_under Viterbi defined

pub rival_never_under : NeverUnder Beside
rival_never_under = never_under Beside beside

-- place j of row t, as a call that is done has left it
left_at : (b : Bool) (n s : ℕ) (f : ℕ → ℕ → Float) (o e : List Float) → e ≡ after b (table n s f) o → b ≡ true
    → (t j : ℕ) → t < n → j < s → at e (t * s + j) ≡ f t j
left_at b n s f o e h d t j i k =
    let laid = h ∙ ap (λ (z : Bool). after z (table n s f) o) d in
    place_back n t s j (λ (r : ℕ). tab s (f r)) o e minus_infinity (λ (r : ℕ). length_tab s (f r)) laid i k ∙ get_or_tab s (f t) j minus_infinity k

pub cells_never_under : CellsNeverUnder
cells_never_under l o e r x values p d c t j i k =
    let b = passed l o e r p d in
    let a = (let_through false (rooms l o) l b).accepted in
    rw (
      left_at _ (Lent.T l) (S l) (value (model_of l)) o.values e.values p.values b t j i k,
      left_at _ (Lent.T l) (S l) (alpha (model_of l)) c.lent values c.promised.values (is_checked l x values c).0 t j i k,
    ) (forward_is_above l a t j i k)
