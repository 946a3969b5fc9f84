-- What a pass stores can be trained again: where there is mass every entry is good, so the tables that a pass wrote are accepted, whatever
-- samples come next.
use Prim.Native.Nat.{ℕ, ◌-◌, ◌<◌}
use native.Mathlib.Omega.{arith}
use mathlib.Core.Path.{◌≡◌, refl, sym, subst}
use mathlib.Core.Bool.{Bool, true, false, true≢false, not, cond, ◌&&◌}
use mathlib.Core.List.{List}
use borrow.Author.Tests.{ltb-false}
use lib.Dec.{T}
use lib.Ieee.{Float, lt, le, is_nan, to_bits, size}
use Rattle.floats.specs.Float.{◌⊖◌, nought, is_number, is_minus_infinity, is_plus_zero, capped, minus_infinity}
use Rattle.floats.proofs.Order.{not_lt}
use Rattle.floats.proofs.Add.{capped_num}
use Rattle.floats.proofs.Finite.{capped_finite}
use Rattle.floats.proofs.Ceiling.{less_number}
use Rattle.lists.specs.Lists.{tab, table}
use Rattle.lists.proofs.Over.{length_tab}
use Rattle.lists.proofs.Rows.{length_flat}
use Rattle.lists.proofs.Every.{every_tab, every_table}
use Rattle.lists.proofs.First.{first_all}
use Rattle.answer.specs.Answer.{is_done}
use Rattle.answer.proofs.Checks.{Clear, clear}
use Rattle.model.specs.Lent as Lent
use Rattle.model.specs.Lent.{Tables, Lent, tables_of, S, M}
use Rattle.model.specs.Good.{good, good_end}
use Rattle.model.specs.Model.{Model, model_of}
use Rattle.model.specs.Accepted.{AcceptedTables, Accepted}
use Rattle.model.proofs.Low.{Low, accepted_low}
use Rattle.checks.proofs.Tests.{or_false}
use Rattle.checks.proofs.Done.{let_through}
use Rattle.occupancy.specs.Occupancy.{Walks, occupancy, last_occupancy, gamma, emitted, denominator, massless, arc_sum}
use Rattle.occupancy.proofs.Bounds.{occupancy_capped, gamma_capped, denominator_capped, emitted_capped, arcs_capped, Lidded}
use Rattle.baum_welch.specs.Pass.{walks, probx, at_most_zero, share, new_transition, new_emission, new_initial, new_end}
use Rattle.baum_welch.specs.Call.{Outputs, mass_check, walks_of, written}
use Rattle.baum_welch.proofs.Walks.{walks_lidded}

-- ---- what is stored of a number is good
number_good : (x : Float) → T (is_number x) → T (good (at_most_zero x))
unfolding good at_most_zero
number_good x h = go (lt nought x) (λ e. subst T (not_lt nought x (unfold is_nan in tt) h) e)
  where
    go : (b : Bool) → (T (not b) → T (le x nought)) → T (le (cond b nought x) nought)
    go true g = unfold le lt in tt
    go false g = g tt

-- a share of what has mass
share_good : (x d : Float) → T (capped x) → T (capped d) → is_minus_infinity d ≡ false → T (good (share x d))
share_good x d h k e = number_good (x ⊖ d) (less_number x d h (capped_finite d k e))

-- ---- where there is mass: the likelihood, every gamma and every denominator is above minus infinity
pub record Mass (m : Model) (n : ℕ) : Type 0 where
  pub likely : is_minus_infinity (probx m n) ≡ false
  pub occupied : (i : ℕ) → i < m.states → is_minus_infinity (gamma (walks m n) i) ≡ false
  pub left : (i : ℕ) → i < m.states → is_minus_infinity (denominator m.ends (walks m n) i) ≡ false

module _ (m : Model) (n : ℕ) (some : 0 < n) (low : Low m n) (mass : Mass m n) (i : ℕ) (s : i < m.states) where
  abbrev w : Walks
  w = walks m n

  lids : Lidded m.states w
  lids = walks_lidded m n some low mass.likely

  pub transition_good_lem : (j : ℕ) → j < m.states → T (good (new_transition m w i j))
  unfolding new_transition
  transition_good_lem j s' =
      let arcs = arcs_capped lids i s m.transition m.emission j s' (low.transition i j s s') (λ t h. low.emission t j h s') in
      share_good (arc_sum m.transition m.emission w i j) (denominator m.ends w i) arcs
      (denominator_capped lids i s m.ends) (mass.left i s)

  pub emission_good_lem : (samples : List ℕ) (x : ℕ) → T (good (new_emission w samples i x))
  unfolding new_emission
  emission_good_lem samples x =
      share_good (emitted w samples i x n) (gamma w i) (emitted_capped lids i s samples x n (omega arith)) (gamma_capped lids i s)
      (mass.occupied i s)

  pub initial_good_lem : T (good (new_initial w i))
  unfolding new_initial
  initial_good_lem = number_good (occupancy w i 0) (capped_num (occupancy w i 0) (occupancy_capped lids i s 0 some))

  pub end_good_lem : T (good_end m.ends (new_end w m.ends i))
  unfolding new_end good_end
  end_good_lem = go m.ends
    where
      ended : Float
      ended = share (last_occupancy w i) (gamma w i)

      go : (b : Bool) → T (cond b (good (cond b ended nought)) (is_plus_zero (cond b ended nought)))
      go true =
          share_good (last_occupancy w i) (gamma w i) (occupancy_capped lids i s (n - 1) (omega arith)) (gamma_capped lids i s)
          (mass.occupied i s)
      go false = unfold is_plus_zero is_nan to_bits size in tt

-- the tables that a pass over what is lent makes
abbrev pub trained : Lent → Tables
trained l =
    let m = model_of l in
    let w = walks_of l in
    tables_of l.tables.shape
    (table (S l) (S l) (new_transition m w)) (table (S l) (M l) (new_emission w l.samples))
    (tab (S l) (new_initial w)) (tab (S l) (new_end w m.ends))

-- are accepted, with or without an end state
pub trained_accepted : (l : Lent) → Accepted l → 0 < Lent.T l → Mass (model_of l) (Lent.T l) → AcceptedTables (trained l)
trained_accepted l a some mass =
    let m = model_of l in
    let n = Lent.T l in
    let low = accepted_low l a in
    record {
      in_range = a.tables.in_range;
      transition_length = length_flat (S l) _ (S l) (λ (t : ℕ). length_tab (S l) _);
      emission_length = length_flat (S l) _ (M l) (λ (t : ℕ). length_tab (M l) _);
      initial_length = length_tab (S l) _;
      end_length = length_tab (S l) _;
      transition_good = every_table minus_infinity good (S l) (S l) _ (λ i j s s'. transition_good_lem m n some low mass i s j s');
      emission_good = every_table minus_infinity good (S l) (M l) _ (λ i x s _. emission_good_lem m n some low mass i s l.samples x);
      initial_good = every_tab minus_infinity good (S l) _ (λ i s. initial_good_lem m n some low mass i s);
      end_good = every_tab minus_infinity (good_end l.tables.shape.ends) (S l) _ (λ i s. end_good_lem m n some low mass i s);
    }

-- ---- a pass that is done found mass
pub mass_of : (m : Model) (n : ℕ) → is_done (mass_check m (walks m n)) ≡ true → Mass m n
unfolding mass_check Clear massless
mass_of m n h =
    let w = walks m n in
    let f = clear _ (tt, (tt, tt)) h in
    let none = first_all (massless m.ends w) m.states (ltb-false _ _ f.1.0) in
    let apart : (i : ℕ) → i < m.states → (is_minus_infinity (gamma w i) ≡ false) × (is_minus_infinity (denominator m.ends w i) ≡ false)
    = λ i s. or_false (is_minus_infinity (gamma w i)) (is_minus_infinity (denominator m.ends w i)) (none i s) in
    record { likely = f.0; occupied = λ i s. (apart i s).0; left = λ i s. (apart i s).1 }

-- so what it wrote is accepted
pub accepted_again : (l : Lent) (o : Outputs) → written l o ≡ true → AcceptedTables (trained l)
accepted_again l o h =
    let p = both_true _ _ h in
    let through = let_through true _ l p.0 in
    trained_accepted l through.accepted (through.sampled tt) (mass_of (model_of l) (Lent.T l) p.1)
  where
    both_true : (a b : Bool) → (a && b) ≡ true → (a ≡ true) × (b ≡ true)
    both_true true b e = (refl, e)
    both_true false b e = absurd (true≢false (sym e))
