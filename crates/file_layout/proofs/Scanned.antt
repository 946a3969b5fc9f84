-- A loop that looks for the first wrong byte before the bodies: what it knows at place p.
use Prim.Native.Nat.{ℕ, zero, suc, ◌+◌, ◌-◌, ◌*◌, ◌/◌, ◌%◌, ◌≤◌, ◌<◌, suc-le-suc}
use mathlib.Core.Path.{◌≡◌, refl, sym, ap, ◌∙◌}
use mathlib.Core.Bool.{true, false}
use mathlib.Core.List.{List, [], ◌∷◌}
use mathlib.Core.Logic.{◌⊎◌, inl, inr, ⊎_elim}
use native.Mathlib.Nat.{not-suc-le-zero, le_of_suc-le-suc}
use native.Mathlib.Omega.{arith}
use lib.Dec.{eqb}
use lib.ListN.{length, get_or}
use Rattle.std.proofs.Common.{min}
use Rattle.std.proofs.lemmas.Bool.Decides.{nat_tests}
use Rattle.model.specs.declared.Shape.{Shape}
use Rattle.lists.proofs.Parts.{le_or_lt}
use Rattle.file_layout.specs.Checks.{Demand, any, first_wrong, meets, pattern, some_wrong}
use Rattle.file_layout.specs.Layout.{count, first, label, offset}
use Rattle.file_layout.proofs.Whole.{demand_body, demand_first, demand_label, demand_sum, length_pattern, offset_up}

-- where the walk stops
abbrev Stop : List Demand → List ℕ → ℕ → Type 0
Stop ds f p = (p ≡ length ds) ⊎ ((p ≡ length f) ⊎ (meets (get_or ds p any) (get_or f p 0) ≡ false))

wrong_at : (ds : List Demand) (f : List ℕ) (p : ℕ) → ((q : ℕ) → q < p → meets (get_or ds q any) (get_or f q 0) ≡ true) → p ≤ length ds → p ≤ length f
    → Stop ds f p → p ≡ first_wrong ds f
unfolding first_wrong
wrong_at [] f zero h l k s = refl
wrong_at [] f (suc p) h l k s = absurd (not-suc-le-zero l)
wrong_at (d ∷ ds) [] zero h l k s = refl
wrong_at (d ∷ ds) [] (suc p) h l k s = absurd (not-suc-le-zero k)
wrong_at (d ∷ ds) (b ∷ f) zero h l k s = ⊎_elim (λ e. absurd (never e)) (λ t. ⊎_elim (λ e. absurd (never e)) (λ m. rw m) t) s
  where
    never : {n : ℕ} → 0 ≡ suc n → ⊥
    never e = omega arith
wrong_at (d ∷ ds) (b ∷ f) (suc p) h l k s =
    let m : meets d b ≡ true = h 0 (omega arith) in
    rw m
    (ap suc
    (wrong_at ds f p (λ (q : ℕ) t. h (suc q) (suc-le-suc t)) (le_of_suc-le-suc l) (le_of_suc-le-suc k)
    (⊎_elim (λ e. inl (drop_suc e)) (λ t. ⊎_elim (λ e. inr (inl (drop_suc e))) (λ m. inr (inr m)) t) s)))
  where
    drop_suc : {a b : ℕ} → suc a ≡ suc b → a ≡ b
    drop_suc e = omega arith

-- ---- what is demanded of byte b at place p
module _ (sh : Shape) (p b x : ℕ) where
  pub met_first : p < 8 → x ≡ get_or (first sh) p 0 → eqb x b ≡ meets (get_or (pattern sh) p any) b
  met_first h e = rw (demand_first sh p h, e)

  place : 8 ≤ p → p ≡ 8 + ((p - 8) / 16 * 16 + (p - 8) % 16)
  place h = omega arith

  pub row_of : 8 ≤ p → p < 8 + count sh * 16 → (p - 8) / 16 < count sh
  row_of h l = omega arith

  pub met_sum : 8 ≤ p → p < 8 + count sh * 16 → 8 ≤ (p - 8) % 16 → true ≡ meets (get_or (pattern sh) p any) b
  met_sum h l k =
      let e : p ≡ 8 + ((p - 8) / 16 * 16 + (8 + ((p - 8) % 16 - 8))) = omega arith in
      let d = ap (λ (q : ℕ). get_or (pattern sh) q any) e ∙ demand_sum sh ((p - 8) / 16) ((p - 8) % 16 - 8) (row_of h l) (omega arith) in
      rw d

  pub met_label : 8 ≤ p → p < 8 + count sh * 16 → (p - 8) % 16 < 8 → x ≡ get_or (label sh ((p - 8) / 16)) ((p - 8) % 16) 0
      → eqb x b ≡ meets (get_or (pattern sh) p any) b
  met_label h l k e =
      let d = ap (λ (q : ℕ). get_or (pattern sh) q any) (place h) ∙ demand_label sh ((p - 8) / 16) ((p - 8) % 16) (row_of h l) k in
      rw (d, e)

module _ (sh : Shape) (f : List ℕ) where
  -- every byte below p is right
  pub record Met (p : ℕ) : Type 0 where
    pub within : p ≤ 8 + count sh * 16
    pub inside : p ≤ length f
    pub right : (q : ℕ) → q < p → meets (get_or (pattern sh) q any) (get_or f q 0) ≡ true

  entries_in : 8 + count sh * 16 ≤ length (pattern sh)
  entries_in = let z : offset sh 0 ≡ 8 + count sh * 16 = unfold offset in refl in omega
      (arith, length_pattern sh, offset_up sh 0 (count sh) (omega arith))

  -- a wrong byte
  pub met_stop : (p : ℕ) → Met p → p < 8 + count sh * 16 → p < length f → meets (get_or (pattern sh) p any) (get_or f p 0) ≡ false
      → (some_wrong (pattern sh) f ≡ true) × (p ≡ first_wrong (pattern sh) f)
  met_stop p m l k t =
      let e = wrong_at (pattern sh) f p m.right (omega (arith, entries_in)) m.inside (inr (inr t)) in
      (grind (arith, nat_tests), e)

  -- ---- past the entries nothing is wrong but the length
  module _ (p : ℕ) (m : Met p) (last : min (8 + count sh * 16) (length f) ≤ p) where
    all_right : (q : ℕ) → q < length f → meets (get_or (pattern sh) q any) (get_or f q 0) ≡ true
    all_right q t = ⊎_elim (λ (h : p ≤ q). beyond h) (λ (h : q < p). m.right q h) (le_or_lt p q)
      where
        beyond : p ≤ q → meets (get_or (pattern sh) q any) (get_or f q 0) ≡ true
        beyond h =
            let e : q ≡ 8 + (count sh * 16 + (q - (8 + count sh * 16))) = omega arith in
            let d = ap (λ (k : ℕ). get_or (pattern sh) k any) e ∙ demand_body sh (q - (8 + count sh * 16)) in
            rw d

    pub met_length : (w : ℕ) → w ≡ offset sh (count sh) → first_wrong (pattern sh) f ≡ min w (length f)
    met_length w e =
        let long = length_pattern sh in
        sym
        (wrong_at (pattern sh) f (min w (length f)) (λ (q : ℕ) t. all_right q (omega arith)) (omega arith) (omega arith)
        (⊎_elim (λ (h : w ≤ length f). inl (omega arith)) (λ (h : length f < w). inr (inl (omega arith))) (le_or_lt w (length f))))

    pub met_whole : (w : ℕ) → w ≡ offset sh (count sh) → length f ≡ w → some_wrong (pattern sh) f ≡ false
    met_whole w e h = let k = met_length w e in let long = length_pattern sh in grind (arith, nat_tests)

    pub met_other : (w : ℕ) → w ≡ offset sh (count sh) → (length f ≡ w → ⊥) → some_wrong (pattern sh) f ≡ true
    met_other w e h = let k = met_length w e in let long = length_pattern sh in grind (arith, nat_tests)

-- for `is_met`, and for `first_wrong`
pub ruleset demanded = (met_first, met_sum, met_label)

pub ruleset scanned = (met_stop, met_length, met_whole, met_other)
