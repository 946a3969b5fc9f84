-- A predecessor's rank as a number: the rule `ranks_at_least` is its order, and it falls with the value and the transition.
use Prim.Native.Nat.{ℕ, suc, ◌≤◌, zero-le, suc-le-suc}
use mathlib.Core.Path.{◌≡◌, sym, ◌∙◌, subst}
use mathlib.Core.Bool.{Bool, true, false, cond, not, ◌&&◌, ◌||◌}
use native.Mathlib.Nat.{not-suc-le-zero, le_of_suc-le-suc}
use lib.Dec.{T, leb, leb-zero, leb-suc-zero, leb-suc-suc}
use lib.Ieee.{Float, binary64, low, le}
use Rattle.floats.specs.Float.{◌⊕◌, minus_infinity, is_minus_infinity, capped}
use Rattle.floats.proofs.Keys.{Within, le_key, le→, →le}
use Rattle.floats.proofs.Order.{le_antisym, bottom_le}
use Rattle.floats.proofs.Finite.{minus_infinity_is}
use Rattle.floats.proofs.Round.{mid, rank}
use Rattle.floats.proofs.Add.{capped_num, add_in, add_num, add_bottom, add_mono}
use Rattle.best_path.specs.Best.{ranks_at_least}

-- a float's place in the order of f64, for one that has a place
unfoldable pub place : Float → ℕ
place x = rank binary64 x

pub Placed : Float → Type 0
Placed x = Within (low binary64) (mid binary64) x

module _ (x y : Float) where
  pub placed_sum : T (capped x) → T (capped y) → Placed (x ⊕ y)
  unfolding Placed
  placed_sum p q = add_in binary64 x y p q

  module _ (p : Placed x) (q : Placed y) where
    pub le_place : le x y ≡ leb (place x) (place y)
    unfolding Placed place
    le_place = le_key (low binary64) (mid binary64) x y p q

    pub le_to : T (le x y) → place x ≤ place y
    unfolding Placed place
    le_to h = le→ (low binary64) (mid binary64) x y p q h

    pub to_le : place x ≤ place y → T (le x y)
    unfolding Placed place
    to_le h = →le (low binary64) (mid binary64) x y p q h

-- by the test s for minus infinity and the sum x
abbrev ranked : Bool → Float → ℕ
ranked s x = cond s 0 (suc (place x))

-- the rank of a predecessor of value v and transition a
unfoldable pub rank_of : Float → Float → ℕ
rank_of v a = ranked (is_minus_infinity v) (v ⊕ a)

rule : (s t : Bool) (x y : Float) → Placed x → Placed y → (s || (not t && le x y)) ≡ leb (ranked s x) (ranked t y)
rule true t x y p q = sym (leb-zero (ranked t y))
rule false true x y p q = sym (leb-suc-zero (place x))
rule false false x y p q = le_place x y p q ∙ sym (leb-suc-suc (place x) (place y))

higher : (s t : Bool) (x y : Float) → Placed x → Placed y → (T s → T (le x y)) → ranked s x ≤ ranked t y → T (le x y)
higher true t x y p q f h = f tt
higher false true x y p q f h = absurd (not-suc-le-zero h)
higher false false x y p q f h = to_le x y p q (le_of_suc-le-suc h)

falls : (s t : Bool) (x y : Float) → Placed x → Placed y → (T t → T s) → T (le x y) → ranked s x ≤ ranked t y
falls true t x y p q f h = zero-le
falls false true x y p q f h = absurd (f tt)
falls false false x y p q f h = suc-le-suc (le_to x y p q h)

module _ (v a w c : Float) (V₀ : T (capped v)) (A₀ : T (capped a)) (W₀ : T (capped w)) (C₀ : T (capped c)) where
  pub rank_rule : ranks_at_least v a w c ≡ leb (rank_of v a) (rank_of w c)
  unfolding ranks_at_least rank_of
  rank_rule = rule (is_minus_infinity v) (is_minus_infinity w) (v ⊕ a) (w ⊕ c) (placed_sum v a V₀ A₀) (placed_sum w c W₀ C₀)

  pub rank_le : rank_of v a ≤ rank_of w c → T (le (v ⊕ a) (w ⊕ c))
  unfolding rank_of
  rank_le h =
      higher (is_minus_infinity v) (is_minus_infinity w) (v ⊕ a) (w ⊕ c) (placed_sum v a V₀ A₀) (placed_sum w c W₀ C₀)
      (λ (i : T (is_minus_infinity v)). rw (minus_infinity_is v i, add_bottom binary64 a A₀) (bottom_le (w ⊕ c) (add_num binary64 w c W₀ C₀)))
      h

  pub rank_falls : T (le v w) → T (le a c) → rank_of v a ≤ rank_of w c
  unfolding rank_of
  rank_falls h k =
      falls (is_minus_infinity v) (is_minus_infinity w) (v ⊕ a) (w ⊕ c) (placed_sum v a V₀ A₀) (placed_sum w c W₀ C₀)
      (λ (i : T (is_minus_infinity w)).
      le_antisym v minus_infinity (subst (λ (z : Float). T (le v z)) (minus_infinity_is w i) h) (bottom_le v (capped_num v V₀)))
      (add_mono binary64 v w a c W₀ C₀ h k)
