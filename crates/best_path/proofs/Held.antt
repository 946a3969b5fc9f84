-- One predecessor after the other is held against the best so far: what is known of the best after k of them, and at the end.
use Rattle.std.proofs.Common.{◌≡◌, ◌<◌, ℕ, ◌+◌, Bool, true, cond, not, ◌&&◌, ◌||◌, eqb, arith}
use Rattle.std.proofs.lemmas.Bool.Decides.{nat_tests}
use Rattle.std.specs.Prelude.{Float}
use Rattle.std.specs.Float.Ieee.{le}
use Rattle.floats.specs.Float.{◌⊕◌, is_minus_infinity}
use Rattle.best_path.specs.Best.{best_of, ranks_at_least, predecessor}
use Rattle.best_path.proofs.Turn.{best_none, best_more}

-- of the predecessors of values v and transitions a
module _ (v a : ℕ → Float) where
  -- k ranks at least as high as b
  abbrev rule : ℕ → ℕ → Bool
  rule b k = ranks_at_least (v b) (a b) (v k) (a k)

  -- w is the best below k, where there is one, and s is its sum; low says that it is at minus infinity, or that there is none
  pub record Leading (k w : ℕ) (s : Float) (low : Bool) : Type 0 where
    pub is : 0 < k → w ≡ best_of rule k
    pub sum : 0 < k → s ≡ v w ⊕ a w
    pub bottom : low ≡ (eqb k 0 || is_minus_infinity (v w))

  pub leading_none : (w : ℕ) (s : Float) → Leading 0 w s true
  leading_none w s = record { is = λ h. omega arith; sum = λ h. absurd (omega arith); bottom = grind (arith, nat_tests) }

  -- predecessor k has the value x and the transition c, and is held against w: what comes of it
  pub leading_more : (k w w' : ℕ) (s s' x c : Float) (low low' : Bool) → Leading k w s low → x ≡ v k → c ≡ a k
      → (let t = low || (not (is_minus_infinity x) && le s (x ⊕ c)) in
      (w' ≡ cond t k w) × (s' ≡ cond t (x ⊕ c) s) × (low' ≡ (low && is_minus_infinity x)))
      → Leading (k + 1) w' s' low'
  unfolding ranks_at_least
  leading_more k w w' s s' x c low low' h e f g =
      record {
        is = λ z. grind (arith, nat_tests, best_none rule, best_more rule k);
        sum = λ z. grind (arith, nat_tests);
        bottom = grind (arith, nat_tests);
      }

  pub leading_all : (n w : ℕ) (s : Float) (low : Bool) → 0 < n → Leading n w s low → let p = predecessor n v a in (w ≡ p) × (s ≡ v p ⊕ a p)
  unfolding predecessor
  leading_all n w s low z h = (h.is z, grind (arith, h.sum z, h.is z))
