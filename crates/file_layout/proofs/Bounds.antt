-- How large a file gets: every size and offset is far below a word's range.
use Prim.Native.Nat.{ℕ, zero, suc, ◌+◌, ◌*◌, ◌≤◌}
use mathlib.Core.Path.{◌≡◌, refl}
use mathlib.Core.Bool.{Bool, true, false, cond}
use native.Mathlib.Nat.{mul-le-mul}
use native.Mathlib.Numerals.{add-one}
use native.Mathlib.Omega.{arith}
use Rattle.model.specs.declared.Shape.{Shape}
use Rattle.model.specs.Accepted.{InRange}
use Rattle.file_layout.specs.Layout.{count, offset, size}

pub count_low : (sh : Shape) → 3 ≤ count sh
count_low sh = go sh.ends
  where
    go : (b : Bool) → 3 ≤ cond b 4 3
    go true = omega arith
    go false = omega arith

pub count_high : (sh : Shape) → count sh ≤ 4
count_high sh = go sh.ends
  where
    go : (b : Bool) → cond b 4 3 ≤ 4
    go true = omega arith
    go false = omega arith

module _ (sh : Shape) (r : InRange sh) where
  pub square_small : sh.states * sh.states ≤ 4096
  square_small = mul-le-mul r.few_states r.few_states

  pub product_small : sh.states * sh.symbols ≤ 16384
  product_small = mul-le-mul r.few_states r.few_symbols

  pub size_small : (i : ℕ) → size sh i ≤ 16384
  unfolding size
  size_small zero = let h = square_small in omega arith
  size_small (suc zero) = product_small
  size_small (suc (suc i)) = let h = r.few_states in omega arith

  pub offset_small : (i : ℕ) → offset sh i ≤ 72 + 131072 * i
  unfolding offset
  offset_small zero = let h = count_high sh in omega arith
  offset_small (suc i) = let h = offset_small i in let s = size_small i in omega arith

-- a loop that adds up the sizes
module _ (sh : Shape) where
  pub offset_none : 8 + count sh * 16 ≡ offset sh 0
  unfolding offset
  offset_none = refl

  pub offset_more : (at k s : ℕ) → at ≡ offset sh k → s ≡ size sh k → at + 8 * s ≡ offset sh (k + 1)
  unfolding offset
  offset_more at k s e h = rw (add-one k, ← e, ← h)

-- two shapes with the same fields
pub shape_same : (a b : Shape) → a.states ≡ b.states → a.symbols ≡ b.symbols → a.ends ≡ b.ends → a ≡ b
shape_same a b p q r = λ i. record { states = p i; symbols = q i; ends = r i }

-- for `offset`
pub ruleset offsets = (size_small, offset_small, offset_more, offset_none)
