-- What is found in the entries that are left after good blocks is what the whole table has.
use Prim.Native.Nat.{ℕ, ◌+◌, ◌-◌, ◌*◌}
use mathlib.Core.Path.{◌≡◌, refl, sym, ap, ap₂, ◌∙◌}
use mathlib.Core.Bool.{Bool, true, false, cond, not}
use mathlib.Core.List.{List}
use native.Mathlib.Nat.{le_of_eq}
use native.Mathlib.Omega.{arith}
use lib.Dec.{ltb}
use lib.ListN.{length, take, drop, length-drop}
use lib.Seq.{take_all}
use lib.Ieee.{Float}
use borrow.Author.Tests.{lt-ltb, le-ltb, ltb-true, ltb-false}
use Rattle.std.specs.Prelude.{Option, Some, None}
use Rattle.std.specs.List.{position}
use Rattle.lists.specs.Lists.{first_bad}
use Rattle.lists.proofs.Position.{place_is}
use Rattle.model.specs.Good.{good, good_end}
use Rattle.checks.specs.inner.Parts.{GoodBlocks}

-- a place, counted from k places further to the front
abbrev pub further : ℕ → Option ℕ → Option ℕ
further k None = None
further k (Some p) = Some (k + p)

shifted : (k v n : ℕ) → cond (ltb (k + v) (k + n)) (Some (k + v)) None ≡ further k (cond (ltb v n) (Some v) None)
shifted k v n = go (ltb v n) refl
  where
    go : (b : Bool) → ltb v n ≡ b → cond (ltb (k + v) (k + n)) (Some (k + v)) None ≡ further k (cond b (Some v) None)
    go true e = let h = ltb-true v n e in rw (lt-ltb (k + v) (k + n) (omega arith)) refl
    go false e = let h = ltb-false v n e in rw (le-ltb (k + v) (k + n) (omega arith)) refl

module _ (xs : List Float) (n : ℕ) (blocks : GoodBlocks xs n) where
  abbrev left : List Float
  left = take (length xs - n * 128) (drop (n * 128) xs)

  all_left : left ≡ drop (n * 128) xs
  all_left = take_all (length xs - n * 128) (drop (n * 128) xs) (le_of_eq (length-drop (n * 128) xs))

  counted : first_bad good xs ≡ n * 128 + first_bad good left
  counted = blocks.rest ∙ ap (λ (ys : List Float). n * 128 + first_bad good ys) (sym all_left)

  size : length xs ≡ n * 128 + length left
  size = omega (arith, blocks.within, ap length all_left, length-drop (n * 128) xs)

  pub after_blocks : (o : Option ℕ) → o ≡ position (λ (x : Float). not (good_end true x)) left
      → further (n * 128) o ≡ position (λ (x : Float). not (good x)) xs
  unfolding good_end
  after_blocks o e =
      ap (further (n * 128)) (e ∙ place_is good left)
      ∙ sym (shifted (n * 128) (first_bad good left) (length left))
      ∙ ap₂ (λ (v m : ℕ). cond (ltb v m) (Some v) None) (sym counted) (sym size)
      ∙ sym (place_is good xs)
