-- The labels of a file give its shape: where they agree, the shapes do.
use Prim.Native.Nat.{ℕ, suc, ◌+◌, ◌*◌, ◌/◌, ◌^◌, ◌≤◌, ◌<◌}
use mathlib.Core.Path.{◌≡◌, refl, sym, ap, ◌∙◌}
use mathlib.Core.Bool.{Bool, true, false, cond}
use mathlib.Core.Logic.{⊎_elim}
use native.Mathlib.Nat.{mul-le-mul, mul-suc, suc-mul, mul-div_cancel_left}
use native.Mathlib.Omega.{arith}
use lib.ListN.{drop}
use lib.Seq.{drop_at}
use Rattle.model.specs.declared.Shape.{Shape}
use Rattle.lists.proofs.Parts.{le_or_lt}
use Rattle.little_endian.specs.Bytes.{little}
use Rattle.little_endian.proofs.Bytes.{length_little, little_one}
use Rattle.model.specs.Accepted.{InRange}
use Rattle.file_layout.proofs.Bounds.{shape_same}
use Rattle.file_layout.specs.Layout.{count, label, offset, size}

-- a square has one root
square_up : (a b : ℕ) → a < b → a * a ≡ b * b → ⊥
square_up a b h e = let m : suc a * suc a ≤ b * b = mul-le-mul h h in omega (arith, mul-suc (suc a) a, suc-mul a a)

cancel : (s a b : ℕ) → 0 < s → s * a ≡ s * b → a ≡ b
cancel s a b h e = sym (mul-div_cancel_left a h) ∙ ap (λ (k : ℕ). k / s) e ∙ mul-div_cancel_left b h

square_one : (a b : ℕ) → a * a ≡ b * b → a ≡ b
square_one a b e =
    ⊎_elim
    (λ (h : a ≤ b). ⊎_elim (λ (k : b ≤ a). omega arith) (λ (k : a < b). absurd (square_up a b k e)) (le_or_lt b a))
    (λ (h : b < a). absurd (square_up b a h (sym e)))
    (le_or_lt a b)

module _ (sh : Shape) (r : InRange sh) where
  offset_small : offset sh 2 < 256 ^ 4
  unfolding offset size
  offset_small =
      let a : sh.states * sh.states ≤ 64 * 64 = mul-le-mul r.few_states r.few_states in
      let b : sh.states * sh.symbols ≤ 64 * 256 = mul-le-mul r.few_states r.few_symbols in
      let c : count sh ≤ 4 = few sh.ends in
      omega arith
    where
      few : (b : Bool) → cond b 4 3 ≤ 4
      few true = omega arith
      few false = omega arith

  offset_small_0 : offset sh 0 < 256 ^ 4
  offset_small_0 = let h = offset_small in let z : offset sh 2 ≡ offset sh 0 + 8 * size sh 0 + 8 * size sh 1 = unfold offset in refl in omega arith

  offset_small_1 : offset sh 1 < 256 ^ 4
  offset_small_1 = let h = offset_small in let z : offset sh 2 ≡ offset sh 1 + 8 * size sh 1 = unfold offset in refl in omega arith

label_offset : (a b : Shape) (i : ℕ) → offset a i < 256 ^ 4 → offset b i < 256 ^ 4 → label a i ≡ label b i → offset a i ≡ offset b i
unfolding label
label_offset a b i h k e =
    little_one 4 (offset a i) (offset b i) h k
    (sym (drop_at (little 4 i) (little 4 (offset a i)) 4 (length_little 4 i)) ∙ ap (drop 4) e ∙ drop_at (little 4 i) (little 4 (offset b i)) 4
    (length_little 4 i))

ends_one : (a b : Bool) → ◌≡◌ {A = ℕ} (cond a 4 3) (cond b 4 3) → a ≡ b
ends_one true true e = refl
ends_one true false e = absurd (omega arith)
ends_one false true e = absurd (omega arith)
ends_one false false e = refl

-- three offsets give the number of entries, S·S and S·M
offsets_one : (a b : Shape) → 0 < a.states → offset a 0 ≡ offset b 0 → offset a 1 ≡ offset b 1 → offset a 2 ≡ offset b 2 → a ≡ b
unfolding offset size
offsets_one a b h e0 e1 e2 =
    let q : a.states * a.states ≡ b.states * b.states = omega arith in
    let m : a.states * a.symbols ≡ b.states * b.symbols = omega arith in
    let st : a.states ≡ b.states = square_one a.states b.states q in
    let sy : a.symbols ≡ b.symbols = cancel a.states a.symbols b.symbols h (m ∙ ap (λ (k : ℕ). k * b.symbols) (sym st)) in
    shape_same a b st sy (ends_one a.ends b.ends (omega arith))

pub shape_one : (a b : Shape) → InRange a → InRange b → ((i : ℕ) → i < 3 → label a i ≡ label b i) → a ≡ b
shape_one a b r s h =
    offsets_one a b r.some_state
    (label_offset a b 0 (offset_small_0 a r) (offset_small_0 b s) (h 0 (omega arith)))
    (label_offset a b 1 (offset_small_1 a r) (offset_small_1 b s) (h 1 (omega arith)))
    (label_offset a b 2 (offset_small a r) (offset_small b s) (h 2 (omega arith)))
