-- Rust's `<`, `<=` and `==` on floats: a total preorder on those that are not NaN, with `<` its strict part and `==` its two ways at once.
use mathlib.Core.Path.{◌≡◌, sym, ap, ◌∙◌}
use mathlib.Core.Logic.{◌⊎◌, inl, inr}
use Prim.Native.Nat.{ℕ, ◌≤◌, ◌<◌}
use native.Mathlib.Nat.{le_of_lt, le_antisymm}
use mathlib.Core.Bool.{Bool, true, false, not, ◌&&◌}
use lib.IntN.{pos}
use lib.Dec.{T, leb, ltb, leb→le, le→leb, nleb→lt, ltb→lt, lt→ltb, nltb→le}
use lib.Arith.{le→nltb, lt→nleb}
use lib.Ieee.{Float, nan, inf, fin, lt, eq, le, is_nan}
use lib.Ieee.Fits.{and_i, and_l, and_r}
-- laws of the library: what compares is no NaN, `<` and `==` give `<=`, `==` goes both ways, and `<=` and `<` make chains
pub use Rattle.std.proofs.lemmas.Float.{le_left, le_right, le_of_lt as lt_le, le_of_eq as eq_le, eq_flip as eq_sym}
pub use Rattle.std.proofs.lemmas.Float.{le_refl as le_self, le_trans as le_le, lt_of_lt_of_le as lt_le_lt, lt_of_le_of_lt as le_lt_lt}
use Rattle.floats.proofs.Tests.{same}
use Rattle.floats.proofs.Keys.{key, lt_key, le_key, le→, →le, →eq, Common, common}

opposite : (a b : ℕ) → not (ltb a b) ≡ leb b a
opposite a b = same (not (ltb a b)) (leb b a) (λ h. le→leb b a (nltb→le a b h)) (λ h. le→nltb a b (leb→le b a h))

opposite' : (a b : ℕ) → not (leb a b) ≡ ltb b a
opposite' a b = same (not (leb a b)) (ltb b a) (λ h. lt→ltb b a (nleb→lt a b h)) (λ h. lt→nleb a b (ltb→lt b a h))

-- ---- two floats
module _ (x y : Float) (n : T (not (is_nan x))) (m : T (not (is_nan y))) where
  c : Common x y y y
  c = common x y y y n m m m

  abbrev kx : ℕ
  kx = key c.scale c.bound x

  abbrev ky : ℕ
  ky = key c.scale c.bound y

  pub le_total : T (le x y) ⊎ T (le y x)
  le_total = go (leb kx ky) (leb→le kx ky) (nleb→lt kx ky)
    where
      go : (t : Bool) → (T t → kx ≤ ky) → (T (not t) → ky < kx) → T (le x y) ⊎ T (le y x)
      go true h k = inl (→le c.scale c.bound x y c.x_in c.y_in (h tt))
      go false h k = inr (→le c.scale c.bound y x c.y_in c.x_in (le_of_lt (k tt)))

  -- `<` is the opposite of `>=`
  pub not_lt : not (lt x y) ≡ le y x
  not_lt =
      ap not (lt_key c.scale c.bound x y c.x_in c.y_in)
      ∙ opposite kx ky
      ∙ sym (le_key c.scale c.bound y x c.y_in c.x_in)

  pub not_le : not (le x y) ≡ lt y x
  not_le =
      ap not (le_key c.scale c.bound x y c.x_in c.y_in)
      ∙ opposite' kx ky
      ∙ sym (lt_key c.scale c.bound y x c.y_in c.x_in)

pub le_antisym : (x y : Float) → T (le x y) → T (le y x) → T (eq x y)
le_antisym x y h k =
    let n = le_left x y h in
    let m = le_left y x k in
    let c = common x y y y n m m m in
    →eq c.scale c.bound x y c.x_in c.y_in
    (le_antisymm (le→ c.scale c.bound x y c.x_in c.y_in h) (le→ c.scale c.bound y x c.y_in c.x_in k))

-- `==` is `<=` both ways, at a NaN too
pub eq_both : (x y : Float) → eq x y ≡ (le x y && le y x)
eq_both x y =
    same (eq x y) (le x y && le y x) (λ h. and_i (le x y) (le y x) (eq_le x y h) (eq_le y x (eq_sym x y h)))
    (λ h. le_antisym x y (and_l (le x y) (le y x) h) (and_r (le x y) (le y x) h))

-- ---- the ends, and zero
pub bottom_le : (x : Float) → T (not (is_nan x)) → T (le (inf true) x)
unfolding le is_nan
bottom_le nan n = n
bottom_le (inf true) n = tt
bottom_le (inf false) n = tt
bottom_le (fin s m e) n = tt

pub zeros : (s t : Bool) → T (eq (fin s 0 (pos 0)) (fin t 0 (pos 0)))
unfolding eq
zeros true true = tt
zeros true false = tt
zeros false true = tt
zeros false false = tt
