-- Rust's `-` on floats, by the order: a difference grows with what is taken from and falls with what is taken.
use mathlib.Core.Path.{sym, ap, ◌∙◌}
use native.Mathlib.Omega.{arith}
use mathlib.Core.Bool.{false}
use lib.Dec.{T}
use lib.Ieee.{Float, nan, inf, fin, Format, low, neg, add, sub, eq, le}
use lib.Ieee.Scale.{finite}
use Rattle.floats.specs.Float.{nought, capped}
use Rattle.floats.proofs.Keys.{le→, →le, →eq, common}
use Rattle.floats.proofs.Order.{le_left, le_right, le_self, le_le, eq_le, eq_sym}
use Rattle.floats.proofs.Round.{mid, settle, settle_zero, neg_in, neg_key}
use Rattle.floats.proofs.Add.{add_key, add_in, add_mono, capped_num, zero_in, zero_key, mid_pos}

pub neg_finite : (x : Float) → T (finite x) → T (finite (neg x))
unfolding neg
neg_finite nan p = p
neg_finite (inf s) p = p
neg_finite (fin s m e) p = tt

pub finite_capped : (x : Float) → T (finite x) → T (capped x)
finite_capped nan p = p
finite_capped (inf s) p = absurd p
finite_capped (fin s m e) p = tt

pub neg_anti : (x y : Float) → T (le x y) → T (le (neg y) (neg x))
neg_anti x y h =
    let m = le_left x y h in
    let n = le_right x y h in
    let c = common x y y y m n n n in
    let l = c.scale in
    let b = c.bound in
    →le l b (neg y) (neg x) (neg_in l b y c.y_in) (neg_in l b x c.x_in)
    (omega (arith, neg_key l b x c.x_in, neg_key l b y c.y_in, le→ l b x y c.x_in c.y_in h))

-- x - x is 0
pub sub_same : (f : Format) (x : Float) → T (finite x) → T (eq (sub f x x) nought)
unfolding sub
sub_same f x g =
    let n = capped_num x (finite_capped x g) in
    let c = common x x x x n n n n in
    let l = c.scale in
    let b = c.bound in
    →eq (low f) (mid f) (add f x (neg x)) nought (add_in f x (neg x) (finite_capped x g) (finite_capped (neg x) (neg_finite x g)))
    (zero_in (low f) (mid f) false (mid_pos f))
    (add_key f l b x (neg x) g (neg_finite x g) c.x_in (neg_in l b x c.x_in)
    ∙ ap (settle f l b) (omega (arith, neg_key l b x c.x_in))
    ∙ settle_zero f l b
    ∙ sym (zero_key (low f) (mid f) false))

-- a difference grows with what is taken from, and falls with what is taken
pub sub_mono : (f : Format) (x x' y y' : Float) → T (capped x') → T (finite y) → T (finite y') → T (le x x') → T (le y' y) → T (le (sub f x y) (sub f x' y'))
unfolding sub
sub_mono f x x' y y' c g g' h k = add_mono f x x' (neg y) (neg y') c (finite_capped (neg y') (neg_finite y' g')) h (neg_anti y' y k)

-- x - p ≤ 0 for x ≤ p
pub sub_nonpos : (f : Format) (x p : Float) → T (finite p) → T (le x p) → T (le (sub f x p) nought)
sub_nonpos f x p g h =
    le_le (sub f x p) (sub f p p) nought (sub_mono f x p p p (finite_capped p g) g g h (le_self p (le_right x p h))) (eq_le (sub f p p) nought (sub_same f p g))

-- 0 ≤ x - p for p ≤ x
pub sub_nonneg : (f : Format) (x p : Float) → T (finite p) → T (capped x) → T (le p x) → T (le nought (sub f x p))
sub_nonneg f x p g c h =
    le_le nought (sub f p p) (sub f x p) (eq_le nought (sub f p p) (eq_sym (sub f p p) nought (sub_same f p g)))
    (sub_mono f p x p p c g g h (le_self p (le_left p x h)))
