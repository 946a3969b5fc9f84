-- Rust's `+` and `-` on floats, by the order: a sum grows with each operand.
use mathlib.Core.Path.{◌≡◌, refl, sym, ap, ap₂, ◌∙◌, subst}
use Prim.Native.Nat.{ℕ, suc, ◌+◌, ◌-◌, ◌*◌, ◌^◌, ◌≤◌, ◌<◌}
use native.Mathlib.Nat.{le_trans, le_of_eq, le_of_lt, add-mul, mul_comm, mul-sub, mul-pos, add-le-add, add_comm as add-comm-ℕ}
use native.Mathlib.Nat.{not-le_of_lt, zero-mul, lt_of_le_of_lt}
use native.Mathlib.Omega.{arith}
use mathlib.Core.Bool.{Bool, true, false, not, ◌&&◌, beq, cond}
use lib.IntN.{pos}
use lib.Dec.{T, ltb, ltb→lt, nltb→le}
use lib.Pow.{pow_pos}
use lib.Ieee.{Float, nan, inf, fin, Format, low, emax, up, down, round, sum, add, eq, le, fits, is_nan}
use lib.Ieee.Fits.{down_pos, add-fits}
use lib.Ieee.Scale.{round_same, finite}
use Rattle.floats.specs.Float.{nought, capped}
use Rattle.floats.proofs.Keys.{steps, key, Within, left_is, right_is, cross_ltb, le→, →le, →eq, common}
use Rattle.floats.proofs.Order.{le_left, le_right, bottom_le, le_self, le_le, eq_le, eq_sym}
use Rattle.floats.proofs.Round.{mid, rank, rounded, fit_in, round_num, fit_kept, no_steps, settle, settle_pos, settle_neg, settle_mono}

sub_mul : (a b k : ℕ) → (a - b) * k ≡ a * k - b * k
sub_mul a b k = mul_comm (a - b) k ∙ mul-sub k a b ∙ ap₂ ◌-◌ (mul_comm k a) (mul_comm k b)

-- ---- the sum of ±a / c and ±b / c, which are u and v steps of 2 ^ -l
module _ (f : Format) (l k a b c u v : ℕ) (C : 0 < c) (p : a * 2 ^ l ≡ u * c) (q : b * 2 ^ l ≡ v * c) (U : u < k) (W : v < k) where
  plus : (s : Bool) → round f s (a + b) c ≡ round f s (u + v) (2 ^ l)
  plus s = round_same f s (a + b) c (u + v) (2 ^ l) C (pow_pos l) (add-mul a b (2 ^ l) ∙ ap₂ ◌+◌ p q ∙ sym (add-mul u v c))

  less : (s : Bool) → round f s (a - b) c ≡ round f s (u - v) (2 ^ l)
  less s = round_same f s (a - b) c (u - v) (2 ^ l) C (pow_pos l) (sub_mul a b (2 ^ l) ∙ ap₂ ◌-◌ p q ∙ sym (sub_mul u v c))

  more : (s : Bool) → round f s (b - a) c ≡ round f s (v - u) (2 ^ l)
  more s = round_same f s (b - a) c (v - u) (2 ^ l) C (pow_pos l) (sub_mul b a (2 ^ l) ∙ ap₂ ◌-◌ q p ∙ sym (sub_mul v u c))

  up_is : (n z : ℕ) → k + k ≤ n → n - (k + k) ≡ z → rounded f l false z ≡ settle f l k n
  up_is n z h e = ap (rounded f l false) (sym e) ∙ sym (settle_pos f l k n h)

  down_is : (n z : ℕ) → n ≤ k + k → k + k - n ≡ z → rounded f l true z ≡ settle f l k n
  down_is n z h e = ap (rounded f l true) (sym e) ∙ sym (settle_neg f l k n h)

  below : T (ltb a b) → u < v
  below h = ltb→lt u v (subst T (cross_ltb c (2 ^ l) C (pow_pos l) a b u v p q) h)

  not_below : T (not (ltb a b)) → v ≤ u
  not_below h = nltb→le u v (subst (λ (z : Bool). T (not z)) (cross_ltb c (2 ^ l) C (pow_pos l) a b u v p q) h)

  not_above : T (not (ltb b a)) → u ≤ v
  not_above h = nltb→le v u (subst (λ (z : Bool). T (not z)) (cross_ltb c (2 ^ l) C (pow_pos l) b a v u q p) h)

  sum_key : (s t : Bool) → rank f (sum f s a t b c) ≡ settle f l k (cond s (k - u) (k + u) + cond t (k - v) (k + v))
  unfolding sum
  sum_key false false = ap (rank f) (plus false) ∙ up_is (k + u + (k + v)) (u + v) (omega arith) (omega arith)
  sum_key true true = ap (rank f) (plus true) ∙ down_is (k - u + (k - v)) (u + v) (omega arith) (omega arith)
  sum_key false true = go (ltb a b) below not_below
    where
      go : (t : Bool) → (T t → u < v) → (T (not t) → v ≤ u)
          → rank f (cond t (round f true (b - a) c) (round f false (a - b) c)) ≡ settle f l k (k + u + (k - v))
      go true h g = let i = h tt in ap (rank f) (more true) ∙ down_is (k + u + (k - v)) (v - u) (omega arith) (omega arith)
      go false h g = let i = g tt in ap (rank f) (less false) ∙ up_is (k + u + (k - v)) (u - v) (omega arith) (omega arith)
  sum_key true false = go (ltb a b) (ltb b a) below not_below not_above
    where
      go : (t r : Bool) → (T t → u < v) → (T (not t) → v ≤ u) → (T (not r) → u ≤ v)
          → rank f (cond t (round f false (b - a) c) (round f r (a - b) c)) ≡ settle f l k (k - u + (k + v))
      go true r h g j = let i = h tt in ap (rank f) (more false) ∙ up_is (k - u + (k + v)) (v - u) (omega arith) (omega arith)
      go false true h g j = let i = g tt in ap (rank f) (less true) ∙ down_is (k - u + (k + v)) (u - v) (omega arith) (omega arith)
      go false false h g j = let i = g tt in let m = j tt in ap (rank f) (less false) ∙ up_is (k - u + (k + v)) (u - v) (omega arith) (omega arith)

sum_unlike : (f : Format) (a b c : ℕ) → sum f false a true b c ≡ sum f true b false a c
unfolding sum
sum_unlike f a b c = go (ltb a b) (ltb b a) (ltb→lt a b) (nltb→le a b) (ltb→lt b a) (nltb→le b a)
  where
    go : (r q : Bool) → (T r → a < b) → (T (not r) → b ≤ a) → (T q → b < a) → (T (not q) → a ≤ b)
        → cond r (round f true (b - a) c) (round f false (a - b) c) ≡ cond q (round f false (a - b) c) (round f r (b - a) c)
    go true true h i j k = absurd (not-le_of_lt (h tt) (le_of_lt (j tt)))
    go true false h i j k = refl
    go false true h i j k = refl
    go false false h i j k = let x = i tt in let y = k tt in ap (λ (z : ℕ). round f false z c) (omega arith)

sum_comm : (f : Format) (s : Bool) (a : ℕ) (t : Bool) (b c : ℕ) → sum f s a t b c ≡ sum f t b s a c
unfolding sum
sum_comm f false a false b c = ap (λ (z : ℕ). round f false z c) (add-comm-ℕ a b)
sum_comm f true a true b c = ap (λ (z : ℕ). round f true z c) (add-comm-ℕ a b)
sum_comm f false a true b c = sum_unlike f a b c
sum_comm f true a false b c = sym (sum_unlike f b a c)

-- the order of the operands does not matter: the same value, zero's sign included
pub add_comm : (f : Format) (x y : Float) → add f x y ≡ add f y x
unfolding add
add_comm f nan nan = refl
add_comm f nan (inf t) = refl
add_comm f nan (fin t n d) = refl
add_comm f (inf s) nan = refl
add_comm f (inf true) (inf true) = refl
add_comm f (inf true) (inf false) = refl
add_comm f (inf false) (inf true) = refl
add_comm f (inf false) (inf false) = refl
add_comm f (inf s) (fin t n d) = refl
add_comm f (fin s m e) nan = refl
add_comm f (fin s m e) (inf t) = refl
add_comm f (fin s m e) (fin t n d) =
    sum_comm f s (m * up e * down d) t (n * up d * down e) (down e * down d)
    ∙ ap (sum f t (n * up d * down e) s (m * up e * down d)) (mul_comm (down e) (down d))

-- ---- a sum of two finite values, by their keys
pub add_key : (f : Format) (l b : ℕ) (x y : Float) → T (finite x) → T (finite y) → Within l b x → Within l b y
    → rank f (add f x y) ≡ settle f l b (key l b x + key l b y)
unfolding add key
add_key f l b nan y g h p q = absurd g
add_key f l b (inf s) y g h p q = absurd g
add_key f l b (fin s m e) nan g h p q = absurd h
add_key f l b (fin s m e) (inf t) g h p q = absurd h
add_key f l b (fin s m e) (fin t n d) g h p q =
    sum_key f l b (m * up e * down d) (n * up d * down e) (down e * down d) (steps l m e) (steps l n d)
    (mul-pos (down_pos e) (down_pos d)) (left_is l b m e d p.0) (right_is l b n d e q.0) p.1 q.1 s t

-- ---- the sum of values that are neither NaN nor +∞ is no NaN
sum_num : (f : Format) (s : Bool) (a : ℕ) (t : Bool) (b c : ℕ) → T (not (is_nan (sum f s a t b c)))
unfolding sum
sum_num f s a t b c =
    pick (beq s t) (round f s (a + b) c) (cond (ltb a b) (round f t (b - a) c) (round f (s && ltb b a) (a - b) c))
    (round_num f s (a + b) c) (pick (ltb a b) (round f t (b - a) c) (round f (s && ltb b a) (a - b) c) (round_num f t (b - a) c)
    (round_num f (s && ltb b a) (a - b) c))
  where
    pick : (r : Bool) (x y : Float) → T (not (is_nan x)) → T (not (is_nan y)) → T (not (is_nan (cond r x y)))
    pick true x y h k = h
    pick false x y h k = k

pub add_num : (f : Format) (x y : Float) → T (capped x) → T (capped y) → T (not (is_nan (add f x y)))
unfolding add is_nan
add_num f nan y p q = absurd p
add_num f (inf true) nan p q = absurd q
add_num f (inf true) (inf true) p q = tt
add_num f (inf true) (inf false) p q = q
add_num f (inf false) y p q = absurd p
add_num f (inf true) (fin t n d) p q = tt
add_num f (fin s m e) nan p q = absurd q
add_num f (fin s m e) (inf t) p q = tt
add_num f (fin s m e) (fin t n d) p q = sum_num f s (m * up e * down d) t (n * up d * down e) (down e * down d)

pub capped_num : (x : Float) → T (capped x) → T (not (is_nan x))
unfolding is_nan
capped_num nan p = p
capped_num (inf s) p = tt
capped_num (fin s m e) p = tt

pub add_bottom : (f : Format) (y : Float) → T (capped y) → add f (inf true) y ≡ inf true
unfolding add
add_bottom f nan p = absurd p
add_bottom f (inf true) p = refl
add_bottom f (inf false) p = absurd p
add_bottom f (fin t n d) p = refl

bottom_add : (f : Format) (x : Float) → T (capped x) → add f x (inf true) ≡ inf true
bottom_add f x p = add_comm f x (inf true) ∙ add_bottom f x p

-- what lies below a value that is neither NaN nor +∞ is neither
pub capped_le : (x y : Float) → T (le x y) → T (capped y) → T (capped x)
unfolding le
capped_le nan y h p = h
capped_le (inf true) y h p = tt
capped_le (inf false) nan h p = h
capped_le (inf false) (inf true) h p = h
capped_le (inf false) (inf false) h p = p
capped_le (inf false) (fin t n d) h p = h
capped_le (fin s m e) y h p = tt

-- ---- a sum grows with each operand
pub add_in : (f : Format) (x y : Float) → T (capped x) → T (capped y) → Within (low f) (mid f) (add f x y)
add_in f x y p q = fit_in f (add f x y) (add-fits f x y) (add_num f x y p q)

finite_above : (x y : Float) → T (finite x) → T (le x y) → T (capped y) → T (finite y)
unfolding le
finite_above x nan h k c = absurd c
finite_above nan (inf t) h k c = absurd h
finite_above (inf s) (inf t) h k c = absurd h
finite_above (fin s m e) (inf true) h k c = k
finite_above (fin s m e) (inf false) h k c = absurd c
finite_above x (fin t n d) h k c = tt

add_mono_finite : (f : Format) (x x' y y' : Float) → T (finite x) → T (finite y) → T (capped x') → T (capped y') → T (le x x')
    → T (le y y') → T (le (add f x y) (add f x' y'))
add_mono_finite f x x' y y' p q p' q' h k =
    let c = common x x' y y' (le_left x x' h) (le_right x x' h) (le_left y y' k) (le_right y y' k) in
    let l = c.scale in
    let b = c.bound in
    →le (low f) (mid f) (add f x y) (add f x' y') (add_in f x y (capped_le x x' h p') (capped_le y y' k q')) (add_in f x' y' p' q')
    (le_trans (le_of_eq (add_key f l b x y p q c.x_in c.z_in))
    (le_trans (settle_mono f l b (key l b x + key l b y) (key l b x' + key l b y')
    (add-le-add (le→ l b x x' c.x_in c.y_in h) (le→ l b y y' c.z_in c.w_in k)))
    (le_of_eq (sym (add_key f l b x' y' (finite_above x x' p h p') (finite_above y y' q k q') c.y_in c.w_in)))))

pub add_mono : (f : Format) (x x' y y' : Float) → T (capped x') → T (capped y') → T (le x x') → T (le y y') → T (le (add f x y) (add f x' y'))
unfolding is_nan
add_mono f nan x' y y' p q h k = absurd (le_left nan x' h)
add_mono f (inf true) x' y y' p q h k =
    subst (λ (z : Float). T (le z (add f x' y'))) (sym (add_bottom f y (capped_le y y' k q)))
    (bottom_le (add f x' y') (add_num f x' y' p q))
add_mono f (inf false) x' y y' p q h k = absurd (capped_le (inf false) x' h p)
add_mono f (fin s m e) x' nan y' p q h k = absurd (le_left nan y' k)
add_mono f (fin s m e) x' (inf true) y' p q h k =
    subst (λ (z : Float). T (le z (add f x' y'))) (sym (bottom_add f (fin s m e) tt)) (bottom_le (add f x' y') (add_num f x' y' p q))
add_mono f (fin s m e) x' (inf false) y' p q h k = absurd (capped_le (inf false) y' k q)
add_mono f (fin s m e) x' (fin t n d) y' p q h k = add_mono_finite f (fin s m e) x' (fin t n d) y' tt tt p q h k

-- ---- 0 as an operand
-- zero's key is the middle one, whatever the scale
pub zero_in : (l b : ℕ) (s : Bool) → 0 < b → Within l b (fin s 0 (pos 0))
zero_in l b s h = (ap (λ (z : ℕ). z * 1) (no_steps l (pos 0)) ∙ sym (zero-mul (2 ^ l)), lt_of_le_of_lt (le_of_eq (no_steps l (pos 0))) h)

pub zero_key : (l b : ℕ) (s : Bool) → key l b (fin s 0 (pos 0)) ≡ b
unfolding key
zero_key l b true = omega (arith, no_steps l (pos 0))
zero_key l b false = omega (arith, no_steps l (pos 0))

pub mid_pos : (f : Format) → 0 < mid f
unfolding mid
mid_pos f = pow_pos (low f + suc (emax f))

-- the rank of a value that fits comes back from a sum with zero
settle_fit : (f : Format) (x : Float) → T (finite x) → T (fits f x) → settle f (low f) (mid f) (rank f x + mid f) ≡ rank f x
unfolding key
settle_fit f nan g h = absurd g
settle_fit f (inf s) g h = absurd g
settle_fit f (fin false m e) g h =
    let u = steps (low f) m e in
    settle_pos f (low f) (mid f) (mid f + u + mid f) (omega arith) ∙ ap (rounded f (low f) false) (omega arith) ∙ fit_kept f false m e h false
settle_fit f (fin true m e) g h =
    let u = steps (low f) m e in
    let b : u < mid f = (fit_in f (fin true m e) h (unfold is_nan in tt)).1 in
    settle_neg f (low f) (mid f) (mid f - u + mid f) (omega arith) ∙ ap (rounded f (low f) true) (omega arith) ∙ fit_kept f true m e h true

-- x + 0 is x
add_zero_finite : (f : Format) (x : Float) (t : Bool) → T (finite x) → T (fits f x) → T (capped x) → T (eq (add f x (fin t 0 (pos 0))) x)
add_zero_finite f x t g h c =
    let i = fit_in f x h (capped_num x c) in
    →eq (low f) (mid f) (add f x (fin t 0 (pos 0))) x (add_in f x (fin t 0 (pos 0)) c tt) i
    (add_key f (low f) (mid f) x (fin t 0 (pos 0)) g tt i (zero_in (low f) (mid f) t (mid_pos f))
    ∙ ap (λ (z : ℕ). settle f (low f) (mid f) (rank f x + z)) (zero_key (low f) (mid f) t)
    ∙ settle_fit f x g h)

pub add_nought : (f : Format) (x : Float) (t : Bool) → T (fits f x) → T (not (is_nan x)) → T (eq (add f x (fin t 0 (pos 0))) x)
unfolding add eq is_nan
add_nought f nan t h n = n
add_nought f (inf true) t h n = tt
add_nought f (inf false) t h n = tt
add_nought f (fin s m e) t h n = add_zero_finite f (fin s m e) t tt h tt

-- x + y ≥ x for y ≥ 0, and x + y ≤ x for y ≤ 0
pub add_ge : (f : Format) (x y : Float) → T (fits f x) → T (capped x) → T (le nought y) → T (capped y) → T (le x (add f x y))
add_ge f x y h c k d =
    le_le x (add f x nought) (add f x y)
    (eq_le x (add f x nought) (eq_sym (add f x nought) x (add_nought f x false h (capped_num x c))))
    (add_mono f x x nought y c d (le_self x (capped_num x c)) k)

pub add_le : (f : Format) (x y : Float) → T (fits f x) → T (capped x) → T (le y nought) → T (le (add f x y) x)
add_le f x y h c k =
    le_le (add f x y) (add f x nought) x
    (add_mono f x x y nought c tt (le_self x (capped_num x c)) k)
    (eq_le (add f x nought) x (add_nought f x false h (capped_num x c)))
