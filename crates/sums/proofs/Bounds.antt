-- A sum is at least each of its terms, and at most what they are all at most, where that is large enough: so nothing overflows.
use Prim.Native.Nat.{ℕ, zero, suc, ◌<◌}
use native.Mathlib.Nat.{lt-suc_self}
use native.Mathlib.Omega.{arith}
use mathlib.Core.Path.{◌≡◌, refl}
use mathlib.Core.Bool.{Bool, true, false, cond}
use lib.Dec.{T}
use lib.Ieee.{Float, binary64, add, sum, round, size, lt, le, eq, fits}
use lib.Ieee.Fits.{add-fits}
use lib.Ieee.Scale.{finite}
use Rattle.floats.specs.Float.{◌⊕◌, ◌⊖◌, one, minus_infinity, is_infinite, is_number, capped}
use Rattle.floats.specs.inner.Sign.{nonneg}
use Rattle.floats.proofs.Order.{le_self, le_le, bottom_le}
use Rattle.floats.proofs.Add.{add_mono, add_num, add_ge, capped_le, capped_num}
use Rattle.floats.proofs.Sub.{finite_capped}
use Rattle.floats.proofs.Finite.{number_finite}
use Rattle.floats.proofs.Largest.{largest, capped_largest}
use Rattle.floats.proofs.Ceiling.{Ceiling, ceiling_add, lid}
use Rattle.floats.proofs.Unit.{one_plus}
use Rattle.floats.proofs.Fraction.{nonneg_ge}
use Rattle.kernels.specs.Exp.{exp_of}
use Rattle.kernels.specs.Ln.{ln_of}
use Rattle.kernels.proofs.ExpLaws.{exp_le_one}
use Rattle.kernels.proofs.LnLaws.{two53, sixty_four, ln_nonneg, ln_small}
use Rattle.sums.specs.Sum.{Numbers, peak, exp_sum, grown, ln_sum}
use Rattle.sums.specs.declared.sum.Peak.{Peak}
use Rattle.sums.proofs.Peaks.{raised_keeps, peak_number, peak_top}
use Rattle.sums.proofs.Domains.{plus_exp_keeps, exp_sum_nonneg}

-- ---- a sum of exponentials never passes 2 ^ 53, as 2 ^ 53 + 1 is rounded to it
two53_one : Ceiling two53 one
unfolding add sum round size
two53_one = record { within = tt; small = tt; still = refl }

one_two53 : one ⊕ two53 ≡ two53
unfolding add sum round size
one_two53 = refl

pub exp_sum_most : (p : Peak) (n : ℕ) (f : ℕ → Float) → T (le (exp_sum p n f) two53)
unfolding exp_sum
exp_sum_most p zero f = unfold le lt in tt
exp_sum_most p (suc n) f =
    let h = exp_sum_most p n f in
    let d = f n ⊖ p.value in
    plus_exp_keeps (λ (z : Float). T (le z two53)) p (exp_sum p n f) (f n) n h
    (ceiling_add two53_one (exp_sum p n f) (exp_of d) h (exp_le_one d))

-- ---- ceilings: 64 more does not move them
pub lid_ceiling : Ceiling lid sixty_four
unfolding add sum round size
lid_ceiling = record { within = tt; small = tt; still = refl }

pub largest_ceiling : Ceiling largest sixty_four
unfolding add sum round size
largest_ceiling = record { within = tt; small = tt; still = refl }

-- ---- a number that ln(1 + s) is added to, s being a sum of exponentials
module _ (s : Float) (low : T (nonneg s)) (high : T (le s two53)) where
  pub ln_low : T (nonneg (ln_of (one ⊕ s)))
  ln_low = ln_nonneg (one ⊕ s) (one_plus s low)

  pub ln_high : T (le (ln_of (one ⊕ s)) sixty_four)
  ln_high =
      let top : T (le (one ⊕ s) (one ⊕ two53)) = add_mono binary64 one one s two53 tt tt (unfold le lt eq in tt) high in
      ln_small (one ⊕ s) (one_plus s low) (rw one_two53 at top)

  ln_capped : T (capped (ln_of (one ⊕ s)))
  ln_capped = capped_le (ln_of (one ⊕ s)) sixty_four ln_high tt

  -- so p + ln(1 + s) is a number, and at least p
  pub grown_number : (p : Float) → T (finite p) → T (is_number (p ⊕ ln_of (one ⊕ s)))
  grown_number p g = add_num binary64 p (ln_of (one ⊕ s)) (finite_capped p g) ln_capped

  pub grown_above : (p : Float) → T (finite p) → T (fits binary64 p) → T (le p (p ⊕ ln_of (one ⊕ s)))
  grown_above p g i = add_ge binary64 p (ln_of (one ⊕ s)) i (finite_capped p g) (nonneg_ge (ln_of (one ⊕ s)) ln_low) ln_capped

  -- and at most any ceiling that p is at most
  pub grown_below : {B : Float} → Ceiling B sixty_four → (p : Float) → T (le p B) → T (le (p ⊕ ln_of (one ⊕ s)) B)
  grown_below c p g = ceiling_add c p (ln_of (one ⊕ s)) g ln_high

-- ---- the sum itself
-- a property of the greatest entry, and of what the sum makes of it
grown_keeps : (P : Float → Type 0) (p : Peak) (s : Float) → P p.value → (is_infinite p.value ≡ false → P (p.value ⊕ ln_of (one ⊕ s))) → P (grown p s)
unfolding grown
grown_keeps P p s h g = go (is_infinite p.value) g
  where
    go : (t : Bool) → (t ≡ false → P (p.value ⊕ ln_of (one ⊕ s))) → P (cond t p.value (p.value ⊕ ln_of (one ⊕ s)))
    go true i = h
    go false i = i refl

-- a property of minus infinity and of all entries
all_peak : (P : Float → Type 0) (n : ℕ) (f : ℕ → Float) → P minus_infinity → ((k : ℕ) → k < n → P (f k)) → P (peak n f).value
unfolding peak
all_peak P zero f b h = b
all_peak P (suc n) f b h =
    raised_keeps (peak n f) (f n) n (λ (q : Peak). P q.value) (λ _. h n (lt-suc_self n)) (λ _. all_peak P n f b (λ k l. h k (omega arith)))

peak_fits : (n : ℕ) (f : ℕ → Float) → ((k : ℕ) → k < n → T (fits binary64 (f k))) → T (fits binary64 (peak n f).value)
peak_fits n f h = all_peak (λ (x : Float). T (fits binary64 x)) n f (unfold fits in tt) h

nothing : (n : ℕ) (f : ℕ → Float) → ((k : ℕ) → k < n → f k ≡ minus_infinity) → (peak n f).value ≡ minus_infinity
nothing n f h = all_peak (λ (x : Float). x ≡ minus_infinity) n f refl h

module _ (n : ℕ) (f : ℕ → Float) where
  abbrev others : Float
  others = exp_sum (peak n f) n f

  low : T (nonneg others)
  low = exp_sum_nonneg (peak n f) n f

  high : T (le others two53)
  high = exp_sum_most (peak n f) n f

  pub ln_sum_number : Numbers n f → T (is_number (ln_sum n f))
  unfolding ln_sum
  ln_sum_number h =
      let p = (peak n f).value in
      let i = peak_number n f h in
      grown_keeps (λ (z : Float). T (is_number z)) (peak n f) others i
      (λ e. grown_number others low high p (number_finite p i e))

  -- the greatest entry is at most what all entries are at most
  peak_below : (B : Float) → T (is_number B) → ((k : ℕ) → k < n → T (le (f k) B)) → T (le (peak n f).value B)
  peak_below B c h = all_peak (λ (x : Float). T (le x B)) n f (bottom_le B c) h

  pub ln_sum_fits : ((k : ℕ) → k < n → T (fits binary64 (f k))) → T (fits binary64 (ln_sum n f))
  unfolding ln_sum
  ln_sum_fits g =
      grown_keeps (λ (z : Float). T (fits binary64 z)) (peak n f) others (peak_fits n f g)
      (λ _. add-fits binary64 (peak n f).value _)

  -- never below an entry: a training pass never gives 10, and a likelihood is never below its best path
  pub ln_sum_above : Numbers n f → ((k : ℕ) → k < n → T (fits binary64 (f k))) → (k : ℕ) → k < n → T (le (f k) (ln_sum n f))
  unfolding ln_sum
  ln_sum_above h g k l =
      let p = (peak n f).value in
      let i = peak_number n f h in
      le_le (f k) p _ (peak_top n f h k l)
      (grown_keeps (λ (z : Float). T (le p z)) (peak n f) others (le_self p i)
      (λ e. grown_above others low high p (number_finite p i e) (peak_fits n f g)))

  pub ln_sum_below : {B : Float} → Ceiling B sixty_four → ((k : ℕ) → k < n → T (le (f k) B)) → T (le (ln_sum n f) B)
  unfolding ln_sum
  ln_sum_below {B} c h =
      let i = peak_below B (capped_num B c.within) h in
      grown_keeps (λ (z : Float). T (le z B)) (peak n f) others i
      (λ _. grown_below others low high c (peak n f).value i)

  -- neither NaN nor +inf, where no entry is
  pub ln_sum_capped : ((k : ℕ) → k < n → T (capped (f k))) → ((k : ℕ) → k < n → T (fits binary64 (f k))) → T (capped (ln_sum n f))
  ln_sum_capped h g = capped_le (ln_sum n f) largest (ln_sum_below largest_ceiling (λ k l. capped_largest (f k) (h k l) (g k l))) tt

-- no entry, or none but minus infinity, gives minus infinity
pub ln_sum_none : (n : ℕ) (f : ℕ → Float) → ((k : ℕ) → k < n → f k ≡ minus_infinity) → ln_sum n f ≡ minus_infinity
unfolding ln_sum grown is_infinite eq
ln_sum_none n f h = rw (nothing n f h)
