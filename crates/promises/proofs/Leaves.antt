-- No NaN comes out of the leaves and kernels: a refusal's value is minus infinity, and what is made of numbers is a number.
use Prim.Native.Nat.{ℕ, ◌+◌, ◌*◌}
use native.Mathlib.Omega.{arith}
use mathlib.Core.Path.{◌≡◌, refl, sym, ap, ◌∙◌, subst}
use mathlib.Core.Bool.{Bool, true, false, true≢false, not, cond}
use mathlib.Core.List.{List, [], ◌∷◌}
use lib.Dec as Dec
use lib.Dec.{eqb, ltb}
use lib.ListN.{length, take}
use lib.Ieee.{Float, nan, inf, fin, binary64, mul, unlike, up, down, round, size, neg, lt, le, is_nan}
use lib.Ieee.Fits.{and_l}
use Rattle.floats.specs.Float.{nought, one, minus_infinity, is_number, at}
use Rattle.floats.proofs.Order.{le_left, le_right, not_lt}
use Rattle.floats.proofs.Round.{round_num}
use Rattle.lists.specs.Lists.{first_bad, some_bad}
use Rattle.lists.proofs.Every.{every_tab}
use Rattle.answer.specs.Answer.{done, refuse, is_done}
use Rattle.answer.specs.declared.Answer.{Answer}
use Rattle.answer.specs.declared.Refusal.TheVariants.{NotGood, OutputTooShort}
use Rattle.kernels.specs.Calls.{kernel_answer}
use Rattle.kernels.specs.Exp.{exp_of}
use Rattle.kernels.specs.Ln.{ln_of}
use Rattle.kernels.specs.Ln1m.{ln1m_of}
use Rattle.kernels.proofs.ExpLaws.{exp_le_one}
use Rattle.kernels.proofs.LnLaws.{ln_number}
use Rattle.kernels.proofs.Ln1mLaws.{ln1m_number}
use Rattle.sums.specs.Sum.{Numbers}
use Rattle.sums.specs.Pair.{ln_cumsum}
use Rattle.probs.specs.Calls.{unless_nan, is_probability, checked_answer, overshoots, cap_answer, ln_sub_exp_answer, ln_cumsum_exp_answer}
use Rattle.probs.specs.Calls.{Cumulated, scaled_answer, log_to_phred, phred_to_log}
use Rattle.sums.proofs.Bounds.{ln_sum_number}
use Rattle.sums.proofs.Pairs.{ln_add_number, ln_sub_number, ln_cumsum_number}
use Rattle.model.specs.Accepted.{Every}
use Rattle.checks.proofs.Tests.{every}
use Rattle.promises.specs.NoNan.{Numeric, NoNanFromLeaves}
use Rattle.checks.proofs.Left.{tab_front}

-- ---- an answer by a test
either : (b : Bool) (x y : Answer) → (b ≡ true → Numeric x) → (b ≡ false → Numeric y) → Numeric (cond b x y)
either true x y h k = h refl
either false x y h k = k refl

refused_number : Dec.T (is_number minus_infinity)
unfolding is_nan
refused_number = tt

-- a kernel's value is a number on all of f64
kernel_number : (b : Bool) (v : Float) → Dec.T (is_number v) → Numeric (kernel_answer b v)
kernel_number b v h = either b (done v) (refuse NotGood 0 0) (λ _. h) (λ _. refused_number)

-- ---- unless an argument is NaN
unless_number : (xs : List Float) (a : Answer) → (Numbers (length xs) (at xs) → Numeric a) → Numeric (unless_nan xs a)
unfolding unless_nan
unless_number xs a h = either (some_bad is_number xs) _ a (λ _. refused_number) (λ e. h (every is_number xs minus_infinity e))

pair_number : (x y : Float) (a : Answer) → (Dec.T (is_number x) → Dec.T (is_number y) → Numeric a) → Numeric (unless_nan (x ∷ y ∷ []) a)
pair_number x y a h = unless_number (x ∷ y ∷ []) a (λ n. h (n 0 (omega arith)) (n 1 (omega arith)))

sub_number : (p0 p1 : Float) → Numeric (ln_sub_exp_answer p0 p1)
sub_number p0 p1 =
    pair_number p0 p1 _ (λ h k. either (lt p0 p1) _ _ (λ _. refused_number)
    (λ e. ln_sub_number p0 p1 (subst Dec.T (not_lt p0 p1 h k) (subst (λ (b : Bool). Dec.T (not b)) (sym e) tt))))

cumsum_number : (probs : List Float) (room : ℕ) → Numeric (ln_cumsum_exp_answer probs room)
unfolding ln_cumsum_exp_answer
cumsum_number probs room =
    either (ltb room (length probs)) _ _ (λ _. refused_number)
    (λ _. unless_number probs _ (λ n. ln_cumsum_number (length probs) (at probs) n))

-- where it is done, no argument is NaN
cumsum_numbers : (probs : List Float) (room : ℕ) → is_done (ln_cumsum_exp_answer probs room) ≡ true → Numbers (length probs) (at probs)
unfolding ln_cumsum_exp_answer unless_nan
cumsum_numbers probs room d = go (ltb room (length probs)) (some_bad is_number probs) (every is_number probs minus_infinity) d
  where
    go : (b c : Bool) → (c ≡ false → Numbers (length probs) (at probs))
        → is_done (cond b (refuse OutputTooShort 5 room) (cond c (refuse NotGood 0 (first_bad is_number probs)) (done (ln_cumsum (length probs) (at probs)))))
        ≡ true
        → Numbers (length probs) (at probs)
    go true c h e = absurd (true≢false (sym e))
    go false true h e = absurd (true≢false (sym e))
    go false false h e = h refl

cumulated_numbers : (probs sums sums' : List Float) (r : Answer) → Cumulated probs sums sums' r
    → Numeric r × (is_done r ≡ true → Every is_number (take (length probs) sums'))
cumulated_numbers probs sums sums' r p =
    let answer = ln_cumsum_exp_answer probs (length sums) in (
      subst Numeric (sym p.answer) (cumsum_number probs (length sums)),
      λ d.
          let e : is_done answer ≡ true = sym (ap is_done p.answer) ∙ d in
          let n = cumsum_numbers probs (length sums) e in
          subst (Every is_number) (sym (tab_front (is_done answer) (length probs) _ sums sums' p.output e))
          (every_tab minus_infinity is_number (length probs) _ (λ i h. ln_cumsum_number (i + 1) (at probs) (λ k l. n k (omega arith)))),
    )

-- ---- a product with a factor that is finite and not 0
unfoldable nonzero : Float → Bool
nonzero nan = false
nonzero (inf s) = false
nonzero (fin s m e) = not (eqb m 0)

mul_number : (x y : Float) → Dec.T (is_number x) → Dec.T (nonzero y) → Dec.T (is_number (mul binary64 x y))
unfolding nonzero mul is_nan
mul_number x nan h k = absurd k
mul_number x (inf s) h k = absurd k
mul_number nan (fin s m e) h k = absurd h
mul_number (inf t) (fin s m e) h k = go (eqb m 0) k
  where
    go : (b : Bool) → Dec.T (not b) → Dec.T (is_number (cond b nan (inf (unlike t s))))
    go true g = absurd g
    go false g = unfold is_nan in tt
mul_number (fin t n d) (fin s m e) h k = round_num binary64 (unlike t s) (n * up d * (m * up e)) (down d * down e)

scaled_number : (factor x : Float) → Dec.T (nonzero factor) → Numeric (scaled_answer factor x)
unfolding scaled_answer
scaled_number factor x k =
    either (is_number x) _ _ (λ e. mul_number x factor (subst Dec.T (sym e) tt) k) (λ _. refused_number)

-- ---- the others
checked_number : (p : Float) → Numeric (checked_answer p)
unfolding checked_answer
checked_number p =
    either (is_probability p) (done p) (refuse NotGood 0 0)
    (λ e. le_right nought p (and_l (le nought p) (le p one) (subst Dec.T (sym e) tt))) (λ _. refused_number)

cap_number : (x epsilon : Float) → Numeric (cap_answer x epsilon)
unfolding cap_answer
cap_number x epsilon = either (overshoots x epsilon) _ _ (λ _. refused_number) (λ _. lower (le x nought) (le_left x nought))
  where
    lower : (b : Bool) → (Dec.T b → Dec.T (is_number x)) → Dec.T (is_number (cond b x nought))
    lower true h = h tt
    lower false h = unfold is_nan in tt

pub no_nan_from_leaves : NoNanFromLeaves
no_nan_from_leaves =
    record {
      of_exp = λ d. kernel_number (le d nought) (exp_of d) (le_left (exp_of d) one (exp_le_one d));
      of_ln = λ x. kernel_number (le nought x) (ln_of x) (ln_number x);
      of_ln1m_exp = λ p. kernel_number (le p nought) (ln1m_of p) (ln1m_number p);
      of_ln_sum_exp = λ probs. unless_number probs _ (ln_sum_number (length probs) (at probs));
      of_ln_add_exp = λ x y. pair_number x y _ (ln_add_number x y);
      of_ln_sub_exp = sub_number;
      of_ln_cumsum_exp = cumulated_numbers;
      of_checked = checked_number;
      of_cap = cap_number;
      of_log_to_phred = λ x. scaled_number log_to_phred x (unfold nonzero log_to_phred round size neg in tt);
      of_phred_to_log = λ x. scaled_number phred_to_log x (unfold nonzero phred_to_log round size neg in tt);
    }
