-- Reading what was written gives it back, and what is accepted is what would be written of it.
use Prim.Native.Nat.{ℕ, zero, suc, ◌+◌, ◌*◌, ◌%◌, ◌^◌, ◌≤◌, ◌<◌}
use mathlib.Core.Path.{◌≡◌, refl, sym, ap, ap₂, ◌∙◌}
use mathlib.Core.Bool.{Bool, true, false, cond}
use mathlib.Core.List.{List, [], ◌∷◌, ◌++◌}
use native.Mathlib.Nat.{mod-lt}
use native.Mathlib.Omega.{arith}
use lib.Dec.{eqb}
use lib.ListN.{length}
use Rattle.lists.specs.Lists.{flat}
use Rattle.lists.proofs.Parts.{flat_same}
use Rattle.little_endian.specs.Bytes.{Below, bytes, little, sum, value, words}
use Rattle.little_endian.proofs.Bytes.{below_both, length_words, little_below, value_little, words_bytes, words_small}
use Rattle.answer.proofs.Checks.{clear_both, clear_left, clear_right, no_fault}
use Rattle.model.specs.Accepted.{InRange}
use Rattle.file_layout.specs.Checks.{file_tests, layout_tests, pattern, sum_tests}
use Rattle.file_layout.specs.Layout.{count, file_of, first, flag, label, layout, offset, size}
use Rattle.file_layout.specs.Reading.{body_at, body_of, shape_of, sum_of}
use Rattle.file_layout.specs.inner.Whole.{FileAccepted, Filed}
use Rattle.file_layout.proofs.Bounds.{shape_same}
use Rattle.file_layout.proofs.Accepting.{Laid, accepted_clear, laid, layout_clear, summed, sums_clear}
use Rattle.file_layout.proofs.Fits.{Fits}
use Rattle.file_layout.proofs.Whole.{below_part, body_back, layout_fits, long, offset_up, sum_back, whole}
use Rattle.model.specs.declared.Shape.{Shape}

sum_small : (ws : List ℕ) → sum ws < 256 ^ 8
unfolding sum
sum_small ws = mod-lt _ (omega arith)

module _ (sh : Shape) (r : InRange sh) (sums : ℕ → ℕ) (bodies : ℕ → List ℕ) where
  flag_back : (b : Bool) → eqb (cond b 1 0 % 256) 1 ≡ b
  flag_back true = refl
  flag_back false = refl

  pub shape_back : shape_of (layout sh sums bodies) ≡ sh
  unfolding shape_of layout first little value
  shape_back =
      let s = r.few_states in
      let m = r.few_symbols in
      shape_same _ sh (omega arith) (omega arith) (flag_back sh.ends)

-- ---- what is written
module _ (sh : Shape) (bodies : ℕ → List ℕ) (m : Filed sh bodies) where
  pub same_shape : shape_of (file_of sh bodies) ≡ sh
  unfolding file_of
  same_shape = shape_back sh m.in_range (λ (i : ℕ). sum (bodies i)) bodies

  -- "Reading what was written gives the same bits"
  pub same_body : (i : ℕ) → i < count sh → body_of (file_of sh bodies) i ≡ bodies i
  same_body i l =
      rw same_shape
      (unfold body_at file_of in
      (ap (words (size sh i)) (body_back sh (λ (i : ℕ). sum (bodies i)) bodies m.sized i l)
      ∙ ap (λ (n : ℕ). words n (bytes (bodies i))) (sym (m.sized i l))
      ∙ words_bytes (bodies i) (m.words i l)))

  same_sum : (i : ℕ) → i < count sh → sum_of (file_of sh bodies) i ≡ sum (bodies i)
  unfolding sum_of file_of
  same_sum i l = ap value (sum_back sh (λ (i : ℕ). sum (bodies i)) bodies m.sized i l) ∙ value_little 8 (sum (bodies i)) (sum_small (bodies i))

  fits : Fits (pattern sh) (file_of sh bodies)
  unfolding file_of
  fits = layout_fits sh (λ (i : ℕ). sum (bodies i)) bodies m.sized

  enough : 8 ≤ length (file_of sh bodies)
  enough = let o = offset_up sh 0 (count sh) (omega arith) in let z : offset sh 0 ≡ 8 + count sh * 16 = unfold offset in refl in omega
      (arith, long sh (file_of sh bodies) fits)

  small_flat : (n : ℕ) (f : ℕ → List ℕ) → ((i : ℕ) → Below 256 (f i)) → Below 256 (flat n f)
  unfolding flat
  small_flat zero f h = unfold Below in tt
  small_flat (suc n) f h = below_both 256 (flat n f) (f n) (small_flat n f h) (h n)

  small_bytes : (ws : List ℕ) → Below 256 (bytes ws)
  unfolding bytes
  small_bytes [] = unfold Below in tt
  small_bytes (w ∷ ws) = below_both 256 (little 8 w) (bytes ws) (little_below 8 w) (small_bytes ws)

  small : Below 256 (file_of sh bodies)
  unfolding file_of layout first label
  small =
      below_both 256 (first sh) _
      (below_both 256 (little 2 sh.states) _ (little_below 2 _) (below_both 256 (little 2 sh.symbols) _ (little_below 2 _)
      (below_both 256 (little 2 (flag sh)) _ (little_below 2 _) (little_below 2 _))))
      (below_both 256 (flat (count sh) (λ (i : ℕ). label sh i ++ little 8 (sum (bodies i)))) _
      (small_flat (count sh) (λ (i : ℕ). label sh i ++ little 8 (sum (bodies i)))
      (λ (i : ℕ). below_both 256 (label sh i) _ (below_both 256 (little 4 i) _ (little_below 4 i) (little_below 4 _)) (little_below 8 _)))
      (small_flat (count sh) (λ (i : ℕ). bytes (bodies i)) (λ (i : ℕ). small_bytes (bodies i))))

  pub written_accepted : FileAccepted (file_of sh bodies)
  written_accepted =
      record {
        small = small;
        done =
            no_fault (file_tests (file_of sh bodies))
            (clear_both (layout_tests (file_of sh bodies)) (sum_tests (file_of sh bodies))
            (layout_clear (file_of sh bodies) enough (rw same_shape m.in_range) (rw same_shape fits))
            (sums_clear (file_of sh bodies) (λ (i : ℕ) l. let k : i < count sh = rw same_shape at l in ap sum (same_body i k) ∙ sym (same_sum i k))));
      }

-- ---- what is accepted
module _ (f : List ℕ) (a : FileAccepted f) where
  pub known_layout : Laid f
  known_layout = laid f (clear_left (layout_tests f) (sum_tests f) (accepted_clear f a))

  pub known_sums : (i : ℕ) → i < count (shape_of f) → sum (body_of f i) ≡ sum_of f i
  known_sums = summed f (clear_right (layout_tests f) (sum_tests f) (accepted_clear f a))

  -- it is the file of what is read of it
  pub read_written : f ≡ file_of (shape_of f) (body_of f)
  unfolding file_of layout
  read_written =
      (unfold layout in whole (shape_of f) f known_layout.fits a.small)
      ∙ ap (λ (e : List ℕ). first (shape_of f) ++ (e ++ flat (count (shape_of f)) (λ (i : ℕ). bytes (body_of f i))))
      (flat_same (count (shape_of f)) _ _ (λ (i : ℕ) l. ap (λ (s : ℕ). label (shape_of f) i ++ little 8 s) (sym (known_sums i l))))

  pub read_filed : Filed (shape_of f) (body_of f)
  unfolding body_at
  read_filed =
      record {
        in_range = known_layout.in_range;
        sized = λ (i : ℕ) l. length_words (size (shape_of f) i) _;
        words = λ (i : ℕ) l. words_small (size (shape_of f) i) _ (below_part 256 (offset (shape_of f) i) (8 * size (shape_of f) i) f a.small);
      }

-- the file depends on the tables that it has alone
pub file_same : (sh : Shape) (b c : ℕ → List ℕ) → ((i : ℕ) → i < count sh → b i ≡ c i) → file_of sh b ≡ file_of sh c
unfolding file_of layout
file_same sh b c h =
    ap₂ (λ (e d : List ℕ). first sh ++ (e ++ d))
    (flat_same (count sh) _ _ (λ (i : ℕ) l. ap (λ (w : List ℕ). label sh i ++ little 8 (sum w)) (h i l)))
    (flat_same (count sh) _ _ (λ (i : ℕ) l. ap bytes (h i l)))
