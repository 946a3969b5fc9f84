-- Reading what was written, and writing what was read.
use Prim.Native.Nat.{ℕ, zero, suc, ◌^◌, ◌≤◌, ◌<◌}
use mathlib.Core.Path.{◌≡◌, refl, sym, ap, ap₂, ◌∙◌, subst}
use mathlib.Core.Bool.{Bool, true, false, not, cond}
use mathlib.Core.List.{List, [], ◌∷◌, ◌++◌}
use native.Mathlib.Omega.{arith}
use lib.Dec.{T, eqb, eqb→eq}
use lib.ListN.{length, get_or, take, replicate, length-map, length-replicate, get_or-replicate}
use lib.Ieee.{Float, binary64, fits, is_nan, to_bits, of_bits}
use lib.Ieee.Bits.{of_bits-to_bits, to_bits-lt, to_bits-of_bits}
use lib.Ieee.Fits.{and_r}
use borrow.Author.Tests.{ltb-false, le-ltb}
use Rattle.floats.specs.Float.{at, nought, is_plus_zero, minus_infinity}
use Rattle.lists.specs.Lists.{first_bad}
use Rattle.lists.proofs.Scan.{all_pass, pass_all}
use Rattle.little_endian.specs.Bytes.{Below}
use Rattle.answer.specs.Answer.{is_done, refuse}
use Rattle.answer.specs.Checks.{first_of}
use Rattle.answer.specs.declared.Refusal.TheVariants.{BadLayout}
use Rattle.answer.proofs.Checks.{Clear, clear_both, no_fault, stops}
use Rattle.model.specs.declared.Shape.{Shape}
use Rattle.model.specs.Lent.{Tables}
use Rattle.model.specs.Good.{good, good_end, good_bits}
use Rattle.model.specs.Accepted.{Every, HeldTables, AcceptedTables}
use Rattle.model.proofs.Entries.{good_number}
use Rattle.model.proofs.GoodBits.{good_bits_lem, good_value}
use Rattle.checks.specs.Rooms.{Roomy}
use Rattle.checks.specs.Checks.{room_tests}
use Rattle.checks.proofs.Tests.{is_true}
use Rattle.checks.proofs.Done.{clear_outputs}
use Rattle.file_layout.specs.Layout.{count, size, file_length, bits, table_of, model_file}
use Rattle.file_layout.specs.Reading.{shape_of, body_of, floats, end_at, end_of, model_in}
use Rattle.file_layout.specs.Checks.{file_tests, word_test, word_tests, read_rooms, read_tests}
use Rattle.file_laws.specs.Flip.{flipped, Told}
use Rattle.file_layout.specs.inner.Whole.{Filed, FileAccepted}
use Rattle.file_layout.proofs.Accepting.{clear_tab, tab_clear, accepted_clear}
use Rattle.file_layout.proofs.Bounds.{count_low, count_high}
use Rattle.file_layout.proofs.Within.{length_body}
use Rattle.model_file.proofs.Writes.{table_size, table_numbers, count_3, length_whole}
use Rattle.file_laws.proofs.Written.{same_shape, same_body, written_accepted, known_layout, read_written, read_filed, file_same}
use Rattle.file_laws.proofs.Cut.{cut_refused, more_refused}
use Rattle.file_laws.proofs.Stored.{flip_told, flip_refused}

-- ---- floats and their bits
abbrev Held : List Float → Type 0
Held = Every (fits binary64)

tail : (test : Float → Bool) (x : Float) (xs : List Float) → Every test (x ∷ xs) → Every test xs
tail test x xs h i l = h (suc i) (omega arith)

bits_back : (xs : List Float) → Held xs → floats (bits xs) ≡ xs
bits_back [] h = refl
bits_back (x ∷ xs) h = ap₂ ◌∷◌ (of_bits-to_bits binary64 x (h 0 (omega arith))) (bits_back xs (tail (fits binary64) x xs h))

bits_small : (xs : List Float) → Held xs → Below (2 ^ 64) (bits xs)
unfolding Below
bits_small [] h = tt
bits_small (x ∷ xs) h = (to_bits-lt binary64 x (h 0 (omega arith)), bits_small xs (tail (fits binary64) x xs h))

bits_good : (xs : List Float) → Held xs → Every good xs → (i : ℕ) → i < length (bits xs) → good_bits (get_or (bits xs) i 0) ≡ true
bits_good [] h g i l = absurd (omega arith)
bits_good (x ∷ xs) h g zero l = good_value x (h 0 (omega arith)) ∙ is_true _ (g 0 (omega arith))
bits_good (x ∷ xs) h g (suc i) l = bits_good xs (tail (fits binary64) x xs h) (tail good x xs g) i (omega arith)

plus_zero : (x : Float) → T (fits binary64 x) → T (is_plus_zero x) → x ≡ nought
unfolding is_plus_zero
plus_zero x h z =
    sym (of_bits-to_bits binary64 x h)
    ∙ ap (of_bits binary64) (eqb→eq (to_bits binary64 x) 0 (and_r (not (is_nan x)) (eqb (to_bits binary64 x) 0) z)) ∙ (unfold of_bits in refl)

all_zero : (xs : List Float) → Held xs → Every is_plus_zero xs → replicate (length xs) nought ≡ xs
all_zero [] h z = refl
all_zero (x ∷ xs) h z =
    ap₂ ◌∷◌ (sym (plus_zero x (h 0 (omega arith)) (z 0 (omega arith)))) (all_zero xs (tail (fits binary64) x xs h) (tail is_plus_zero x xs z))

-- ---- a model that is accepted
pub length_file : (m : Tables) → AcceptedTables m → length (model_file m) ≡ file_length m.shape
length_file m a =
    length_whole m (file_length m.shape)
    (record { in_range = a.in_range; roomy = omega arith; sized = table_size m a; numbers = table_numbers m a })

module _ (m : Tables) (a : AcceptedTables m) (h : HeldTables m) where
  abbrev words : ℕ → List ℕ
  words i = bits (table_of m i)

  held : (i : ℕ) → Held (table_of m i)
  held zero = h.transition
  held (suc zero) = h.emission
  held (suc (suc zero)) = h.initial
  held (suc (suc (suc i))) = h.end

  filed : Filed m.shape words
  filed =
      record {
        in_range = a.in_range;
        sized = λ (i : ℕ) k. length-map (table_of m i) (to_bits binary64) ∙ table_size m a i;
        words = λ (i : ℕ) k. bits_small (table_of m i) (held i);
      }

  -- ---- its file is accepted, and gives its shape and its tables back
  pub file_accepted : FileAccepted (model_file m)
  unfolding model_file
  file_accepted = written_accepted m.shape words filed

  pub shape_back : shape_of (model_file m) ≡ m.shape
  unfolding model_file
  shape_back = same_shape m.shape words filed

  body_back : (i : ℕ) → i < count m.shape → body_of (model_file m) i ≡ words i
  unfolding model_file
  body_back i k = same_body m.shape words filed i k

  pub table_back : (i : ℕ) → i < count m.shape → floats (body_of (model_file m) i) ≡ table_of m i
  table_back i k = ap floats (body_back i k) ∙ bits_back (table_of m i) (held i)

  pub end_back : end_of (model_file m) ≡ m.end
  unfolding end_at
  end_back = go m.shape.ends refl
    where
      go : (b : Bool) → m.shape.ends ≡ b → end_of (model_file m) ≡ m.end
      go true e =
          ap (λ (t : Bool). cond t (floats (body_of (model_file m) 3)) (replicate (shape_of (model_file m)).states nought))
          (ap (λ (s : Shape). s.ends) shape_back ∙ e)
          ∙ table_back 3 (rw e (omega arith))
      go false e =
          ap (λ (t : Bool). cond t (floats (body_of (model_file m) 3)) (replicate (shape_of (model_file m)).states nought))
          (ap (λ (s : Shape). s.ends) shape_back ∙ e)
          ∙ ap (λ (n : ℕ). replicate n nought) (ap (λ (s : Shape). s.states) shape_back ∙ sym a.end_length)
          ∙ all_zero m.end h.end (λ (i : ℕ) k. zero_end i k (a.end_good i k))
        where
          zero_end : (i : ℕ) → i < length m.end → T (good_end m.shape.ends (at m.end i)) → T (is_plus_zero (at m.end i))
          zero_end i k g = unfold good_end in (rw e at g)

  every_good : (i : ℕ) → i < count m.shape → Every good (table_of m i)
  every_good zero k = a.transition_good
  every_good (suc zero) k = a.emission_good
  every_good (suc (suc zero)) k = a.initial_good
  every_good (suc (suc (suc i))) k = λ (j : ℕ) n. pick m.shape.ends (at m.end j) k (a.end_good j n)
    where
      pick : (b : Bool) (x : Float) → suc (suc (suc i)) < cond b 4 3 → T (good_end b x) → T (good x)
      pick true x n g = unfold good_end in g
      pick false x n g = absurd (omega arith)

  -- and a reader with room for the tables is done
  pub read_is_done : (t e n d : ℕ) → Roomy (read_rooms m.shape t e n d) → is_done (first_of (read_tests (model_file m) t e n d)) ≡ true
  unfolding read_tests
  read_is_done t e n d roomy =
      no_fault _
      (clear_both (file_tests (model_file m)) _ (accepted_clear (model_file m) file_accepted)
      (clear_both (room_tests false 6 (read_rooms (shape_of (model_file m)) t e n d)) _
      (clear_outputs 6 (read_rooms (shape_of (model_file m)) t e n d) (rw shape_back roomy)) words_clear))
    where
      passing : (i : ℕ) → i < count m.shape → length (body_of (model_file m) i) ≤ first_bad good_bits (body_of (model_file m) i)
      passing i k = rw (body_back i k) (pass_all good_bits 0 (words i) (bits_good (table_of m i) (held i) (every_good i k)))

      words_clear : Clear (word_tests (model_file m))
      words_clear =
          unfold word_tests in
          (clear_tab (count (shape_of (model_file m))) (word_test (model_file m))
          (λ (i : ℕ) k.
          le-ltb (first_bad good_bits (body_of (model_file m) i)) (length (body_of (model_file m) i)) (passing i (rw shape_back at k))))

-- ---- what the whole reader says of a file with a bit flipped, cut, or with more behind it
module _ (f : List ℕ) (a : FileAccepted f) (t e n d : ℕ) where
  pub flip_read : (p k : ℕ) → p < length f → k < 8 → Told (shape_of f) p (first_of (read_tests (flipped p k f) t e n d))
  unfolding read_tests
  flip_read p k lp lk =
      subst (Told (shape_of f) p) (stops (file_tests (flipped p k f)) _ _ refl (flip_refused f a p k lp lk)) (flip_told f a p k lp lk)

  pub flip_stops : (p k : ℕ) → p < length f → k < 8 → is_done (first_of (read_tests (flipped p k f) t e n d)) ≡ false
  unfolding read_tests
  flip_stops p k lp lk =
      sym (ap is_done (stops (file_tests (flipped p k f)) _ _ refl (flip_refused f a p k lp lk))) ∙ flip_refused f a p k lp lk

  pub cut_read : (k : ℕ) → k < length f → first_of (read_tests (take k f) t e n d) ≡ refuse BadLayout 0 k
  unfolding read_tests
  cut_read k l =
      let found = cut_refused f a k l in
      sym (stops (file_tests (take k f)) _ _ refl (ap is_done found)) ∙ found

  pub more_read : (rest : List ℕ) → 0 < length rest → first_of (read_tests (f ++ rest) t e n d) ≡ refuse BadLayout 0 (length f)
  unfolding read_tests
  more_read rest l =
      let found = more_refused f a rest l in
      sym (stops (file_tests (f ++ rest)) _ _ refl (ap is_done found)) ∙ found

-- ---- what is read is what would be written of it
words_back : (ws : List ℕ) → Below (2 ^ 64) ws → ((i : ℕ) → i < length ws → good_bits (get_or ws i 0) ≡ true) → bits (floats ws) ≡ ws
unfolding Below
words_back [] b g = refl
words_back (w ∷ ws) b g =
    ap₂ ◌∷◌ (to_bits-of_bits binary64 w b.0 (good_number _ (rw (sym (good_bits_lem w b.0) ∙ g 0 (omega arith)) tt)))
    (words_back ws b.1 (λ (i : ℕ) l. g (suc i) (omega arith)))

floats_good : (ws : List ℕ) → Below (2 ^ 64) ws → ((i : ℕ) → i < length ws → good_bits (get_or ws i 0) ≡ true) → Every good (floats ws)
unfolding Below
floats_good [] b g i l = absurd (omega arith)
floats_good (w ∷ ws) b g zero l = rw (sym (good_bits_lem w b.0) ∙ g 0 (omega arith)) tt
floats_good (w ∷ ws) b g (suc i) l = floats_good ws b.1 (λ (j : ℕ) k. g (suc j) (omega arith)) i (omega arith)

given_end : (f : List ℕ) → (shape_of f).ends ≡ true → end_of f ≡ floats (body_of f 3)
unfolding end_at
given_end f e = ap (λ (t : Bool). cond t (floats (body_of f 3)) (replicate (shape_of f).states nought)) e

absent_end : (f : List ℕ) → (shape_of f).ends ≡ false → end_of f ≡ replicate (shape_of f).states nought
unfolding end_at
absent_end f e = ap (λ (t : Bool). cond t (floats (body_of f 3)) (replicate (shape_of f).states nought)) e

end_of_good : (x : Float) → T (good x) → T (good_end true x)
unfolding good_end
end_of_good x g = g

zeros_good : (n : ℕ) → Every (good_end false) (replicate n nought)
unfolding good_end is_plus_zero
zeros_good n i l = rw (get_or-replicate n i nought minus_infinity (rw length-replicate at l)) (unfold is_nan to_bits in tt)

module _ (f : List ℕ) (a : FileAccepted f) (g : Clear (word_tests f)) where
  good_in : (i : ℕ) → i < count (shape_of f) → (j : ℕ) → j < length (body_of f i) → good_bits (get_or (body_of f i) j 0) ≡ true
  unfolding word_tests
  good_in i l =
      all_pass good_bits 0 (body_of f i)
      (ltb-false (first_bad good_bits (body_of f i)) (length (body_of f i)) (tab_clear (count (shape_of f)) (word_test f) g i l))

  own_body : (i : ℕ) → i < count (shape_of f) → bits (floats (body_of f i)) ≡ body_of f i
  own_body i l = words_back (body_of f i) ((read_filed f a).words i l) (good_in i l)

  table_is : (i : ℕ) → i < count (shape_of f) → bits (table_of (model_in f) i) ≡ body_of f i
  table_is zero l = own_body 0 l
  table_is (suc zero) l = own_body 1 l
  table_is (suc (suc zero)) l = own_body 2 l
  table_is (suc (suc (suc i))) l = fourth i (shape_of f).ends refl l
    where
      fourth : (i : ℕ) (b : Bool) → (shape_of f).ends ≡ b → suc (suc (suc i)) < count (shape_of f)
          → bits (end_of f) ≡ body_of f (suc (suc (suc i)))
      fourth zero true e l = ap bits (given_end f e) ∙ own_body 3 l
      fourth (suc i) true e l = absurd (let c : count (shape_of f) ≤ 4 = count_high (shape_of f) in omega arith)
      fourth i false e l = absurd (let c : count (shape_of f) ≡ 3 = count_3 (shape_of f) (ap not e) in omega arith)

  pub write_back : model_file (model_in f) ≡ f
  unfolding model_file
  write_back = file_same (shape_of f) _ (body_of f) table_is ∙ sym (read_written f a)

  -- and it is an accepted model
  pub length_table : (i : ℕ) → length (floats (body_of f i)) ≡ size (shape_of f) i
  length_table i = length-map (body_of f i) (of_bits binary64) ∙ length_body (shape_of f) f i

  table_good : (i : ℕ) → i < count (shape_of f) → Every good (floats (body_of f i))
  table_good i l = floats_good (body_of f i) ((read_filed f a).words i l) (good_in i l)

  has : (i : ℕ) → i < 3 → i < count (shape_of f)
  has i h = omega (arith, count_low (shape_of f))

  pub end_length_lem : length (end_of f) ≡ (shape_of f).states
  end_length_lem = go (shape_of f).ends refl
    where
      go : (b : Bool) → (shape_of f).ends ≡ b → length (end_of f) ≡ (shape_of f).states
      go true e = ap length (given_end f e) ∙ length_table 3 ∙ (unfold size in refl)
      go false e = ap length (absent_end f e) ∙ length-replicate (shape_of f).states nought

  end_good_lem : Every (good_end (shape_of f).ends) (end_of f)
  end_good_lem = go (shape_of f).ends refl
    where
      -- with the flag and the table written out
      all : (b : Bool) (xs : List Float) → (shape_of f).ends ≡ b → end_of f ≡ xs → Every (good_end b) xs → Every (good_end (shape_of f).ends) (end_of f)
      all b xs e x h =
          subst (λ (c : Bool). Every (good_end c) (end_of f)) (sym e) (subst (λ (ys : List Float). Every (good_end b) ys) (sym x) h)

      go : (b : Bool) → (shape_of f).ends ≡ b → Every (good_end (shape_of f).ends) (end_of f)
      go true e =
          all true (floats (body_of f 3)) e (given_end f e)
          (λ (i : ℕ) l. end_of_good (at (floats (body_of f 3)) i) (table_good 3 (rw e (omega arith)) i l))
      go false e = all false (replicate (shape_of f).states nought) e (absent_end f e) (zeros_good (shape_of f).states)

  pub read_accepted : AcceptedTables (model_in f)
  unfolding size
  read_accepted =
      record {
        in_range = (known_layout f a).in_range;
        transition_length = length_table 0;
        emission_length = length_table 1;
        initial_length = length_table 2;
        end_length = end_length_lem;
        transition_good = table_good 0 (has 0 (omega arith));
        emission_good = table_good 1 (has 1 (omega arith));
        initial_good = table_good 2 (has 2 (omega arith));
        end_good = end_good_lem;
      }
