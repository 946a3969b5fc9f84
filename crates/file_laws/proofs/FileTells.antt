-- Each test of the reader tells its fault.
use Prim.Native.Nat.{ℕ, zero, suc, ◌≤◌, ◌<◌}
use mathlib.Core.Path.{◌≡◌, refl, sym, ◌∙◌, subst}
use mathlib.Core.Logic.{◌⊎◌, inl, inr, ⊎_elim}
use mathlib.Core.Bool.{Bool, true, false, true≢false, cond, not, ◌||◌}
use mathlib.Core.List.{List, [], ◌∷◌, ◌++◌, append_assoc}
use native.Mathlib.Nat.{not-suc-le-zero}
use native.Mathlib.Omega.{arith}
use borrow.Author.Tests.{ltb-true, ltb-false, eqb-true, eqb-false, leb-true, leb-false, lt-leb, not-true, not-false}
use lib.Dec.{eqb, leb, ltb, ltb→lt}
use lib.ListN.{length, get_or}
use Rattle.lists.specs.Lists.{tab}
use Rattle.little_endian.specs.Bytes.{sum}
use Rattle.answer.specs.Answer.{refuse}
use Rattle.answer.specs.Checks.{Tests}
use Rattle.answer.specs.declared.Answer.{Answer}
use Rattle.answer.specs.declared.Refusal.TheVariants.{NotGood, BadLayout, BadSum}
use Rattle.model.specs.Good.{good_bits}
use Rattle.model.proofs.GoodBits.{word_zero, word_clear, word_set}
use Rattle.checks.specs.Checks.{shape_tests, room_tests}
use Rattle.checks.specs.Faults.{Fault, shape_faults, room_faults}
use Rattle.checks.proofs.Tests.{or_false}
use Rattle.checks.proofs.FirstFault.{Tells, Tell, tell_both}
use Rattle.checks.proofs.Tells.{at_one, at_first, apart, shape_tells, rooms_tell}
use Rattle.file_layout.specs.Reading.{shape_of, body_of, sum_of}
use Rattle.file_layout.specs.Checks.{Demand, any, meets, pattern, first_wrong, some_wrong, layout_tests, sum_test, sum_tests}
use Rattle.file_layout.specs.Checks.{word_test, word_tests, read_rooms, read_tests}
use Rattle.file_laws.specs.Faults.{WrongAt, of_tables, BadWord, too_short, bad_layout, bad_sums, bad_words, read_faults}

-- ---- 13, the first wrong place
wrong_least : (ds : List Demand) (f : List ℕ) (p : ℕ) → WrongAt ds f p → first_wrong ds f ≤ p
unfolding first_wrong
wrong_least [] f p w = omega arith
wrong_least (d ∷ ds) [] p w = omega arith
wrong_least (d ∷ ds) (b ∷ f) zero w = rw (w.1 (omega arith) (omega arith)) (omega arith)
wrong_least (d ∷ ds) (b ∷ f) (suc p) w =
    go (meets d b) (wrong_least ds f p (⊎_elim (λ h. inl (less h)) (λ h. inr (less h)) w.0, λ h k. w.1 (more h) (more k)))
  where
    less : {n : ℕ} → suc p < suc n → p < n
    less h = omega arith

    more : {n : ℕ} → p < n → suc p < suc n
    more h = omega arith

    go : (t : Bool) → first_wrong ds f ≤ p → cond t (suc (first_wrong ds f)) 0 ≤ suc p
    go true h = omega arith
    go false h = omega arith

wrong_meets : (ds : List Demand) (f : List ℕ) → first_wrong ds f < length ds → first_wrong ds f < length f
    → meets (get_or ds (first_wrong ds f) any) (get_or f (first_wrong ds f) 0) ≡ false
unfolding first_wrong
wrong_meets [] f h k = absurd (not-suc-le-zero h)
wrong_meets (d ∷ ds) [] h k = absurd (not-suc-le-zero k)
wrong_meets (d ∷ ds) (b ∷ f) h k = go (meets d b) refl (wrong_meets ds f) h k
  where
    go : (t : Bool) → meets d b ≡ t
        → (first_wrong ds f < length ds → first_wrong ds f < length f → meets (get_or ds (first_wrong ds f) any) (get_or f (first_wrong ds f) 0) ≡ false)
        → cond t (suc (first_wrong ds f)) 0 < suc (length ds) → cond t (suc (first_wrong ds f)) 0 < suc (length f)
        → meets (get_or (d ∷ ds) (cond t (suc (first_wrong ds f)) 0) any) (get_or (b ∷ f) (cond t (suc (first_wrong ds f)) 0) 0) ≡ false
    go true e rest l m = rest (omega arith) (omega arith)
    go false e rest l m = e

within : (ds : List Demand) (f : List ℕ) → some_wrong ds f ≡ true → (first_wrong ds f < length ds) ⊎ (first_wrong ds f < length f)
within ds f h = go (ltb (first_wrong ds f) (length ds)) refl h
  where
    go : (b : Bool) → ltb (first_wrong ds f) (length ds) ≡ b → (b || ltb (first_wrong ds f) (length f)) ≡ true
        → (first_wrong ds f < length ds) ⊎ (first_wrong ds f < length f)
    go true e k = inl (ltb-true _ _ e)
    go false e k = inr (ltb-true _ _ k)

module _ (f : List ℕ) where
  abbrev demanded : List Demand
  demanded = pattern (shape_of f)

  layout_tells : Tells (bad_layout f) (some_wrong demanded f) (refuse BadLayout 0 (first_wrong demanded f))
  layout_tells =
      record {
        gives = record { number_is = refl; table_is = refl; place_is = refl; value_is = refl };
        some = ltb→lt 0 13 tt;
        found = λ h. ((within demanded f h, wrong_meets demanded f), wrong_least demanded f);
        none = λ h (q : ℕ) w. outside h q w.0 (wrong_least demanded f q w);
      }
    where
      outside : some_wrong demanded f ≡ false → (q : ℕ) → (q < length demanded) ⊎ (q < length f) → first_wrong demanded f ≤ q → ⊥
      outside h q w l =
          let p = or_false (ltb (first_wrong demanded f) (length demanded)) (ltb (first_wrong demanded f) (length f)) h in
          ⊎_elim (λ k. apart q _ _ k (ltb-false _ _ p.0) l) (λ k. apart q _ _ k (ltb-false _ _ p.1) l) w

  short_tells : Tells (too_short f) (ltb (length f) 8) (refuse BadLayout 0 (length f))
  short_tells =
      at_one BadLayout 0 (length f) (length f < 8) (ltb (length f) 8) tt (ltb-true _ _)
      (λ h k. let l = ltb-false (length f) 8 h in omega arith)

  first_tell : Tell (layout_tests f) (too_short f ∷ (shape_faults (shape_of f) ++ (bad_layout f ∷ [])))
  unfolding layout_tests
  first_tell = (short_tells, tell_both (shape_tests (shape_of f)) _ (shape_faults (shape_of f)) _ (shape_tells (shape_of f)) (layout_tells, tt))

-- ---- tests of each table
tables_tell : (ends : Bool) (t : ℕ → Bool × Answer) (line : ℕ → Fault) → ((i : ℕ) → Tells (line i) (t i).0 (t i).1)
    → Tell (tab (cond ends 4 3) t) (of_tables ends line)
unfolding tab
tables_tell true t line h = (h 0, (h 1, (h 2, (h 3, tt))))
tables_tell false t line h = (h 0, (h 1, (h 2, tt)))

-- ---- 14 and 7
bad_word : (w : ℕ) → good_bits w ≡ false → BadWord w
bad_word w h = go (eqb w 0) (leb 0x8000000000000000 w) refl refl
  where
    go : (z s : Bool) → eqb w 0 ≡ z → leb 0x8000000000000000 w ≡ s → BadWord w
    go true s e k = absurd (true≢false (word_zero w (eqb-true w 0 e) ∙ h))
    go false true e k = inr (leb-false w _ (word_set w (eqb-false w 0 e) (leb-true _ w k) ∙ h))
    go false false e k = inl (eqb-false w 0 e, leb-false _ w k)

not_good_word : (w : ℕ) → BadWord w → good_bits w ≡ false
not_good_word w (inl h) = sym (word_clear w h.0 h.1)
not_good_word w (inr h) = sym (word_set w (λ e. omega arith) (omega arith)) ∙ lt-leb w _ h

module _ (f : List ℕ) where
  sums_tell : Tell (sum_tests f) (bad_sums f)
  unfolding sum_tests
  sums_tell =
      tables_tell (shape_of f).ends (sum_test f) _
      (λ (i : ℕ).
      at_one BadSum i 0 (sum (body_of f i) ≡ sum_of f i → ⊥) (not (eqb (sum (body_of f i)) (sum_of f i))) tt
      (λ h. eqb-false _ _ (not-true _ h)) (λ h k. k (eqb-true _ _ (not-false _ h))))

  words_tell : Tell (word_tests f) (bad_words f)
  unfolding word_tests
  words_tell = tables_tell (shape_of f).ends (word_test f) _ (λ (i : ℕ). at_first NotGood i good_bits BadWord 0 (body_of f i) tt bad_word not_good_word)

  pub read_tells : (a b c d : ℕ) → Tell (read_tests f a b c d) (read_faults f a b c d)
  unfolding read_tests
  read_tells a b c d =
      let rooms = room_tests false 6 (read_rooms (shape_of f) a b c d) in
      let roomy = room_faults false 6 (read_rooms (shape_of f) a b c d) in
      subst (λ (ts : Tests). Tell ts (read_faults f a b c d)) (sym (append_assoc (layout_tests f) (sum_tests f) (rooms ++ word_tests f)))
      (tell_both (layout_tests f) (sum_tests f ++ (rooms ++ word_tests f)) _ (bad_sums f ++ (roomy ++ bad_words f)) (first_tell f)
      (tell_both (sum_tests f) (rooms ++ word_tests f) (bad_sums f) (roomy ++ bad_words f) sums_tell
      (tell_both rooms (word_tests f) roomy (bad_words f) (rooms_tell false 6 (read_rooms (shape_of f) a b c d)) words_tell)))
