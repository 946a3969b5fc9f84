-- The n words from byte `at` on, looked at one after the other: what a loop knows at word i, and what it has found.
use Rattle.std.proofs.Common.{◌≡◌, ℕ, ◌+◌, ◌*◌, ◌^◌, ◌<◌, ◌≤◌, Bool, true, false, not, ◌&&◌, true≢false, leb, List, get_or, sym, ap, ap₂, ◌∙◌, arith}
use Rattle.std.proofs.lemmas.Bool.Decides.{nat_tests}
use lib.Bits.{bit_and}
use Rattle.lists.specs.Lists.{first_bad, part, some_bad}
use Rattle.lists.proofs.Places.{at_most}
use Rattle.lists.proofs.Scan.{bad_first, bad_there, pass_all, first_within, reaches_more}
use Rattle.little_endian.specs.Bytes.{value, words}
use Rattle.little_endian.proofs.Bytes.{length_words}
use Rattle.little_endian.proofs.Summing.{word_in, words_in}
use Rattle.model.specs.Good.{good_bits}
use Rattle.model.specs.inner.Marks.{is_set}
use Rattle.model.proofs.Marks.{set_and}

module _ (f : List ℕ) (at n : ℕ) where
  abbrev all : List ℕ
  all = words n (part at (8 * n) f)

  abbrev word : ℕ → ℕ
  word i = value (part (at + 8 * i) 8 f)

  good_in : (i : ℕ) → i < n → good_bits (get_or all i 0) ≡ good_bits (word i)
  good_in i l = ap good_bits (word_in f at n i l)

  -- ---- the first bad one is looked for: none below i is bad
  abbrev pub GoodBelow : ℕ → Type 0
  GoodBelow i = (k : ℕ) → k < i → good_bits (word k) ≡ true

  pub good_stop : (i : ℕ) → GoodBelow i → i < n → good_bits (word i) ≡ false → (some_bad good_bits all ≡ true) × (i ≡ first_bad good_bits all)
  good_stop i p l t =
      let long = length_words n (part at (8 * n) f) in
      let most = bad_first good_bits 0 all i (words_in f at n i l) (good_in i l ∙ t) in
      let least : i ≤ first_bad good_bits all
      = at_most i _ (λ (g : first_bad good_bits all < i). true≢false
      (sym (good_in _ (omega arith) ∙ p _ g) ∙ bad_there good_bits 0 all (omega arith))) in
      (grind (arith, nat_tests), omega arith)

  pub good_all : GoodBelow n → some_bad good_bits all ≡ false
  good_all p =
      let long = length_words n (part at (8 * n) f) in
      let all_good = pass_all good_bits 0 all (λ (k : ℕ) l. good_in k (omega arith) ∙ p k (omega arith)) in
      grind (arith, nat_tests)

  -- ---- marks are gathered, which are set while none below i is bad
  pub marks_none : is_set 0xffffffffffffffff ≡ leb 0 (first_bad good_bits all)
  unfolding is_set
  marks_none = grind (arith, nat_tests)

  pub marks_more : (marks mark i : ℕ) → is_set marks ≡ leb i (first_bad good_bits all) → marks < 2 ^ 64 → mark < 2 ^ 64 → i < n
      → is_set mark ≡ good_bits (word i) → is_set (bit_and marks mark) ≡ leb (i + 1) (first_bad good_bits all)
  marks_more marks mark i e h k l t =
      set_and marks mark h k ∙ ap₂ ◌&&◌ e (t ∙ sym (good_in i l)) ∙ reaches_more good_bits 0 all i (words_in f at n i l)

  pub marks_all : (b : Bool) (i : ℕ) → b ≡ leb i (first_bad good_bits all) → i ≡ n → b ≡ not (some_bad good_bits all)
  marks_all b i e l =
      let long = length_words n (part at (8 * n) f) in
      let most = first_within good_bits 0 all in
      grind (arith, nat_tests)

-- for `are_good_words`
pub ruleset gathered_marks = (marks_none, marks_more, marks_all)
