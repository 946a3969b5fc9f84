-- Bytes and words written one after the other.
use Rattle.std.proofs.Common.{◌≡◌, ℕ, ◌+◌, ◌*◌, ◌%◌, ◌^◌, ◌<◌, ◌≤◌, List, [], ◌∷◌, ◌++◌, length, get_or, take, sym, refl, ap, ◌∙◌, append_assoc, add-one, arith, length-append, length-take-le, take-suc}
use native.Mathlib.Nat.{mod-add-mod}
use lib.ListN.{length-map}
use lib.Ieee.{Float, binary64, to_bits, nan}
use Rattle.lists.specs.Lists.{over}
use Rattle.lists.proofs.Over.{over_next, length_over, over_none}
use Rattle.little_endian.specs.Bytes.{bytes, little, sum, total}
use Rattle.little_endian.proofs.Bytes.{bytes_both, total_both, one_word, one_total, length_bytes, length_little}
use Rattle.file_layout.specs.Layout.{bits, count, first, flag, label, offset}
use Rattle.model_file.specs.inner.Putting.{entry_of}
use Rattle.model.specs.declared.Shape.{Shape}

-- the first i + 1 words of a table
front_more : (xs : List Float) (i : ℕ) → i < length xs → bits (take (i + 1) xs) ≡ bits (take i xs) ++ (to_bits binary64 (get_or xs i nan) ∷ [])
front_more xs i h = rw (add-one, take-suc xs i nan h) (map_both (take i xs) (get_or xs i nan))
  where
    map_both : (ys : List Float) (y : Float) → bits (ys ++ (y ∷ [])) ≡ bits ys ++ (to_bits binary64 y ∷ [])
    map_both [] y = refl
    map_both (z ∷ ys) y = ap (λ (l : List ℕ). to_bits binary64 z ∷ l) (map_both ys y)

module _ (xs : List Float) where
  -- a loop that sums the words
  pub record SummedTable (s i : ℕ) : Type 0 where
    pub within : i ≤ length xs
    pub is : s ≡ sum (bits (take i xs))

  pub table_none : SummedTable 0 0
  unfolding sum total
  table_none = record { within = omega arith; is = refl }

  pub table_more : (s i : ℕ) → SummedTable s i → i < length xs → SummedTable ((s + to_bits binary64 (get_or xs i nan)) % 2 ^ 64) (i + 1)
  unfolding sum
  table_more s i h l =
      let w = to_bits binary64 (get_or xs i nan) in
      record {
        within = omega arith;
        is =
            ap (λ (a : ℕ). (a + w) % 2 ^ 64) h.is ∙ mod-add-mod (total (bits (take i xs))) (2 ^ 64) _
            ∙ ap (λ (k : ℕ). k % 2 ^ 64) (sym (ap total (front_more xs i l) ∙ total_both (bits (take i xs)) _ ∙ ap
            (λ (k : ℕ). total (bits (take i xs)) + k) (one_total _)));
      }

  -- a loop that writes them
  module _ (at : ℕ) (l : List ℕ) where
    pub record PutTable (cur : List ℕ) (i : ℕ) : Type 0 where
      pub within : i ≤ length xs
      pub kept : length cur ≡ length l
      pub is : cur ≡ over at (bytes (bits (take i xs))) l

    pub put_none : PutTable l 0
    unfolding bytes
    put_none = record { within = omega arith; kept = refl; is = sym (over_none at l) }

    length_front : (i : ℕ) → i ≤ length xs → length (bytes (bits (take i xs))) ≡ 8 * i
    length_front i h = length_bytes (bits (take i xs)) ∙ ap (λ (k : ℕ). 8 * k) (length-map (take i xs) (to_bits binary64) ∙ length-take-le i xs h)

    pub put_more : (cur next : List ℕ) (i : ℕ) → PutTable cur i → i < length xs → at + 8 * length xs ≤ length l
        → next ≡ over (at + 8 * i) (little 8 (to_bits binary64 (get_or xs i nan))) cur → PutTable next (i + 1)
    put_more cur next i h k room q =
        let w = to_bits binary64 (get_or xs i nan) in
        let f = length_front i (omega arith) in
        let n : next ≡ over at (bytes (bits (take i xs)) ++ little 8 w) l = q
        ∙ over_next at (at + 8 * i) (bytes (bits (take i xs))) (little 8 w) l cur h.is (omega arith) (rw length_little (omega arith)) in
        let b : bytes (bits (take i xs)) ++ little 8 w ≡ bytes (bits (take (i + 1) xs))
        = sym (ap bytes (front_more xs i k) ∙ bytes_both (bits (take i xs)) _ ∙ ap (λ (z : List ℕ). bytes (bits (take i xs)) ++ z) (one_word _)) in
        let is' : next ≡ over at (bytes (bits (take (i + 1) xs))) l = n ∙ ap (λ (z : List ℕ). over at z l) b in
        record {
          within = omega arith;
          kept = ap length is' ∙ length_over at _ l (rw (length_front (i + 1) (omega arith)) (omega arith));
          is = is';
        }

-- ---- the parts of a file, one number after the other
pub entry_put : (sh : Shape) (i : ℕ) (xs : List Float) (l a b c : List ℕ) (o s : ℕ) → 24 + i * 16 ≤ length l → a ≡ over (8 + i * 16) (little 4 i) l
    → o ≡ offset sh i → b ≡ over (12 + i * 16) (little 4 o) a
    → s ≡ sum (bits xs) → c ≡ over (16 + i * 16) (little 8 s) b → c ≡ over (8 + i * 16) (entry_of sh i xs) l
unfolding label
entry_put sh i xs l a b c o s room pa eo pb es pc =
    let two : b ≡ over (8 + i * 16) (little 4 i ++ little 4 (offset sh i)) l
    = pb ∙ ap (λ (k : ℕ). over (12 + i * 16) (little 4 k) a) eo
    ∙ over_next (8 + i * 16) (12 + i * 16) (little 4 i) (little 4 (offset sh i)) l a pa (rw length_little (omega arith))
    (rw length_little (omega arith)) in
    pc ∙ ap (λ (k : ℕ). over (16 + i * 16) (little 8 k) b) es
    ∙ over_next (8 + i * 16) (16 + i * 16) (little 4 i ++ little 4 (offset sh i)) (little 8 (sum (bits xs))) l b two
    (rw (length-append, length_little, length_little) (omega arith)) (rw length_little (omega arith))

pub first_put : (sh : Shape) (l a b c d : List ℕ) (g n : ℕ) → 8 ≤ length l → a ≡ over 0 (little 2 sh.states) l
    → b ≡ over 2 (little 2 sh.symbols) a → g ≡ flag sh → c ≡ over 4 (little 2 g) b
    → n ≡ count sh → d ≡ over 6 (little 2 n) c → d ≡ over 0 (first sh) l
unfolding first
first_put sh l a b c d g n room pa pb eg pc en pd =
    let s = little 2 sh.states in
    let m = little 2 sh.symbols in
    let two : b ≡ over 0 (little 2 sh.states ++ little 2 sh.symbols) l = pb
    ∙ over_next 0 2 s m l a pa (rw length_little (omega arith)) (rw length_little (omega arith)) in
    let three : c ≡ over 0 ((little 2 sh.states ++ little 2 sh.symbols) ++ little 2 (flag sh)) l
    = pc ∙ ap (λ (k : ℕ). over 4 (little 2 k) b) eg
    ∙ over_next 0 4 (s ++ m) (little 2 (flag sh)) l b two (rw (length-append, length_little, length_little) (omega arith))
    (rw length_little (omega arith)) in
    pd ∙ ap (λ (k : ℕ). over 6 (little 2 k) c) en
    ∙ over_next 0 6 ((s ++ m) ++ little 2 (flag sh)) (little 2 (count sh)) l c three
    (rw (length-append, length-append, length_little, length_little, length_little) (omega arith)) (rw length_little (omega arith))
    ∙ ap (λ (p : List ℕ). over 0 p l) (simp append_assoc)

-- for `sum_of_table`, and for `put_words`
pub ruleset summed_table = (table_none, table_more)

pub ruleset put_table = (put_none, put_more)
