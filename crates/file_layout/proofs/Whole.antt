-- A file that meets what a shape demands is the layout of what is read of it, and a layout meets it and is read back.
use Prim.Native.Nat.{ℕ, zero, suc, ◌+◌, ◌*◌, ◌≤◌, ◌<◌}
use mathlib.Core.Path.{◌≡◌, refl, sym, ap, ap₂, ◌∙◌}
use mathlib.Core.List.{List, [], ◌++◌, append-nil}
use mathlib.Core.Logic.{⊎_elim}
use native.Mathlib.Nat.{eq-or-lt_of_le, le_of_suc-le-suc}
use native.Mathlib.Omega.{arith}
use lib.ListN.{length, get_or, take, drop, length-append, length-replicate, length-map, get_or-append, get_or-map}
use lib.Seq.{get_or-append-add, take_all, drop_at, drop-append-add}
use Rattle.lists.specs.Lists.{flat, part}
use Rattle.lists.proofs.Over.{get_d_any, length_part, part_at}
use Rattle.lists.proofs.Parts.{flat_at, flat_part, flat_same, part_add, part_part}
use Rattle.lists.proofs.Rows.{length_flat}
use Rattle.little_endian.specs.Bytes.{Below, bytes, little, value}
use Rattle.little_endian.proofs.Bytes.{below_drop, below_take, bytes_words, length_bytes, length_little, little_value}
use Rattle.file_layout.specs.Checks.{Demand, any, byte, holes, known, pattern}
use Rattle.file_layout.specs.Layout.{count, first, label, layout, offset, size}
use Rattle.file_layout.specs.Reading.{body_at, sum_of}
use Rattle.file_layout.proofs.Fits.{Fits, FitsAt, all_holes, at_flat, at_known, at_split}
use Rattle.file_layout.proofs.Fits.{fits_at, fits_join, fits_length, flat_fits, flat_holes, holes_fit, known_fits}
use Rattle.model.specs.declared.Shape.{Shape}

pub below_part : (m a n : ℕ) (l : List ℕ) → Below m l → Below m (part a n l)
below_part m a n l h = below_take m n (drop a l) (below_drop m a l h)

module _ (sh : Shape) where
  pub length_first : length (first sh) ≡ 8
  unfolding first
  length_first = simp (length-append, length_little)

  pub length_label : (i : ℕ) → length (label sh i) ≡ 8
  unfolding label
  length_label i = simp (length-append, length_little)

  -- an entry, and a body, as the pattern has them
  abbrev pub row : ℕ → List Demand
  row i = known (label sh i) ++ holes 8

  abbrev pub gap : ℕ → List Demand
  gap i = holes (8 * size sh i)

  pub length_row : (i : ℕ) → length (row i) ≡ 16
  length_row i = rw (length-append, length-map (label sh i) byte, length_label i)

  pub length_rows : (n : ℕ) → length (flat n row) ≡ n * 16
  length_rows n = length_flat n row 16 length_row

  pub offset_at : (i : ℕ) → 8 + count sh * 16 + length (flat i gap) ≡ offset sh i
  unfolding flat offset
  offset_at zero = omega arith
  offset_at (suc i) = let r = offset_at i in rw (length-append, length-replicate) (omega arith)

  pub offset_up : (i n : ℕ) → i ≤ n → offset sh i ≤ offset sh n
  unfolding offset
  offset_up i zero h = let e : i ≡ 0 = omega arith in rw e (omega arith)
  offset_up i (suc n) h =
      ⊎_elim
      (λ (e : i ≡ suc n). rw e (omega arith))
      (λ (l : i < suc n). omega (arith, offset_up i n (le_of_suc-le-suc l)))
      (eq-or-lt_of_le h)

  pub offset_next : (i : ℕ) → offset sh (suc i) ≡ offset sh i + 8 * size sh i
  unfolding offset
  offset_next i = refl

  pub length_pattern : length (pattern sh) ≡ offset sh (count sh)
  unfolding pattern
  length_pattern = let r = offset_at (count sh) in rw (length-append, length-append, length-map (first sh) byte, length_first, length_rows)
      (omega arith)

  -- ---- what is demanded at a place
  past_numbers : (k : ℕ) → get_or (pattern sh) (8 + k) any ≡ get_or (flat (count sh) row ++ flat (count sh) gap) k any
  unfolding pattern
  past_numbers k =
      let e : length (known (first sh)) ≡ 8 = rw (length-map (first sh) byte, length_first) in
      rw e at (get_or-append-add (known (first sh)) (flat (count sh) row ++ flat (count sh) gap) k any)

  pub demand_first : (p : ℕ) → p < 8 → get_or (pattern sh) p any ≡ byte (get_or (first sh) p 0)
  unfolding pattern
  demand_first p m =
      let h : p < length (known (first sh)) = rw (length-map (first sh) byte, length_first) m in
      get_or-append (known (first sh)) (flat (count sh) row ++ flat (count sh) gap) any p h ∙ get_d_any (known (first sh)) p any (byte 0) h
      ∙ get_or-map byte (first sh) p 0

  pub demand_entry : (i k : ℕ) → i < count sh → k < 16 → get_or (pattern sh) (8 + (i * 16 + k)) any ≡ get_or (row i) k any
  demand_entry i k l m =
      let y = flat (count sh) row ++ flat (count sh) gap in
      let a : part (i * 16) 16 (flat (count sh) row ++ flat (count sh) gap) ≡ row i = rw (length_rows i, length_row i) at
      (flat_at (count sh) i row (flat (count sh) gap) l) in
      past_numbers (i * 16 + k) ∙ sym (part_at (i * 16) 16 y k any m) ∙ ap (λ (r : List Demand). get_or r k any) a

  pub demand_label : (i j : ℕ) → i < count sh → j < 8 → get_or (pattern sh) (8 + (i * 16 + j)) any ≡ byte (get_or (label sh i) j 0)
  demand_label i j l m =
      let h : j < length (known (label sh i)) = rw (length-map (label sh i) byte, length_label i) m in
      demand_entry i j l (omega arith) ∙ get_or-append (known (label sh i)) (holes 8) any j h ∙ get_d_any (known (label sh i)) j any (byte 0) h
      ∙ get_or-map byte (label sh i) j 0

  pub demand_sum : (i j : ℕ) → i < count sh → j < 8 → get_or (pattern sh) (8 + (i * 16 + (8 + j))) any ≡ any
  demand_sum i j l m =
      let e : length (known (label sh i)) ≡ 8 = rw (length-map (label sh i) byte, length_label i) in
      demand_entry i (8 + j) l (omega arith) ∙ (rw e at (get_or-append-add (known (label sh i)) (holes 8) j any)) ∙ all_holes 8 j

  pub demand_body : (r : ℕ) → get_or (pattern sh) (8 + (count sh * 16 + r)) any ≡ any
  demand_body r =
      past_numbers (count sh * 16 + r) ∙ (rw (length_rows (count sh)) at (get_or-append-add (flat (count sh) row) (flat (count sh) gap) r any))
      ∙ flat_holes (count sh) gap (λ (i k : ℕ). all_holes (8 * size sh i) k) r

  -- ---- a file that meets the demand
  module _ (f : List ℕ) (fit : Fits (pattern sh) f) where
    pub long : length f ≡ offset sh (count sh)
    long = fits_length _ f fit ∙ length_pattern

    parts : FitsAt (known (first sh)) 0 f × FitsAt (flat (count sh) row) 8 f
    unfolding pattern
    parts =
        let a = at_split (known (first sh)) (flat (count sh) row ++ flat (count sh) gap) 0 f (fits_at _ f fit) in
        let e : 0 + length (known (first sh)) ≡ 8 = rw (length-map (first sh) byte, length_first) in
        (a.0, (at_split (flat (count sh) row) (flat (count sh) gap) 8 f (rw e at a.1)).0)

    pub first_is : part 0 8 f ≡ first sh
    first_is = rw length_first at (at_known (first sh) 0 f parts.0)

    pub label_is : (i : ℕ) → i < count sh → part (8 + i * 16) 8 f ≡ label sh i
    label_is i l =
        let at = 8 + length (flat i row) in
        let h = (at_split (known (label sh i)) (holes 8) at f (at_flat (count sh) row 8 f parts.1 i l)).0 in
        rw (length_label i, length_rows i) at (at_known (label sh i) at f h)

    -- past the last entry
    past_entries : (i : ℕ) → i < count sh → 16 + i * 16 + 8 ≤ length f
    past_entries i l = let o = offset_up 0 (count sh) (omega arith) in let z : offset sh 0 ≡ 8 + count sh * 16 = unfold offset in refl in omega
        (arith, long)

    module _ (small : Below 256 f) where
      pub sum_is : (i : ℕ) → i < count sh → part (16 + i * 16) 8 f ≡ little 8 (sum_of f i)
      unfolding sum_of
      sum_is i l =
          let x = part (16 + i * 16) 8 f in
          let e : length (part (16 + i * 16) 8 f) ≡ 8 = length_part (16 + i * 16) 8 f (past_entries i l) in
          sym (little_value x (below_part 256 (16 + i * 16) 8 f small)) ∙ ap (λ (k : ℕ). little k (value x)) e

      row_is : (i : ℕ) → i < count sh → part (8 + length (flat i row)) (length (row i)) f ≡ label sh i ++ little 8 (sum_of f i)
      row_is i l =
          let e : 8 + i * 16 + 8 ≡ 16 + i * 16 = omega arith in
          let s : part (8 + i * 16 + 8) 8 f ≡ little 8 (sum_of f i) = rw e (sum_is i l) in
          rw (length_rows i, length_row i) (part_add (8 + i * 16) 8 8 f ∙ ap₂ ◌++◌ (label_is i l) s)

      -- a body lies within the file
      pub body_in : (i : ℕ) → i < count sh → offset sh i + 8 * size sh i ≤ length f
      body_in i l = let o = offset_up (suc i) (count sh) l in let z : offset sh (suc i) ≡ offset sh i + 8 * size sh i = unfold offset in refl in
          omega (arith, long)

      pub body_is : (i : ℕ) → i < count sh → part (offset sh i) (8 * size sh i) f ≡ bytes (body_at sh f i)
      unfolding body_at
      body_is i l =
          sym
          (bytes_words (size sh i) (part (offset sh i) (8 * size sh i) f) (below_part 256 (offset sh i) (8 * size sh i) f small)
          (length_part (offset sh i) (8 * size sh i) f (body_in i l)))

      gap_is : (i : ℕ) → i < count sh → part (8 + count sh * 16 + length (flat i gap)) (length (gap i)) f ≡ bytes (body_at sh f i)
      gap_is i l = rw (offset_at i, length-replicate) (body_is i l)

      -- the file is the layout of what is read of it
      pub whole : f ≡ layout sh (sum_of f) (body_at sh f)
      unfolding layout
      whole =
          let n = count sh in
          let all : part 0 (8 + (length (flat n row) + length (flat n gap))) f ≡ f
          = take_all (8 + (length (flat n row) + length (flat n gap))) f (let o = offset_at n in omega (arith, long, length_rows n)) in
          let one = part_add 0 8 (length (flat n row) + length (flat n gap)) f in
          let two = part_add 8 (length (flat n row)) (length (flat n gap)) f in
          let rows = flat_part n row 8 f ∙ flat_same n _ _ row_is in
          let gaps : part (8 + length (flat n row)) (length (flat n gap)) f ≡ flat n (λ (i : ℕ). bytes (body_at sh f i))
          = rw (length_rows n) (flat_part n gap (8 + n * 16) f ∙ flat_same n _ _ gap_is) in
          sym all ∙ one ∙ ap₂ ◌++◌ first_is (two ∙ ap₂ ◌++◌ rows gaps)

  -- ---- a layout
  module _ (sums : ℕ → ℕ) (bodies : ℕ → List ℕ) (sized : (i : ℕ) → i < count sh → length (bodies i) ≡ size sh i) where
    abbrev entry : ℕ → List ℕ
    entry i = label sh i ++ little 8 (sums i)

    abbrev laid : ℕ → List ℕ
    laid i = bytes (bodies i)

    length_laid : (i : ℕ) → i < count sh → length (laid i) ≡ 8 * size sh i
    length_laid i l = length_bytes (bodies i) ∙ ap (λ (k : ℕ). 8 * k) (sized i l)

    entry_fits : (i : ℕ) → i < count sh → Fits (row i) (entry i)
    entry_fits i l = fits_join (known (label sh i)) (holes 8) (label sh i) (little 8 (sums i)) (known_fits (label sh i))
        (holes_fit 8 (little 8 (sums i)) (length_little 8 (sums i)))

    pub layout_fits : Fits (pattern sh) (layout sh sums bodies)
    unfolding pattern layout
    layout_fits =
        fits_join (known (first sh)) (flat (count sh) row ++ flat (count sh) gap) (first sh) (flat (count sh) entry ++ flat (count sh) laid)
        (known_fits (first sh))
        (fits_join (flat (count sh) row) (flat (count sh) gap) (flat (count sh) entry) (flat (count sh) laid)
        (flat_fits (count sh) row entry entry_fits)
        (flat_fits (count sh) gap laid (λ i l. holes_fit (8 * size sh i) (laid i) (length_laid i l))))

    length_entry : (i : ℕ) → length (entry i) ≡ 16
    length_entry i = rw (length-append, length_label i, length_little)

    length_entries : (n : ℕ) → length (flat n entry) ≡ n * 16
    length_entries n = length_flat n entry 16 length_entry

    -- past the first numbers, and past the entries
    past_first : (k n : ℕ) → part (8 + k) n (layout sh sums bodies) ≡ part k n (flat (count sh) entry ++ flat (count sh) laid)
    unfolding layout
    past_first k n = ap (take n) (rw length_first at (drop-append-add (first sh) (flat (count sh) entry ++ flat (count sh) laid) k))

    pub sum_back : (i : ℕ) → i < count sh → part (16 + i * 16) 8 (layout sh sums bodies) ≡ little 8 (sums i)
    sum_back i l =
        let y = flat (count sh) entry ++ flat (count sh) laid in
        let e : 16 + i * 16 ≡ 8 + (i * 16 + 8) = omega arith in
        let a : part (i * 16) 16 y ≡ entry i = rw (length_entries i, length_entry i) at (flat_at (count sh) i entry (flat (count sh) laid) l) in
        rw e (past_first (i * 16 + 8) 8 ∙ sym (part_part 8 8 (i * 16) 16 y (omega arith)) ∙ ap (part 8 8) a
        ∙ ap (take 8) (drop_at (label sh i) (little 8 (sums i)) 8 (length_label i))
        ∙ take_all 8 (little 8 (sums i)) (omega (arith, length_little 8 (sums i))))

    length_so_far : (i : ℕ) → i ≤ count sh → length (flat i laid) ≡ length (flat i gap)
    unfolding flat
    length_so_far zero h = refl
    length_so_far (suc i) h = rw (length-append, length-append, length_so_far i (omega arith), length_laid i h, length-replicate)

    pub body_back : (i : ℕ) → i < count sh → part (offset sh i) (8 * size sh i) (layout sh sums bodies) ≡ bytes (bodies i)
    body_back i l =
        let at = length (flat i laid) in
        let o : offset sh i ≡ 8 + (count sh * 16 + length (flat i laid)) = let q = length_so_far i (omega arith) in let r = offset_at i in omega
        arith in
        let d : drop (count sh * 16 + length (flat i laid)) (flat (count sh) entry ++ flat (count sh) laid) ≡ drop (length (flat i laid))
        (flat (count sh) laid)
        = rw (length_entries (count sh)) at (drop-append-add (flat (count sh) entry) (flat (count sh) laid) (length (flat i laid))) in
        let a : part (length (flat i laid)) (8 * size sh i) (flat (count sh) laid) ≡ bytes (bodies i)
        = rw (length_laid i l, append-nil) at (flat_at (count sh) i laid [] l) in
        rw o (past_first (count sh * 16 + length (flat i laid)) (8 * size sh i) ∙ ap (take (8 * size sh i)) d ∙ a)
