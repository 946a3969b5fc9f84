-- Words laid out as floats, one a turn.
use Rattle.std.proofs.Common.{◌≡◌, ℕ, ◌+◌, ◌*◌, ◌^◌, ◌<◌, not, T, List, length, sym, ap, ◌∙◌, arith, ext_get_or}
use lib.ListN.{length-map, get_or-map}
use lib.Ieee.{Float, binary64, of_bits, nan_bits}
use Rattle.lists.specs.Lists.{part, tab}
use Rattle.lists.proofs.Over.{get_or_tab, length_tab}
use Rattle.lists.proofs.Scan.{all_pass}
use Rattle.little_endian.specs.Bytes.{value, words}
use Rattle.little_endian.proofs.Bytes.{length_words}
use Rattle.little_endian.proofs.Summing.{word_in}
use Rattle.model.specs.Good.{good_bits}
use Rattle.file_layout.specs.Reading.{floats}
use Rattle.file_layout.proofs.Within.{body_within, good_read}
use Rattle.model.proofs.GoodBits.{good_not_nan}
use Rattle.model_file.specs.inner.Laying.{Layable}

-- the float of word i
abbrev pub float_at : List ℕ → ℕ → ℕ → Float
float_at file at i = of_bits binary64 (value (part (at + 8 * i) 8 file))

pub floats_tab : (file : List ℕ) (at n : ℕ) → tab n (float_at file at) ≡ floats (words n (part at (8 * n) file))
floats_tab file at n =
    let ws = words n (part at (8 * n) file) in
    let l : length (floats (words n (part at (8 * n) file))) ≡ n = length-map ws (of_bits binary64) ∙ length_words n _ in
    ext_get_or (of_bits binary64 0) (tab n (float_at file at)) (floats ws) (length_tab n (float_at file at) ∙ sym l)
    (λ (i : ℕ) h.
    let k : i < n = rw length_tab at h in
    get_or_tab n (float_at file at) i (of_bits binary64 0) k ∙ ap (of_bits binary64) (sym (word_in file at n i k))
    ∙ sym (get_or-map (of_bits binary64) ws i 0))

-- each word that is read is good, and so that of a number
pub word_number : (file : List ℕ) (at n : ℕ) (table : List Float) → Layable file at n table → (i x : ℕ) → i < n → x < 2 ^ 64
    → x ≡ value (part (at + 8 * i) 8 file) → T (not (nan_bits binary64 x))
word_number file at n table h i x l small e =
    let ws = words n (part at (8 * n) file) in
    let long = length_words n (part at (8 * n) file) in
    good_not_nan x small
    (ap good_bits (e ∙ sym (word_in file at n i l)) ∙ all_pass good_bits 0 ws (omega (arith, h.good)) i (omega arith))

-- for `lay_words`, and for `lay_table`
pub ruleset laid_words = (floats_tab, word_number)

pub ruleset laid_table = (body_within, good_read)
