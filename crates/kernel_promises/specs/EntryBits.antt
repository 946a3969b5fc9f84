-- Which entries are good is decided by their bits (RULES 2.5): the test of a word is the test of the value that has this word for its bits.
use Rattle.std.specs.Prelude.{ℕ, ◌^◌, ◌<◌, ◌≡◌, Bool, T, Float}
use Rattle.std.specs.Float.{binary64}
use Rattle.std.specs.Float.Ieee.{fits, of_bits, to_bits}
use Rattle.model.specs.Good.{good, good_end, good_bits, good_end_bits}

pub record GoodByBits : Type 0 where
  -- at each of the 2^64 words, those of a NaN included
  pub words : (w : ℕ) → w < 2 ^ 64 → good_bits w ≡ good (of_bits binary64 w)
  pub end_words : (ends : Bool) (w : ℕ) → w < 2 ^ 64 → good_end_bits ends w ≡ good_end ends (of_bits binary64 w)
  -- and of each f64 by the word that it has
  pub values : (x : Float) → T (fits binary64 x) → good_bits (to_bits binary64 x) ≡ good x
