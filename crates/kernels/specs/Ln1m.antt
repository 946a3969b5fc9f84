-- ln_1m_exp(p) = ln(1 - exp(p)) for p at most 0 (RULES 4.3). Outside of its domain, at a NaN and above 0, it is minus infinity, as at 0.
use Rattle.std.specs.Prelude.{ℕ, zero, suc, cond, pos, Float}
use Rattle.std.specs.Float.{binary64}
use Rattle.std.specs.Float.Ieee.{mul, div, neg, lt, of_int}
use Rattle.floats.specs.Float.{one, ◌⊖◌}
use Rattle.kernels.specs.Binary.{decimal}
use Rattle.kernels.specs.Exp.{depth, exp_of}
use Rattle.kernels.specs.Ln.{ln_of}

-- RULES 4.3: h becomes 1 - (q/k)·h
abbrev pub horner_step : Float → ℕ → Float → Float
horner_step q k h = one ⊖ mul binary64 (div binary64 q (of_int binary64 (pos k))) h

-- the steps from k down to 2
unfoldable pub horner : ℕ → Float → Float → Float
horner zero q h = h
horner (suc zero) q h = h
horner (suc (suc n)) q h = horner (suc n) q (horner_step q (suc (suc n)) h)

-- q·h, where k starts at 12 and h at 1; the answer is ln of this
abbrev pub series : Float → Float
series q = mul binary64 q (horner 12 q one)

-- 0.693
unfoldable pub border : Float
border = decimal 693 3

-- RULES 4.3: ln(1 - exp(p)) below -0.693, and the series from there up, q being |p|
unfoldable pub ln1m_of : Float → Float
ln1m_of p = cond (lt p (neg border)) (ln_of (one ⊖ exp_of p)) (ln_of (series (depth p)))
