-- K1 and K2: what exp and ln are at the examples' arguments; and ln where a sum has one term.
use mathlib.Core.Path.{◌≡◌, refl, sym, ap, ◌∙◌}
use mathlib.Core.Bool.{true, false}
use lib.IntN.{negsuc}
use lib.Ieee.{fin, neg, add, mul, sum, round, size}
use Rattle.floats.specs.Float.{◌⊕◌, nought, one}
use Rattle.kernels.specs.Ln.{ln2, log_bits, ln_from, ln_of}
use Rattle.kernels.proofs.LnLaws.{ln_one}
use Rattle.kernels.proofs.LnParts.{ln2_is}
use Rattle.gate_posts.specs.Table.{two, half}

two_computed : ln_of two ≡ fin false 6243314768165359 (negsuc 52)
unfolding ln_of ln_from log_bits ln2 mul round size
two_computed = refl

half_computed : ln_of half ≡ fin true 6243314768165359 (negsuc 52)
unfolding ln_of ln_from log_bits ln2 mul round size
half_computed = refl

negated : neg (fin false 6243314768165359 (negsuc 52)) ≡ fin true 6243314768165359 (negsuc 52)
unfolding neg
negated = refl

pub ln_two : ln_of two ≡ ln2
ln_two = two_computed ∙ sym ln2_is

pub ln_half : ln_of half ≡ neg ln2
ln_half = half_computed ∙ sym (ap neg ln2_is ∙ negated)

pub log_one : ln_of (one ⊕ nought) ≡ nought
unfolding add sum round size
log_one = ln_one
