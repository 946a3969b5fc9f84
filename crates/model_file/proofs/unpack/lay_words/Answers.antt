use Rattle.std.proofs.Common.{sym, ap, zero-add, arith}
use lib.Ieee.{binary64, of_bits}
use Rattle.lists.proofs.Laid.{laid_more, laid_none}
use Rattle.model_file.proofs.unpack.lay_words.Goals as goal

pub loop-i-init : goal.loop-i-init
loop-i-init c = laid_none _ _ _ _

pub loop-i-preserved : goal.loop-i-preserved
loop-i-preserved c =
    laid_more _ _ _ _ _ _ _ _ c.loop-i.invariant c.loop-i-test.true (omega (arith, c.requires.roomy)) (sym (zero-add _))
    (ap (of_bits binary64) c.word_at.ensures)
