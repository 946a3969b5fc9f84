-- `model::mark_of_word` meets its contract: the top bits of both halves of the mark, by cases of the word's own.
use Rattle.std.proofs.Common.{refl, rules}
use native.Mathlib.Omega.{arith}
use Rattle.model.proofs.Marks.{word_mark}
use Rattle.model.proofs.mark_of_word.Goals as goal

pub returns : goal.returns
returns c = word_mark _ _ _ _ (search rules) (omega arith) (omega (arith, c.ranges.w.fits)) refl refl
