use Rattle.std.proofs.Common.{refl, arith}
use Rattle.std.proofs.lemmas.Grind.{common_steps}
use Rattle.file_layout.specs.Checks.{word_tests}
use Rattle.file_layout.proofs.Accepting.{cleared_all, cleared_stop}
use Rattle.file_layout.proofs.inspect.check_words.Goals as goal

pub returns-in-Some : goal.returns-in-Some
unfolding word_tests
returns-in-Some c =
    cleared_stop _ _ _ _ c.loop-i.invariant (grind (arith, common_steps)) (grind (arith, common_steps)) refl (grind (arith, common_steps))

pub returns : goal.returns
unfolding word_tests
returns c = cleared_all _ _ _ c.loop-i.invariant (grind (arith, common_steps))
