use Rattle.file_layout.proofs.Words.{good_stop}
use Rattle.file_layout.proofs.inspect.first_bad_word.Goals as goal

pub returns-then-not-is_good_word : goal.returns-then-not-is_good_word
returns-then-not-is_good_word c = good_stop _ _ _ _ c.loop-i.invariant c.loop-i-test.true (cc)
