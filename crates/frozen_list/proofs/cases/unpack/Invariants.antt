-- `frozen_list::cases::unpack` meets its contract. The loop's invariant: the first i places are what the first i words say.
use Rattle.std.proofs.Common.{◌≡◌, ℕ, take}
use Rattle.lists.specs.Lists.{tab}
use Rattle.program_io.specs.Words.{word_at}
use Rattle.frozen_list.proofs.cases.unpack.Given as goal

abbrev pub invariant-loop-i : goal.invariant-loop-i
invariant-loop-i g l = take l.i l.places ≡ tab l.i (λ (j : ℕ). g.W.FromWord.word_gives (word_at l.list j))
