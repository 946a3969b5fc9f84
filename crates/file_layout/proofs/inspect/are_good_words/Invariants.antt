-- `file_layout::inspect::are_good_words` meets its contract. The loop's invariant: the gathered marks are set where no word below i is bad.
use Rattle.std.proofs.Common.{◌≡◌, ◌*◌, leb}
use Rattle.lists.specs.Lists.{part, first_bad}
use Rattle.little_endian.specs.Bytes.{words}
use Rattle.model.specs.Good.{good_bits}
use Rattle.model.specs.inner.Marks.{is_set}
use Rattle.file_layout.proofs.inspect.are_good_words.Given as goal

abbrev pub invariant-loop-i : goal.invariant-loop-i
invariant-loop-i l = is_set l.marks ≡ leb l.i (first_bad good_bits (words l.n (part l.at (8 * l.n) l.file)))
