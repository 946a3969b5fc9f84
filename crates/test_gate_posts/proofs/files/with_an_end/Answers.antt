-- `test_gate_posts::files::with_an_end` is safe: the output has the bytes that are read.
use Rattle.std.proofs.Common.{arith, sym}
use Rattle.std.proofs.lemmas.List.{length-take-le}
use Rattle.test_gate_posts.proofs.files.with_an_end.Goals as goal

pub slice_bounds-read-end-2 : goal.slice_bounds-read-end-2
slice_bounds-read-end-2 g c = sym (length-take-le 168 _ (omega arith))
