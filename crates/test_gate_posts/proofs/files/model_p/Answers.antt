-- `test_gate_posts::files::model_p` is safe: the output has the bytes that are read.
use Rattle.std.proofs.Common.{ℕ, arith, sym}
use Rattle.std.proofs.lemmas.List.{length-take-le, length-set}
use Rattle.test_gate_posts.proofs.files.model_p.Goals as goal

pub slice_bounds-read-end-2 : goal.slice_bounds-read-end-2
slice_bounds-read-end-2 g c = sym (length-take-le 136 _ (omega arith))

pub slice_bounds-read-end-4 : goal.slice_bounds-read-end-4
slice_bounds-read-end-4 g c = sym (length-take-le 136 _ (omega (arith, length-set {A = ℕ})))

pub slice_bounds-read-end-6 : goal.slice_bounds-read-end-6
slice_bounds-read-end-6 g c = sym (length-take-le 135 _ (omega (arith, length-set {A = ℕ})))
