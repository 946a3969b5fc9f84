-- What is copied out of a slice is its item.
use Rattle.std.proofs.Common.{◌≡◌, ℕ, List, Option, Some, None, Bor, slice_get, arith, option_copied}
use Rattle.std.proofs.lemmas.Grind.{common_steps}
use Rattle.std.proofs.lemmas.Option.{gets}
use Rattle.std.specs.Slice.{IsItemAt}

pub copied_item : {X : Type 0} (xs : List X) (i : ℕ) (r : Option (Bor X)) → IsItemAt xs i r → option_copied r ≡ slice_get xs i
copied_item xs i None h = grind (arith, common_steps, gets)
copied_item xs i (Some x) h = grind (arith, common_steps, gets)
