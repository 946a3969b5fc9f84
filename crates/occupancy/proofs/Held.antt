-- A list that holds n entries of a rule at its front holds one more once that is stored.
use Prim.Native.Nat.{ℕ, ◌+◌, ◌<◌}
use native.Mathlib.Omega.{arith}
use mathlib.Core.Path.{◌≡◌}
use mathlib.Core.List.{List}
use lib.ListN.{length, set, length-set}
use Rattle.std.proofs.lemmas.List.Edits.{fill_by_more}
use Rattle.lists.specs.inner.Holds.{Holds}

pub holds_more : {A : Type 0} {d : A} (n : ℕ) (f : ℕ → A) (xs : List A) (x : A) → Holds d n f xs → n < length xs → x ≡ f n
    → Holds d (n + 1) f (set xs n x)
holds_more n f xs x h l e = record { room = rw length-set (omega arith); is = rw e (fill_by_more f xs n _ l h.is) }
