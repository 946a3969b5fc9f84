-- How an example is shown to hold.
use mathlib.Core.Path.{◌≡◌}
use Rattle.gate_posts.specs.Table.{Example, Holds, answer, left}

-- an example whose answer is given, and what it leaves
abbrev pub holds : (e : Example) → answer e.call ≡ e.answers → left e.call ≡ e.leaves → Holds e
holds e a l = record { answer_is = a; left_is = l }
