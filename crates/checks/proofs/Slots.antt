-- Every test of every slot has a refusal to give.
use Prim.Native.Nat.{ℕ}
use mathlib.Core.Bool.{Bool}
use mathlib.Core.List.{List}
use Rattle.answer.proofs.Checks.{Refuses}
use Rattle.model.specs.declared.Shape.{Shape}
use Rattle.model.specs.Lent.{Tables}
use Rattle.checks.specs.Checks.{shape_tests, count_tests, entry_tests, sample_tests}

pub shape_refuses : (shape : Shape) → Refuses (shape_tests shape)
unfolding shape_tests
shape_refuses shape = (tt, (tt, tt))

pub count_refuses : (needs_sample : Bool) (n : ℕ) → Refuses (count_tests needs_sample n)
unfolding count_tests
count_refuses needs_sample n = (tt, (tt, tt))

pub entries_refuse : (m : Tables) → Refuses (entry_tests m)
unfolding entry_tests
entries_refuse m = (tt, (tt, (tt, (tt, tt))))

pub samples_refuse : (symbols : ℕ) (samples : List ℕ) → Refuses (sample_tests symbols samples)
unfolding sample_tests
samples_refuse symbols samples = (tt, tt)
