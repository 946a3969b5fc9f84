-- The tests of a shape, 1 and 2, find no fault exactly where S and M are in range.
use Prim.Native.Nat.{ℕ}
use mathlib.Core.Bool.{Bool}
use lib.Dec.{T}
use Rattle.answer.proofs.Checks.{Gives, Clear}
use Rattle.model.specs.declared.Shape.{Shape}
use Rattle.model.specs.Accepted.{InRange}
use Rattle.checks.specs.Checks.{shape_tests}
use Rattle.checks.proofs.Tests.{in_range_lem, ranged}

module _ (shape : Shape) where
  pub shape_clear : InRange shape → Clear (shape_tests shape)
  unfolding shape_tests Clear
  shape_clear r =
      (ranged shape.states 64 r.some_state r.few_states, (ranged shape.symbols 256 r.some_symbol r.few_symbols, tt))

  pub shape_in_range : Clear (shape_tests shape) → InRange shape
  unfolding shape_tests Clear
  shape_in_range c =
      let states = in_range_lem shape.states 64 c.0 in
      let symbols = in_range_lem shape.symbols 256 c.1.0 in
      record { some_state = states.0; few_states = states.1; some_symbol = symbols.0; few_symbols = symbols.1 }

  -- else they give 1 or 2
  pub shape_gives : (test : ℕ → Bool) → T (test 1) → T (test 2) → Gives test (shape_tests shape)
  unfolding shape_tests
  shape_gives test one two = (one, (two, tt))
