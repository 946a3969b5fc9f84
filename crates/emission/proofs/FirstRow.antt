-- The first row in memory is the model's: initial + emission of the first sample, state by state.
use Prim.Native.Nat.{ℕ}
use mathlib.Core.Path.{◌≡◌, sym, ap, ◌∙◌}
use mathlib.Core.List.{List}
use lib.ListN.{length}
use lib.Ieee.{Float}
use Rattle.floats.specs.Float.{◌⊕◌, at, minus_infinity}
use Rattle.lists.specs.Lists.{tab}
use Rattle.lists.proofs.Over.{get_or_tab, tab_same}
use Rattle.model.specs.Model.{Model}
use Rattle.emission.specs.inner.Row.{first_row}

module _ (m : Model) (initial emissions : List Float) where
  pub first_row_is : length initial ≡ m.states → at initial ≡ m.initial → emissions ≡ tab m.states (m.emission 0)
      → first_row initial emissions ≡ tab m.states (λ (j : ℕ). m.initial j ⊕ m.emission 0 j)
  first_row_is e i h =
      ap (λ (n : ℕ). tab n (λ (j : ℕ). at initial j ⊕ at emissions j)) e
      ∙ tab_same m.states _ _ (λ j s. rw (sym i, h) (ap (λ (x : Float). at initial j ⊕ x) (get_or_tab m.states _ j minus_infinity s)))
