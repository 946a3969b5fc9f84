-- Rows before a barred sample are those of the plain model, as include/wasnugram.h says of `rival`. So a bar past the last sample bars nothing.
use Prim.Native.Nat.{ℕ, zero, suc, ◌≤◌, ◌<◌}
use mathlib.Core.Path.{◌≡◌, refl, ap, ap₂, fun_ext, ◌∙◌}
use mathlib.Core.List.{List, [], ◌∷◌, ◌++◌}
use native.Mathlib.Omega.{arith}
use lib.Ieee.{Float}
use Rattle.floats.specs.Float.{◌⊕◌}
use Rattle.lists.specs.Lists.{over}
use Rattle.lists.proofs.Rows.{table_same}
use Rattle.model.specs.Model.{Model}
use Rattle.emission.specs.Barring.{barring}
use Rattle.emission.proofs.Barring.{barring_off}
use Rattle.best_path.specs.Best.{predecessor, greatest}
use Rattle.best_path.specs.Walk.{cell, closed, path_to, value, from, last_state, best_path, best_value}
use Rattle.walk.specs.Barred.{barred}
use Rattle.walk.specs.inner.Path.{Found}

module _ (m : Model) (u d : ℕ) where
  emission_before : (t : ℕ) → t < u → (j : ℕ) → barring u d m.emission t j ≡ m.emission t j
  emission_before t h j = barring_off u d m.emission t j (λ k. let e = k.0 in omega arith)

  -- rows before the bar
  pub value_before : (t : ℕ) → t < u → value (barred u d m) t ≡ value m t
  unfolding value
  value_before zero h = fun_ext (λ (j : ℕ). ap (λ (x : Float). m.initial j ⊕ x) (emission_before 0 h j))
  value_before (suc t) h =
      fun_ext (λ (j : ℕ).
      ap₂ (λ (v : ℕ → Float) (x : Float). cell m.states v (λ (k : ℕ). m.transition k j) x)
      (value_before t (omega arith)) (emission_before (suc t) h j))

  pub from_before : (t : ℕ) → t < u → from (barred u d m) t ≡ from m t
  unfolding from
  from_before zero h = refl
  from_before (suc t) h =
      fun_ext (λ (j : ℕ).
      ap (λ (v : ℕ → Float). predecessor m.states v (λ (k : ℕ). m.transition k j)) (value_before t (omega arith)))

  last_before : (t : ℕ) → t < u → last_state (barred u d m) t ≡ last_state m t
  unfolding last_state
  last_before t h = ap (λ (v : ℕ → Float). greatest m.states (λ (j : ℕ). closed m j (v j))) (value_before t h)

  -- a path asks for predecessors up to its end
  path_before : (t : ℕ) → t < u → (j : ℕ) → path_to (from (barred u d m)) t j ≡ path_to (from m) t j
  unfolding path_to
  path_before zero h j = refl
  path_before (suc t) h j =
      ap₂ (λ (k : ℕ) (p : ℕ → List ℕ). p k ++ (j ∷ []))
      (ap (λ (f : ℕ → ℕ). f j) (from_before (suc t) h)) (fun_ext (path_before t (omega arith)))

  -- ---- n samples, all before the bar
  pub best_path_plain : (n : ℕ) → n ≤ u → best_path (barred u d m) n ≡ best_path m n
  unfolding best_path
  best_path_plain zero h = refl
  best_path_plain (suc t) h = path_before t h (last_state (barred u d m) t) ∙ ap (path_to (from m) t) (last_before t h)

  pub best_value_plain : (n : ℕ) → n ≤ u → best_value (barred u d m) n ≡ best_value m n
  unfolding best_value
  best_value_plain zero h = refl
  best_value_plain (suc t) h = ap₂ (λ (j : ℕ) (v : ℕ → Float). closed m j (v j)) (last_before t h) (value_before t h)

  -- what a walk finds where nothing is barred
  pub found_plain : (n : ℕ) → n ≤ u → (r : Float) (path path' : List ℕ) (values values' : List Float) (from₀ from' : List ℕ)
      → Found (barred u d m) n r path path' values values' from₀ from' → Found m n r path path' values values' from₀ from'
  found_plain n h r path path' values values' from₀ from' f =
      record {
        value_found = f.value_found ∙ best_value_plain n h;
        path_stored = f.path_stored ∙ ap (λ (p : List ℕ). over 0 p path) (best_path_plain n h);
        rows_filled = record {
          values_stored =
              f.rows_filled.values_stored
              ∙ ap (λ (p : List Float). over 0 p values)
              (table_same n m.states _ _ (λ (t j : ℕ) i s. ap (λ (v : ℕ → Float). v j) (value_before t (omega arith))));
          from_stored =
              f.rows_filled.from_stored
              ∙ ap (λ (p : List ℕ). over 0 p from₀)
              (table_same n m.states _ _ (λ (t j : ℕ) i s. ap (λ (v : ℕ → ℕ). v j) (from_before t (omega arith))));
        };
      }
