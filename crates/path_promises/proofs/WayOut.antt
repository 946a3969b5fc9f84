-- The rows of a best path do not read the end: they are the same with any.
use Prim.Native.Nat.{ℕ, zero, suc, ◌*◌}
use mathlib.Core.Path.{◌≡◌, refl, sym, ap, fun_ext, ◌∙◌}
use mathlib.Core.Bool.{Bool, true}
use mathlib.Core.List.{List}
use lib.ListN.{take}
use lib.Ieee.{Float}
use Rattle.floats.specs.Float.{at}
use Rattle.lists.specs.Lists.{table, after}
use Rattle.model.specs.Lent.{Lent, S, T}
use Rattle.model.specs.Model.{Model, tabled, model_of}
use Rattle.best_path.specs.Best.{predecessor}
use Rattle.best_path.specs.Walk.{cell, value, from}
use Rattle.path_promises.specs.WayOut.{SameButForTheEnd, EndMovesNoRow}
use Rattle.path_promises.proofs.Calls.{passed}
use Rattle.checks.proofs.Left.{rows_front}

-- ---- a model with another end
module _ (l : Lent) (ends : Bool) (end : ℕ → Float) where
  abbrev m : Model
  m = model_of l

  abbrev h : Model
  h = tabled (S l) l.tables.transition l.tables.initial m.emission ends end

  same_row : (t : ℕ) → value h t ≡ value m t
  unfolding value
  same_row zero = refl
  same_row (suc t) =
      fun_ext (λ (j : ℕ). ap (λ (v : ℕ → Float). cell (S l) v (λ (k : ℕ). m.transition k j) (m.emission (suc t) j)) (same_row t))

  same_from : (t : ℕ) → from h t ≡ from m t
  unfolding from
  same_from zero = refl
  same_from (suc t) = fun_ext (λ (j : ℕ). ap (λ (v : ℕ → Float). predecessor (S l) v (λ (k : ℕ). m.transition k j)) (same_row t))

-- ---- two calls
module _ (l l' : Lent) (q : SameButForTheEnd l l') where
  -- the first one's end
  abbrev ends : Bool
  ends = l.tables.shape.ends

  abbrev end : ℕ → Float
  end = at l.tables.end

  values_same : value (model_of l) ≡ value (model_of l')
  values_same = rw (q.states, q.symbols, q.transition, q.emission, q.initial, q.samples) (fun_ext (same_row l' ends end))

  from_same : from (model_of l) ≡ from (model_of l')
  from_same = rw (q.states, q.symbols, q.transition, q.emission, q.initial, q.samples) (fun_ext (same_from l' ends end))

  -- an output of a row for each sample, which both have written by the same rule
  rows_same : {A : Type 0} (f f' : ℕ → ℕ → A) → f ≡ f' → (b b' : Bool) → b ≡ true → b' ≡ true → (o e o' e' : List A)
      → e ≡ after b (table (T l) (S l) f) o → e' ≡ after b' (table (T l') (S l') f') o' → take (T l * S l) e ≡ take (T l * S l) e'
  rows_same f f' same b b' d d' o e o' e' h h' =
      rows_front b (T l) (S l) f o e h d
      ∙ rw (same, q.samples, q.states) (sym (rows_front b' (T l') (S l') f' o' e' h' d'))

pub end_moves_no_row : EndMovesNoRow
end_moves_no_row l l' o e o' e' r r' q p d p' d' =
    let b = passed l o e r p d in
    let b' = passed l' o' e' r' p' d' in (
      rows_same l l' q (value (model_of l)) _ (values_same l l' q) _ _ b b' _ _ _ _ p.values p'.values,
      rows_same l l' q (from (model_of l)) _ (from_same l l' q) _ _ b b' _ _ _ _ p.from p'.from,
    )
