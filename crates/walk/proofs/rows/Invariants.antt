-- `walk::rows` meets its contract. The loop's invariant, `Whole`: the first t rows are laid over each table, and `source` is where
-- the last of them stands.
use Rattle.std.proofs.Common.{◌≡◌, ℕ, ◌*◌, ◌-◌, Bool, length}
use Rattle.std.specs.Prelude.{Float}
use Rattle.lists.proofs.Whole.{Whole}
use Rattle.model.specs.Lent.{S, T, behind}
use Rattle.model.specs.Model.{tabled}
use Rattle.emission.specs.Barring.{barring_by}
use Rattle.emission.specs.inner.Row.{emissions_of}
use Rattle.best_path.specs.Walk as Walk
use Rattle.walk.proofs.rows.Given as goal

abbrev pub invariant-loop-t : goal.invariant-loop-t
invariant-loop-t l = let g = behind l.lent in
    (l.source ≡ (l.t - 1) * S g) × (length l.emissions ≡ 64)
    × (length l.values ≡ length l.initial.values) × (length l.from ≡ length l.initial.from)
    × ((ends : Bool) (end : ℕ → Float) →
    let m = tabled (S g) g.tables.transition g.tables.initial (barring_by l.bar (emissions_of g)) ends end in
    Whole (T g) (S g) (Walk.value m) l.initial.values l.values l.t (l.t * S g)
    × Whole (T g) (S g) (Walk.from m) l.initial.from l.from l.t (l.t * S g))
