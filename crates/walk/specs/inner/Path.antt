-- What the whole walk asks and promises.
use Rattle.std.specs.Prelude.{ℕ, ◌≤◌, ◌<◌, ◌≡◌, List, length, Float}
use Rattle.lists.specs.Lists.{over}
use Rattle.model.specs.Lent.{Lent, S, M, T}
use Rattle.model.specs.Model.{Model}
use Rattle.emission.specs.inner.Row.{Symbols}
use Rattle.best_path.specs.Walk.{best_path, best_value}
use Rattle.walk.specs.inner.Rows.{Walkable, Filled}

-- what the walk asks: tables that fit, one sample or more, each a symbol, and room in all outputs
pub record Decodable (l : Lent) (path : List ℕ) (values : List Float) (from : List ℕ) : Type 0 where
  pub walkable : Walkable (S l) (T l) l.tables.transition l.tables.initial values from
  pub symbolic : Symbols (S l) (M l) l.tables.emission l.samples
  pub end_length : length l.tables.end ≡ S l
  pub some_sample : 0 < T l
  pub path_room : T l ≤ length path

-- the value r that is found for n samples of a model, and what the outputs hold at the end
pub record Found (m : Model) (n : ℕ) (r : Float) (path path' : List ℕ) (values values' : List Float) (from₀ from' : List ℕ) : Type 0 where
  pub value_found : r ≡ best_value m n
  pub path_stored : path' ≡ over 0 (best_path m n) path
  pub rows_filled : Filled m n values values' from₀ from'
