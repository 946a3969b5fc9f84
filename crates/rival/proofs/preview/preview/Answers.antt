-- `rival::preview::preview` meets its contract: the state that is asked for is the origin of the last one.
use Rattle.std.proofs.Common.{◌≡◌, ℕ, ◌-◌, ◌<◌, ◌∙◌, arith}
use Rattle.lists.proofs.Over.{length_tab}
use Rattle.model.specs.Lent.{T, behind}
use Rattle.model.specs.Model.{Model, model_of}
use Rattle.best_path.specs.Walk.{last_state}
use Rattle.best_path.proofs.States.{last_below_lem}
use Rattle.best_path.proofs.Found.{last_found, value_found}
use Rattle.walk.specs.Barred.{barred_by}
use Rattle.rival.proofs.Origins.{origin_found}
use Rattle.rival.proofs.preview.preview.Goals as goal

-- a state that is the best path's last is a state
is_state : (m : Model) (n k : ℕ) → 0 < m.states → k ≡ last_state m (n - 1) → k < m.states
is_state m n k some is = omega (arith, is, last_below_lem m some (n - 1))

pub close-requires : goal.close-requires
close-requires c =
    let g = behind c.args.lent.now in
    let m = barred_by c.args.bar (model_of g) in
    let tables = c.requires.accepted.tables in
    let some = tables.in_range.some_state in
    let carried = c.carry.ensures in
    let is = last_found m (T g) some (omega (arith, c.requires.index_in_bounds)) _ carried.row _ c.last_state-last.ensures in
    let below = is_state m (T g) _ some is in
    rw (carried.row, length_tab) (omega (arith, below, tables.end_length), below)

pub bounds-carried-last : goal.bounds-carried-last
bounds-carried-last c =
    let g = behind c.args.lent.now in
    let m = barred_by c.args.bar (model_of g) in
    let range = c.requires.accepted.tables.in_range in
    let is = last_found m (T g) range.some_state (omega (arith, c.requires.index_in_bounds)) _ c.carry.ensures.row _ c.last_state-last.ensures in
    omega (arith, range.few_states, is_state m (T g) _ range.some_state is)

pub returns : goal.returns
returns c =
    let g = behind c.args.lent.now in
    let m = barred_by c.args.bar (model_of g) in
    let some = c.requires.accepted.tables.in_range.some_state in
    let sample : 0 < T g = omega (arith, c.requires.index_in_bounds) in
    let carried = c.carry.ensures in
    let is = last_found m (T g) some sample _ carried.row _ c.last_state-last.ensures in
    let v = c.close.ensures ∙ value_found m (T g) some sample _ carried.row c.last_state-last.result is in
    let k = origin_found m c.args.index (T g) _ some c.requires.index_in_bounds carried.origins c.last_state-last.result is in
    λ i. record { value = v i; state = k i }
