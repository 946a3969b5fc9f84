-- `rival::walk_both` meets its contract: the rival's rows are laid over those of the best path.
use native.Mathlib.Omega.{arith}
use Rattle.model.specs.Lent.{behind}
use Rattle.walk.proofs.Ready.{decodable}
use Rattle.rival.proofs.Outcome.{both_found}
use Rattle.rival.proofs.walk_both.Goals as goal

pub decode-requires : goal.decode-requires
decode-requires c = let g = behind c.args.lent.now in
    let room = c.requires.roomy in
    decodable g _ _ _ c.requires.accepted c.requires.some_sample room.0 room.1.1.0 room.1.1.1.0

pub decode-requires-2 : goal.decode-requires-2
decode-requires-2 c = let g = behind c.args.lent.now in
    let room = c.requires.roomy in
    decodable g _ _ _ c.requires.accepted c.requires.some_sample room.1.0
    (omega (arith, room.1.1.0, c.decode.auto.values))
    (omega (arith, room.1.1.1.0, c.decode.auto.from))

pub returns : goal.returns
returns c = let g = behind c.args.lent.now in
    both_found g _ _ _ _ _ _ _ _ c.decode.ensures c.decode-2.ensures
