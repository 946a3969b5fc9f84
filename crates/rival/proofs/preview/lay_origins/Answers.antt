-- `rival::preview::lay_origins` meets its contract, in each of the three ways in which it returns.
use native.Mathlib.Omega.{arith}
use Rattle.rival.proofs.Origins.{own_laid, followed_laid}
use Rattle.rival.proofs.preview.lay_origins.Goals as goal

pub returns-then-t-index-2 : goal.returns-then-t-index-2
returns-then-t-index-2 c = own_laid _ _ _ _ _ _ _ c.if-t-index-2.true c.first_from.ensures

pub returns : goal.returns
returns c = followed_laid _ _ _ _ _ _ _ (omega (arith, c.if-t-index-2.false, c.if-t-index.false)) c.follow.ensures
