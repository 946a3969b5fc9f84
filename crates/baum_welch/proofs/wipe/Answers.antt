-- `baum_welch::wipe` meets its contract: the front is filled with zeros.
use borrow.Author.Rules.{rules}
use lib.Ieee.{of_bits}
use Rattle.baum_welch.proofs.Wiped.{filled}
use Rattle.baum_welch.proofs.wipe.Goals as goal

pub returns : goal.returns
unfolding of_bits
returns c = filled _ _ _ _ (c.fill.ensures.after (λ y e. search rules)) c.requires
