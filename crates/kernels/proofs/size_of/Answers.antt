-- `kernels::size_of` meets its contract.
use Rattle.kernels.proofs.Size.{leading_size}
use Rattle.kernels.proofs.size_of.Goals as goal

pub returns : goal.returns
returns c = rw c.from.ensures (leading_size c.args.q c.requires c.ranges.q.fits)
