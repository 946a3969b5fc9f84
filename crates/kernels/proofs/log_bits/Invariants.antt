-- `kernels::log_bits` meets its contract. The invariant: a is below 2^32, f has as many bits as turns were taken, and the squarings left to do give the answer.
use Rattle.kernels.proofs.Squares.{Squared}
use Rattle.kernels.proofs.log_bits.Given as goal

abbrev pub invariant-loop : goal.invariant-loop
invariant-loop l = Squared l.m l.counter l.a l.f
