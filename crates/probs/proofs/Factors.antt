-- The two PHRED factors: each literal of the code is the f64 nearest to its decimal.
use mathlib.Core.Path.{◌≡◌, refl}
use lib.Ieee.{binary64, of_bits, round, size, neg}
use Rattle.probs.specs.Calls.{log_to_phred, phred_to_log}

pub log_to_phred_lem : of_bits binary64 0xc0115f2ced384f28 ≡ log_to_phred
unfolding of_bits log_to_phred round size neg
log_to_phred_lem = refl

pub phred_to_log_lem : of_bits binary64 0xbfcd791c5f888822 ≡ phred_to_log
unfolding of_bits phred_to_log round size neg
phred_to_log_lem = refl
