-- Which entries are good is decided by their bits.
use Rattle.model.proofs.GoodBits.{good_bits_lem, good_end_bits_lem, good_value}
use Rattle.kernel_promises.specs.EntryBits.{GoodByBits}

pub good_by_bits : GoodByBits
good_by_bits =
    record {
      words = good_bits_lem;
      end_words = λ ends w small. good_end_bits_lem w small ends;
      values = good_value;
    }
