-- F1 to F5: the files are written and read by computation.
use mathlib.Core.Path.{refl}
use lib.ListN.{drop}
use lib.Ieee.{of_bits, of_int, to_bits, le, is_nan}
use Rattle.floats.specs.Float.{is_plus_zero}
use Rattle.lists.specs.Lists.{tab, flat, over, first_bad}
use Rattle.little_endian.specs.Bytes.{little, value, bytes, words, total, sum}
use Rattle.answer.specs.Checks.{first_of}
use Rattle.model.specs.Good.{good, good_end, good_bits}
use Rattle.checks.specs.Checks.{shape_tests, room_tests, entry_tests, tests_of}
use Rattle.file_layout.specs.Layout.{size, offset, first, label, layout, file_of, model_file}
use Rattle.file_layout.specs.Reading.{shape_of, body_at, sum_of, end_at}
use Rattle.file_layout.specs.Checks.{pattern, first_wrong, layout_tests, sum_tests, word_tests, read_tests}
use Rattle.file_laws.specs.Flip.{flip}
use Rattle.gate_posts.specs.Models.{minus}
use Rattle.gate_posts.specs.Files.{bodies_p, file_p, end_e, file_e}
use Rattle.gate_posts.specs.Table.{AllHold, gate_posts}
use Rattle.gate_posts.proofs.Example.{holds}

pub files : AllHold (drop 32 gate_posts)
unfolding gate_posts minus bodies_p file_p end_e file_e tab flat over first_bad little value bytes words total sum first_of good good_end good_bits is_plus_zero
    shape_tests room_tests entry_tests tests_of size offset first label layout file_of model_file shape_of body_at sum_of end_at pattern
    first_wrong layout_tests sum_tests word_tests read_tests flip of_bits of_int to_bits le is_nan
files =
    let ending : AllHold (drop 36 gate_posts) = (holds _ refl refl, (holds _ refl refl, tt)) in
    let spoiled : AllHold (drop 34 gate_posts) = (holds _ refl refl, (holds _ refl refl, ending)) in
    (holds _ refl refl, (holds _ refl refl, spoiled))
