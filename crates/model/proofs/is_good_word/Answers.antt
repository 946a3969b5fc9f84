-- `model::is_good_word` meets its contract: the top bit of the word's mark.
use Rattle.std.proofs.Common.{◌∙◌}
use Rattle.model.proofs.is_good_word.Goals as goal

pub returns : goal.returns
returns c = c.is_set.ensures ∙ c.mark_of_word.ensures
