-- `model::mark` meets its contract: NaN is not good, and a number is good by its bits.
use Rattle.std.proofs.Common.{T, sym, ◌∙◌, subst}
use Rattle.model.proofs.Marks.{good_mark, nan_mark}
use Rattle.model.proofs.mark.Goals as goal

pub returns-then-not-is_number : goal.returns-then-not-is_number
returns-then-not-is_number c = nan_mark _ (sym c.is_number.ensures ∙ c.if-not-is_number.true)

pub float_to_bits-x : goal.float_to_bits-x
float_to_bits-x c = rw (sym c.is_number.ensures ∙ c.if-not-is_number.false) tt

pub returns : goal.returns
returns c = let start = c.before.before.before in
    let number = sym c.is_number.ensures ∙ c.if-not-is_number.false in
    c.mark_of_bits.ensures ∙ good_mark _ (subst T (sym start.well_formed.0.1) tt) (rw number tt)
