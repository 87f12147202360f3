use Rattle.mathprog_data.proofs.Common.{Some, length, slice_range, arith, refl, sym, ◌∙◌, common_steps}
use Rattle.mathprog_data.proofs.ShortNumbers.{point_first}
use Rattle.mathprog_data.proofs.statements.short_number.places_of.Goals as goal

pub returns-then-are_digits : goal.returns-then-are_digits
returns-then-are_digits c =
    let rest = c.args.rest.now in
    (Some (slice_range rest 1 (length rest)), point_first rest (grind (arith, common_steps)) c.if-rest-ne46.false, refl, sym c.are_digits.ensures ∙ c.if-are_digits.true)
