-- Over its own denominator a number keeps its numerator.
use Rattle.row_core.proofs.Common.{◌≡◌, sym, ap, ◌∙◌, to_z, w128, in_range, value_of, back_in_range, true-in_range}
use Rattle.row_core.proofs.DivisionLaws.{numerator_over-own}
use Rattle.row_core.proofs.writing.numerator.Goals as goal

pub returns-then-number-denominator-clause-refused : goal.returns-then-number-denominator-clause-refused
returns-then-number-denominator-clause-refused c =
    let own : c.args.number.now.den ≡ c.args.denominator =
    sym (back_in_range c.args.number.now.den c.args.number.now.den_fits) ∙ ap (λ n. to_z w128 n) c.if-number-denominator.true ∙ back_in_range c.args.denominator c.requires.fits in
    true-in_range c.args.number.now.num c.args.number.now.num_fits
    ∙ ap in_range (sym (numerator_over-own c.args.denominator (value_of c.args.number.now) c.requires.positive own))

pub returns-then-number-denominator-clause-value : goal.returns-then-number-denominator-clause-value
returns-then-number-denominator-clause-value c =
    let own : c.args.number.now.den ≡ c.args.denominator =
    sym (back_in_range c.args.number.now.den c.args.number.now.den_fits) ∙ ap (λ n. to_z w128 n) c.if-number-denominator.true ∙ back_in_range c.args.denominator c.requires.fits in
    back_in_range c.args.number.now.num c.args.number.now.num_fits
    ∙ sym (numerator_over-own c.args.denominator (value_of c.args.number.now) c.requires.positive own)
