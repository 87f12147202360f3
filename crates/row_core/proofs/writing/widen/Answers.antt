-- A denominator of 1 widens nothing, and neither does the common one itself.
use Rattle.row_core.proofs.Common.{◌≡◌, pos, sym, ap, ◌∙◌, to_z, w128, in_range, back_in_range, true-in_range}
use Rattle.row_core.proofs.DivisionLaws.{widened-one, widened-own}
use Rattle.row_core.proofs.writing.widen.Goals as goal

pub returns-then-other-eq1-clause-value : goal.returns-then-other-eq1-clause-value
returns-then-other-eq1-clause-value c =
    let one : c.args.other ≡ pos 1 = sym (back_in_range c.args.other c.requires.other_fits) ∙ ap (λ n. to_z w128 n) c.if-other-eq1.true in
    back_in_range c.args.denominator c.requires.fits ∙ sym (widened-one c.args.denominator c.args.other one)

pub returns-then-other-denominator-clause-refused : goal.returns-then-other-denominator-clause-refused
returns-then-other-denominator-clause-refused c =
    let own : c.args.other ≡ c.args.denominator =
    sym (back_in_range c.args.other c.requires.other_fits) ∙ ap (λ n. to_z w128 n) c.if-other-denominator.true ∙ back_in_range c.args.denominator c.requires.fits in
    true-in_range c.args.denominator c.requires.fits ∙ ap in_range (sym (widened-own c.args.denominator c.args.other c.requires.positive own))

pub returns-then-other-denominator-clause-value : goal.returns-then-other-denominator-clause-value
returns-then-other-denominator-clause-value c =
    let own : c.args.other ≡ c.args.denominator =
    sym (back_in_range c.args.other c.requires.other_fits) ∙ ap (λ n. to_z w128 n) c.if-other-denominator.true ∙ back_in_range c.args.denominator c.requires.fits in
    back_in_range c.args.denominator c.requires.fits ∙ sym (widened-own c.args.denominator c.args.other c.requires.positive own)
