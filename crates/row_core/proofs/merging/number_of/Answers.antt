-- What is found is the number, and it fits.
use Rattle.row_core.proofs.Common.{◌≡◌, sym, ap, ◌∙◌, subst, InRange, back_in_range, number_at}
use Rattle.row_core.proofs.PlanValueLaws.{number_or_zero, number_at-value, number_at-fits}
use Rattle.row_core.proofs.merging.number_of.Goals as goal

pub returns-in-Some-clause-value : goal.returns-in-Some-clause-value
returns-in-Some-clause-value c =
    let v = c.args.variable in
    let there : number_at c.args.entries.now v ≡ c.in-Some.number = number_at-value c.args.entries.now v ∙ ap number_or_zero (sym c.in-Some.ensures) in
    back_in_range c.in-Some.number (subst InRange there (number_at-fits c.args.entries.now v c.requires.fits)) ∙ sym there

pub returns-in-Some-clause-range : goal.returns-in-Some-clause-range
returns-in-Some-clause-range c =
    subst InRange (sym (returns-in-Some-clause-value c)) (number_at-fits c.args.entries.now c.args.variable c.requires.fits)

pub returns-in-None-clause-value : goal.returns-in-None-clause-value
returns-in-None-clause-value c = sym (number_at-value c.args.entries.now c.args.variable ∙ ap number_or_zero (sym c.in-None.ensures))
