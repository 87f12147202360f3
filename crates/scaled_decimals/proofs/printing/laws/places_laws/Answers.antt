use Rattle.scaled_decimals.proofs.Common.{◌∙◌, sym, ap, value_of, millionths, read_millionths}
use Rattle.scaled_decimals.proofs.PrintedLaws.{read-millionths_text, six_places, zero-text, millionths-bound, near, tie}
use Rattle.scaled_decimals.proofs.printing.laws.places_laws.Goals as goal

pub returns-clause-places : goal.returns-clause-places
returns-clause-places c = λ v. six_places (millionths (value_of v)) (millionths-bound v.num v.den v.num_fits v.positive)

pub returns-clause-value : goal.returns-clause-value
returns-clause-value c = λ v. read-millionths_text (millionths (value_of v)) (millionths-bound v.num v.den v.num_fits v.positive)

pub returns-clause-nearest : goal.returns-clause-nearest
returns-clause-nearest c = λ v. near v.num v.den v.positive

pub returns-clause-ties : goal.returns-clause-ties
returns-clause-ties c = λ v. tie v.num v.den v.positive

pub returns-clause-distinct : goal.returns-clause-distinct
returns-clause-distinct c = λ v w e.
    sym (read-millionths_text (millionths (value_of v)) (millionths-bound v.num v.den v.num_fits v.positive))
    ∙ ap read_millionths e
    ∙ read-millionths_text (millionths (value_of w)) (millionths-bound w.num w.den w.num_fits w.positive)

pub returns-clause-zero : goal.returns-clause-zero
returns-clause-zero c = λ v e. zero-text (millionths (value_of v)) e
