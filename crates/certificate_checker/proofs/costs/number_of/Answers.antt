-- The number that stands in the list, or 0.
use Rattle.certificate_checker.proofs.Common.{◌≡◌, ℤ, pos, sym, ap, ◌∙◌, subst, to_z, of_z, w128, InRange, back_in_range, number_at, number_or_zero, number_at-value, number_of, IsCost}
use Rattle.certificate_checker.proofs.CostSteps.{given_fits}
use Rattle.certificate_checker.proofs.costs.number_of.Goals as goal

pub returns-in-Some-clause-value : goal.returns-in-Some-clause-value
returns-in-Some-clause-value c =
    let v = c.args.variable in
    let given = subst IsCost c.in-Given.is c.requires in
    let is : number_at c.in-Given.entries.now v ≡ c.in-Some.number = number_at-value c.in-Given.entries.now v ∙ ap number_or_zero (sym c.look_up.ensures ∙ c.in-Some.is) in
    back_in_range c.in-Some.number (subst InRange is (given_fits c.in-Given.entries.now v given.1)) ∙ sym is ∙ sym (ap (λ k. number_of k v) c.in-Given.is)

pub returns-in-Some-clause-range : goal.returns-in-Some-clause-range
returns-in-Some-clause-range c =
    let v = c.args.variable in
    let given = subst IsCost c.in-Given.is c.requires in
    let is : number_at c.in-Given.entries.now v ≡ c.in-Some.number = number_at-value c.in-Given.entries.now v ∙ ap number_or_zero (sym c.look_up.ensures ∙ c.in-Some.is) in
    let fits : InRange c.in-Some.number = subst InRange is (given_fits c.in-Given.entries.now v given.1) in
    subst InRange (sym (back_in_range c.in-Some.number fits)) fits

pub returns-in-None-clause-value : goal.returns-in-None-clause-value
returns-in-None-clause-value c =
    let v = c.args.variable in
    let is : number_at c.in-Given.entries.now v ≡ pos 0 = number_at-value c.in-Given.entries.now v ∙ ap number_or_zero (sym c.look_up.ensures ∙ c.in-None.is) in
    sym is ∙ sym (ap (λ k. number_of k v) c.in-Given.is)
