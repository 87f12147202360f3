-- A number of 0 adds nothing.
use Rattle.certificate_checker.proofs.Common.{◌≡◌, ◌≢◌, ℤ, pos, sym, ap, ap₂, ◌∙◌, to_z, of_z, w128, IfOk-weaker, all_fit, Rational, plus, times, whole, value_of, back_in_range, Var, term_formed, var_cmp, value_in, number_of}
use Rattle.certificate_checker.proofs.CostSteps.{none_fits, one_fits}
use Rattle.certificate_checker.proofs.costs.with_variable.Goals as goal

pub returns-then-number-eq0-clause-refused : goal.returns-then-number-eq0-clause-refused
returns-then-number-eq0-clause-refused c =
    let cost : Var → ℤ = number_of c.args.cost.now in
    let value : Var → Rational = value_in var_cmp c.args.plan.now in
    let none : cost c.args.variable ≡ pos 0 =
    sym c.number_of-number.ensures.value ∙ sym (back_in_range c.number_of-number.result c.number_of-number.ensures.range) ∙ ap (λ n. to_z w128 n) c.if-number-eq0.true in
    sym (none_fits value (value_of c.args.sum) cost c.args.variable none)

pub returns-else-number-eq0-clause-refused : goal.returns-else-number-eq0-clause-refused
returns-else-number-eq0-clause-refused c =
    let cost : Var → ℤ = number_of c.args.cost.now in
    let value : Var → Rational = value_in var_cmp c.args.plan.now in
    let some : cost c.args.variable ≢ pos 0 = λ e. c.if-number-eq0.false (ap (λ z. of_z w128 z) (c.number_of-number.ensures.value ∙ e)) in
    let number : to_z w128 (of_z w128 c.number_of-number.result) ≡ cost c.args.variable =
    back_in_range c.number_of-number.result c.number_of-number.ensures.range ∙ c.number_of-number.ensures.value in
    c.add_term.ensures.refused
    ∙ ap₂ (λ n v. all_fit (term_formed (value_of c.args.sum) n v)) number c.value.ensures
    ∙ sym (one_fits value (value_of c.args.sum) cost c.args.variable some)
