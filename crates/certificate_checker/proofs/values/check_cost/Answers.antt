-- The cost as it was formed.
use Rattle.certificate_checker.proofs.Common.{◌≡◌, ℤ, pos, true, false, sym, ap, ◌∙◌, Rational, value_of, back_in_range, Var, var_cmp, value_in, number_of, cost_passes}
use Rattle.certificate_checker.proofs.ValueChecks.{cost_wide, cost_is_passed, cost_fails}
use Rattle.certificate_checker.proofs.values.check_cost.Goals as goal

pub returns-in_default-clause-halted : goal.returns-in_default-clause-halted
returns-in_default-clause-halted c =
    cost_wide c.args.subject (number_of c.args.cost.now) c.args.vars.now (value_in var_cmp c.args.plan.now) (sym c.in_default.ensures.refused)

pub returns-then-cost_passes-clause-passed : goal.returns-then-cost_passes-clause-passed
returns-then-cost_passes-clause-passed c =
    cost_is_passed c.args.subject (number_of c.args.cost.now) c.args.vars.now (value_in var_cmp c.args.plan.now) (value_of c.in-Ok.found) c.in-Ok.ensures.value (sym c.in-Ok.ensures.refused)
    (ap (cost_passes c.args.subject) (sym (back_in_range c.in-Ok.found.num c.in-Ok.found.num_fits)) ∙ sym c.cost_passes.ensures ∙ c.if-cost_passes.true)

pub returns-else-cost_passes-clause-halted : goal.returns-else-cost_passes-clause-halted
returns-else-cost_passes-clause-halted c =
    cost_fails c.args.subject (number_of c.args.cost.now) c.args.vars.now (value_in var_cmp c.args.plan.now) (value_of c.in-Ok.found) c.in-Ok.ensures.value (sym c.in-Ok.ensures.refused)
    (ap (cost_passes c.args.subject) (sym (back_in_range c.in-Ok.found.num c.in-Ok.found.num_fits)) ∙ sym c.cost_passes.ensures ∙ c.if-cost_passes.false)
