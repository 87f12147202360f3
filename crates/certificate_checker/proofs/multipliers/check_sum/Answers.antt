-- The sum as it was formed.
use Rattle.certificate_checker.proofs.Common.{◌≡◌, true, false, sym, ap, ◌∙◌, value_of, back_in_range, row_name_cmp, value_in, bound_passes}
use Rattle.certificate_checker.proofs.MultiplierSteps.{bound_wide, bound_is_passed, bound_fails}
use Rattle.certificate_checker.proofs.multipliers.check_sum.Goals as goal

pub returns-in_default-clause-halted : goal.returns-in_default-clause-halted
returns-in_default-clause-halted c = bound_wide c.args.aim c.args.rows.now (value_in row_name_cmp c.args.multipliers.now) (sym c.in_default.ensures.refused)

pub returns-then-bound_passes-clause-passed : goal.returns-then-bound_passes-clause-passed
returns-then-bound_passes-clause-passed c =
    bound_is_passed c.args.aim c.args.rows.now (value_in row_name_cmp c.args.multipliers.now) (value_of c.in-Ok.sum) c.in-Ok.ensures.value (sym c.in-Ok.ensures.refused)
    (ap (bound_passes c.args.aim) (sym (back_in_range c.in-Ok.sum.num c.in-Ok.sum.num_fits)) ∙ sym c.bound_passes.ensures ∙ c.if-bound_passes.true)

pub returns-else-bound_passes-clause-halted : goal.returns-else-bound_passes-clause-halted
returns-else-bound_passes-clause-halted c =
    bound_fails c.args.aim c.args.rows.now (value_in row_name_cmp c.args.multipliers.now) (value_of c.in-Ok.sum) c.in-Ok.ensures.value (sym c.in-Ok.ensures.refused)
    (ap (bound_passes c.args.aim) (sym (back_in_range c.in-Ok.sum.num c.in-Ok.sum.num_fits)) ∙ sym c.bound_passes.ensures ∙ c.if-bound_passes.false)
