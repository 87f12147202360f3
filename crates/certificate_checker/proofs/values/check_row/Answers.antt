-- The row at the values, and its right side as it was read.
use Rattle.certificate_checker.proofs.Common.{◌≡◌, ℤ, pos, true, false, [], ◌∷◌, sym, ap, ◌∙◌, to_z, of_z, subst, w128, InRange, all_fit, Rational, value_of, back_in_range, Var, evaluated, evaluated_formed, var_cmp, value_in, stands, IsWideAt, right_of, row_condition}
use Rattle.certificate_checker.proofs.ConditionLaws.{Passes-alone}
use Rattle.certificate_checker.proofs.ValueChecks.{row_passes, row_fails, row_wide}
use Rattle.certificate_checker.proofs.values.check_row.Goals as goal

abbrev read : ℤ → ℤ
read z = to_z w128 (of_z w128 z)

pub returns-then-stands_to_zero-clause-passed : goal.returns-then-stands_to_zero-clause-passed
returns-then-stands_to_zero-clause-passed c =
    let row = c.args.row.now in
    let value : Var → Rational = value_in var_cmp c.args.plan.now in
    let side : read c.right_of.result ≡ right_of c.args.subject row = back_in_range c.right_of.result c.right_of.ensures.range ∙ c.right_of.ensures.value in
    Passes-alone (row_condition c.args.subject value row)
    (row_passes c.args.subject value row (value_of c.in-Ok.rest)
    (c.in-Ok.ensures.value ∙ ap (evaluated value row.entries.items) side)
    (sym (ap (λ r. all_fit (evaluated_formed value row.entries.items r)) side) ∙ c.in-Ok.ensures.fits)
    (ap (λ n. stands row.sense n (pos 0)) (sym (back_in_range c.in-Ok.rest.num c.in-Ok.rest.num_fits)) ∙ sym c.stands_to_zero.ensures ∙ c.if-stands_to_zero.true))

pub returns-else-stands_to_zero-clause-halted : goal.returns-else-stands_to_zero-clause-halted
returns-else-stands_to_zero-clause-halted c =
    let row = c.args.row.now in
    let value : Var → Rational = value_in var_cmp c.args.plan.now in
    let side : read c.right_of.result ≡ right_of c.args.subject row = back_in_range c.right_of.result c.right_of.ensures.range ∙ c.right_of.ensures.value in
    row_fails c.args.subject value row (value_of c.in-Ok.rest) (value_of c.absolute.result)
    (c.in-Ok.ensures.value ∙ ap (evaluated value row.entries.items) side)
    (sym (ap (λ r. all_fit (evaluated_formed value row.entries.items r)) side) ∙ c.in-Ok.ensures.fits)
    (ap (λ n. stands row.sense n (pos 0)) (sym (back_in_range c.in-Ok.rest.num c.in-Ok.rest.num_fits)) ∙ sym c.stands_to_zero.ensures ∙ c.if-stands_to_zero.false)
    c.absolute.ensures

pub returns-in_default-clause-halted : goal.returns-in_default-clause-halted
returns-in_default-clause-halted c =
    let row = c.args.row.now in
    let value : Var → Rational = value_in var_cmp c.args.plan.now in
    let side : read c.right_of.result ≡ right_of c.args.subject row = back_in_range c.right_of.result c.right_of.ensures.range ∙ c.right_of.ensures.value in
    (row_wide c.args.subject value row (sym (ap (λ r. all_fit (evaluated_formed value row.entries.items r)) side) ∙ c.in_default.ensures.stopped.1))
