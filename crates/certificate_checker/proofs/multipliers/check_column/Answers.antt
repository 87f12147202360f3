-- The sum, the cost's number, and their difference as they were formed.
use Rattle.certificate_checker.proofs.Common.{◌≡◌, ℤ, true, false, List, sym, ap, ap₂, ◌∙◌, to_z, of_z, w128, Rational, whole, value_of, back_in_range, Row, RowName, Var, seen, number_of, is_within}
use Rattle.certificate_checker.proofs.MultiplierSteps.{column_wide, column_passes, column_fails, column_amount_wide}
use Rattle.certificate_checker.proofs.multipliers.check_column.Goals as goal

abbrev read : ℤ → ℤ
read z = to_z w128 (of_z w128 z)

pub returns-in_default-clause-halted : goal.returns-in_default-clause-halted
returns-in_default-clause-halted c rows value same =
    column_wide (number_of c.args.cost.now) rows value c.args.variable (sym (ap seen c.in_default.is) ∙ same)

pub returns-then-is_within-clause-passed : goal.returns-then-is_within-clause-passed
returns-then-is_within-clause-passed c rows value same =
    let cost : Var → ℤ = number_of c.args.cost.now in
    let v = c.args.variable in
    let number : value_of c.fraction-number.result ≡ whole (cost v) = c.fraction-number.ensures ∙ ap whole (back_in_range c.number_of.result c.number_of.ensures.range ∙ c.number_of.ensures.value) in
    column_passes cost rows value v (value_of c.in-Some.sum) (value_of c.fraction-number.result) (sym (ap seen c.in-Some.is) ∙ same) number
    (sym (c.is_within.ensures ∙ ap₂ is_within c.may_be_negative.ensures c.cmp_frac.ensures) ∙ c.if-is_within.true)

pub returns-in-Ok-clause-halted : goal.returns-in-Ok-clause-halted
returns-in-Ok-clause-halted c rows value same =
    let cost : Var → ℤ = number_of c.args.cost.now in
    let v = c.args.variable in
    let number : value_of c.fraction-number.result ≡ whole (cost v) = c.fraction-number.ensures ∙ ap whole (back_in_range c.number_of.result c.number_of.ensures.range ∙ c.number_of.ensures.value) in
    column_fails cost rows value v (value_of c.in-Some.sum) (value_of c.fraction-number.result) (value_of c.in-Ok.rest) (value_of c.absolute.result) (sym (ap seen c.in-Some.is) ∙ same) number
    (sym (c.is_within.ensures ∙ ap₂ is_within c.may_be_negative.ensures c.cmp_frac.ensures) ∙ c.if-is_within.false)
    (sym c.in-Ok.ensures.refused) c.in-Ok.ensures.value c.absolute.ensures

pub returns-in-Err-clause-halted : goal.returns-in-Err-clause-halted
returns-in-Err-clause-halted c rows value same =
    let cost : Var → ℤ = number_of c.args.cost.now in
    let v = c.args.variable in
    let number : value_of c.fraction-number.result ≡ whole (cost v) = c.fraction-number.ensures ∙ ap whole (back_in_range c.number_of.result c.number_of.ensures.range ∙ c.number_of.ensures.value) in
    column_amount_wide cost rows value v (value_of c.in-Some.sum) (value_of c.fraction-number.result) (sym (ap seen c.in-Some.is) ∙ same) number
    (sym (c.is_within.ensures ∙ ap₂ is_within c.may_be_negative.ensures c.cmp_frac.ensures) ∙ c.if-is_within.false)
    (sym c.in-Err.ensures.refused)
