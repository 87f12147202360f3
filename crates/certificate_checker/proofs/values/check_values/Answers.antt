-- The rows, the signs and the cost in turn.
use Rattle.certificate_checker.proofs.Common.{ℤ, List, [], ◌∷◌, map, err_from_is_err_and, on_ok_weaker, IfErr-weaker, Rational, Row, Var, var_cmp, value_in, Subject, Condition, AllPass, number_of, IsHalt, row_condition, sign_condition, cost_condition, value_conditions}
use Rattle.certificate_checker.proofs.ConditionLaws.{halts_in_first, halts_in_second, halts_in_third, pass_all_three}
use Rattle.certificate_checker.proofs.values.check_values.Goals as goal

pub returns-in_err-check_rows-clause-halted : goal.returns-in_err-check_rows-clause-halted
returns-in_err-check_rows-clause-halted c =
    let value : Var → Rational = value_in var_cmp c.args.plan.now in
    let halt = halts_in_first (map (row_condition c.args.subject value) c.args.rows.now) (map (sign_condition value) c.args.vars.now) (cost_condition c.args.subject (number_of c.args.cost.now) c.args.vars.now value ∷ [])
    c.in_err-check_rows.field-0.0 c.in_err-check_rows.ensures.halted in
    let p = err_from_is_err_and c.from_residual.result c.from_residual.ensures.1 in
    rw (p.1, p.2) halt

pub returns-in_err-check_signs-clause-halted : goal.returns-in_err-check_signs-clause-halted
returns-in_err-check_signs-clause-halted c =
    let value : Var → Rational = value_in var_cmp c.args.plan.now in
    let halt = halts_in_second (map (row_condition c.args.subject value) c.args.rows.now) (map (sign_condition value) c.args.vars.now) (cost_condition c.args.subject (number_of c.args.cost.now) c.args.vars.now value ∷ [])
    c.in_err-check_signs.field-0.0 c.in_ok-check_rows.ensures.passed c.in_err-check_signs.ensures.halted in
    let p = err_from_is_err_and c.from_residual-in_err-check_signs.result c.from_residual-in_err-check_signs.ensures.1 in
    rw (p.1, p.2) halt

pub returns-clause-passed : goal.returns-clause-passed
returns-clause-passed c =
    let value : Var → Rational = value_in var_cmp c.args.plan.now in
    on_ok_weaker c.check_cost.result
    (pass_all_three (map (row_condition c.args.subject value) c.args.rows.now) (map (sign_condition value) c.args.vars.now) (cost_condition c.args.subject (number_of c.args.cost.now) c.args.vars.now value ∷ [])
    c.in_ok-check_rows.ensures.passed c.in_ok-check_signs.ensures.passed)
    c.check_cost.ensures.passed

pub returns-clause-halted : goal.returns-clause-halted
returns-clause-halted c =
    let value : Var → Rational = value_in var_cmp c.args.plan.now in
    let last : List Condition = cost_condition c.args.subject (number_of c.args.cost.now) c.args.vars.now value ∷ [] in
    IfErr-weaker c.check_cost.result (IsHalt last) (IsHalt (value_conditions c.args.subject (number_of c.args.cost.now) c.args.rows.now c.args.vars.now value))
    (λ h. halts_in_third (map (row_condition c.args.subject value) c.args.rows.now) (map (sign_condition value) c.args.vars.now) last h c.in_ok-check_rows.ensures.passed c.in_ok-check_signs.ensures.passed)
    c.check_cost.ensures.halted
