-- The signs, the columns and the sum in turn.
use Rattle.certificate_checker.proofs.Common.{ℤ, List, [], ◌∷◌, map, err_from_is_err_and, on_ok_weaker, IfErr-weaker, Rational, RowName, Var, row_name_cmp, value_in, Condition, number_of, IsHalt, multiplier_condition, column_condition, bound_condition, multiplier_conditions}
use Rattle.certificate_checker.proofs.ConditionLaws.{halts_in_first, halts_in_second, halts_in_third, pass_all_three}
use Rattle.certificate_checker.proofs.multipliers.check_multipliers.Goals as goal

pub returns-in_err-check_signs-clause-halted : goal.returns-in_err-check_signs-clause-halted
returns-in_err-check_signs-clause-halted c =
    let value : RowName → Rational = value_in row_name_cmp c.args.multipliers.now in
    let cost : Var → ℤ = number_of c.args.cost.now in
    let halt = halts_in_first (map (multiplier_condition value) c.args.rows.now) (map (column_condition cost c.args.rows.now value) c.args.vars.now) (bound_condition c.args.aim c.args.rows.now value ∷ [])
    c.in_err-check_signs.field-0.0 c.in_err-check_signs.ensures.halted in
    let p = err_from_is_err_and c.from_residual.result c.from_residual.ensures.1 in
    rw (p.1, p.2) halt

pub returns-in_err-check_columns-clause-halted : goal.returns-in_err-check_columns-clause-halted
returns-in_err-check_columns-clause-halted c =
    let value : RowName → Rational = value_in row_name_cmp c.args.multipliers.now in
    let cost : Var → ℤ = number_of c.args.cost.now in
    let halt = halts_in_second (map (multiplier_condition value) c.args.rows.now) (map (column_condition cost c.args.rows.now value) c.args.vars.now) (bound_condition c.args.aim c.args.rows.now value ∷ [])
    c.in_err-check_columns.field-0.0 c.in_ok-check_signs.ensures.passed (c.in_err-check_columns.ensures.halted c.args.rows.now value c.requires.sums) in
    let p = err_from_is_err_and c.from_residual-in_err-check_columns.result c.from_residual-in_err-check_columns.ensures.1 in
    rw (p.1, p.2) halt

pub returns-clause-passed : goal.returns-clause-passed
returns-clause-passed c =
    let value : RowName → Rational = value_in row_name_cmp c.args.multipliers.now in
    let cost : Var → ℤ = number_of c.args.cost.now in
    on_ok_weaker c.check_sum.result
    (pass_all_three (map (multiplier_condition value) c.args.rows.now) (map (column_condition cost c.args.rows.now value) c.args.vars.now) (bound_condition c.args.aim c.args.rows.now value ∷ [])
    c.in_ok-check_signs.ensures.passed (c.in_ok-check_columns.ensures.passed c.args.rows.now value c.requires.sums))
    c.check_sum.ensures.passed

pub returns-clause-halted : goal.returns-clause-halted
returns-clause-halted c =
    let value : RowName → Rational = value_in row_name_cmp c.args.multipliers.now in
    let cost : Var → ℤ = number_of c.args.cost.now in
    let last : List Condition = bound_condition c.args.aim c.args.rows.now value ∷ [] in
    IfErr-weaker c.check_sum.result (IsHalt last) (IsHalt (multiplier_conditions c.args.aim cost c.args.rows.now c.args.vars.now value))
    (λ h. halts_in_third (map (multiplier_condition value) c.args.rows.now) (map (column_condition cost c.args.rows.now value) c.args.vars.now) last h c.in_ok-check_signs.ensures.passed (c.in_ok-check_columns.ensures.passed c.args.rows.now value c.requires.sums))
    c.check_sum.ensures.halted
