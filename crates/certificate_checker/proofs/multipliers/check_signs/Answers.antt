-- Row by row.
use Rattle.certificate_checker.proofs.Common.{map, err_from_is_err_and, Row, row_name_cmp, value_in, Condition, multiplier_condition}
use Rattle.certificate_checker.proofs.ConditionLaws.{Passes-from, loop_next, loop_halts, loop_done}
use Rattle.certificate_checker.proofs.multipliers.check_signs.Goals as goal

pub returns-in_err-check_sign-clause-halted : goal.returns-in_err-check_sign-clause-halted
returns-in_err-check_sign-clause-halted c =
    let condition : Row → Condition = multiplier_condition (value_in row_name_cmp c.args.multipliers.now) in
    let halt = loop_halts condition (map condition c.args.rows.now) c.args.rows.now c.loop-row.row-index c.row-item.result c.row-item.result c.in_err-check_sign.field-0.0
    c.loop-row-test.true c.row-item.is c.loop-row.invariant c.in_err-check_sign.ensures.halted in
    let p = err_from_is_err_and c.from_residual.result c.from_residual.ensures.1 in
    rw (p.1, p.2) halt

pub loop-row-preserved : goal.loop-row-preserved
loop-row-preserved c =
    let condition : Row → Condition = multiplier_condition (value_in row_name_cmp c.args.multipliers.now) in
    loop_next condition (map condition c.args.rows.now) c.args.rows.now c.loop-row.row-index c.row-item.result c.row-item.result
    c.loop-row-test.true c.row-item.is c.loop-row.invariant (Passes-from (condition c.row-item.result) c.in_ok-check_sign.ensures.passed)

pub returns-clause-passed : goal.returns-clause-passed
returns-clause-passed c =
    let condition : Row → Condition = multiplier_condition (value_in row_name_cmp c.args.multipliers.now) in
    loop_done condition (map condition c.args.rows.now) c.args.rows.now c.loop-row.row-index c.loop-row-test.false c.loop-row.invariant
