-- Row by row.
use Rattle.certificate_checker.proofs.Common.{map, err_from_is_err_and, Row, var_cmp, value_in, Condition, row_condition}
use Rattle.certificate_checker.proofs.ConditionLaws.{Passes-from, loop_next, loop_halts, loop_done}
use Rattle.certificate_checker.proofs.values.check_rows.Goals as goal

pub returns-in_err-check_row-clause-halted : goal.returns-in_err-check_row-clause-halted
returns-in_err-check_row-clause-halted c =
    let condition : Row → Condition = row_condition c.args.subject (value_in var_cmp c.args.plan.now) in
    let halt = loop_halts condition (map condition c.args.rows.now) c.args.rows.now c.loop-row.row-index c.row-item.result c.row-item.result c.in_err-check_row.field-0.0
    c.loop-row-test.true c.row-item.is c.loop-row.invariant c.in_err-check_row.ensures.halted in
    let p = err_from_is_err_and c.from_residual.result c.from_residual.ensures.1 in
    rw (p.1, p.2) halt

pub loop-row-preserved : goal.loop-row-preserved
loop-row-preserved c =
    let condition : Row → Condition = row_condition c.args.subject (value_in var_cmp c.args.plan.now) in
    loop_next condition (map condition c.args.rows.now) c.args.rows.now c.loop-row.row-index c.row-item.result c.row-item.result
    c.loop-row-test.true c.row-item.is c.loop-row.invariant (Passes-from (condition c.row-item.result) c.in_ok-check_row.ensures.passed)

pub returns-clause-passed : goal.returns-clause-passed
returns-clause-passed c =
    let condition : Row → Condition = row_condition c.args.subject (value_in var_cmp c.args.plan.now) in
    loop_done condition (map condition c.args.rows.now) c.args.rows.now c.loop-row.row-index c.loop-row-test.false c.loop-row.invariant
