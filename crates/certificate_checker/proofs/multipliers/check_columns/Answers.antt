-- Variable by variable.
use Rattle.certificate_checker.proofs.Common.{◌≡◌, ℕ, ◌<◌, List, None, length, map, get_or, refl, sym, ap, ◌∙◌, arith, get_or_default, err_from_is_err_and, Rational, Row, RowName, Var, seen, variable_at, column_partial, AreColumnSums, Condition, number_of, column_condition}
use Rattle.certificate_checker.proofs.ColumnSteps.{none}
use Rattle.certificate_checker.proofs.ConditionLaws.{Passes-from, loop_next, loop_halts, loop_done}
use Rattle.certificate_checker.proofs.multipliers.check_columns.Goals as goal

pub returns-in_err-check_column-clause-halted : goal.returns-in_err-check_column-clause-halted
returns-in_err-check_column-clause-halted c rows value sums =
    let condition : Var → Condition = column_condition (number_of c.args.cost.now) rows value in
    let i : ℕ = c.loop-i.i in
    let there : i < length c.args.sums.now = omega (arith, c.requires.many, c.loop-i-test.true) in
    let same : seen c.index-sums-i.result ≡ column_partial rows value (variable_at c.args.vars.now i) =
    ap seen (c.index-sums-i.is ∙ get_or_default c.args.sums.now i c.index-sums-i.result None there) ∙ sums.each i c.loop-i-test.true in
    let halt = loop_halts condition (map condition c.args.vars.now) c.args.vars.now i none (get_or c.args.vars.now i none) c.in_err-check_column.field-0.0
    c.loop-i-test.true refl (c.loop-i.invariant rows value sums) (c.in_err-check_column.ensures.halted rows value same) in
    let p = err_from_is_err_and c.from_residual.result c.from_residual.ensures.1 in
    rw (p.1, p.2) halt

pub loop-i-preserved : goal.loop-i-preserved
loop-i-preserved c rows value sums =
    let condition : Var → Condition = column_condition (number_of c.args.cost.now) rows value in
    let i : ℕ = c.loop-i.i in
    let there : i < length c.args.sums.now = omega (arith, c.requires.many, c.loop-i-test.true) in
    let same : seen c.index-sums-i.result ≡ column_partial rows value (variable_at c.args.vars.now i) =
    ap seen (c.index-sums-i.is ∙ get_or_default c.args.sums.now i c.index-sums-i.result None there) ∙ sums.each i c.loop-i-test.true in
    loop_next condition (map condition c.args.vars.now) c.args.vars.now i none (get_or c.args.vars.now i none)
    c.loop-i-test.true refl (c.loop-i.invariant rows value sums) (Passes-from (condition (get_or c.args.vars.now i none)) (c.in_ok-check_column.ensures.passed rows value same))

pub returns-clause-passed : goal.returns-clause-passed
returns-clause-passed c rows value sums =
    let condition : Var → Condition = column_condition (number_of c.args.cost.now) rows value in
    loop_done condition (map condition c.args.vars.now) c.args.vars.now c.loop-i.i c.loop-i-test.false (c.loop-i.invariant rows value sums)
