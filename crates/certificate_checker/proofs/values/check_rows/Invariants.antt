-- The rows so far hold: what all of them come to is what the rest of them comes to.
use Rattle.certificate_checker.proofs.Common.{drop, map, var_cmp, value_in, row_condition}
use Rattle.certificate_checker.proofs.ConditionLaws.{Continues}
use Rattle.certificate_checker.proofs.values.check_rows.Given as goal

abbrev pub invariant-loop-row : goal.invariant-loop-row
invariant-loop-row l = Continues (map (row_condition l.subject (value_in var_cmp l.plan)) l.rows) (map (row_condition l.subject (value_in var_cmp l.plan)) (drop l.row-index l.rows))
