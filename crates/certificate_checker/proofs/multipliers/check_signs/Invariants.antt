-- The signs so far are right: what all of them come to is what the rest of them comes to.
use Rattle.certificate_checker.proofs.Common.{drop, map, row_name_cmp, value_in, multiplier_condition}
use Rattle.certificate_checker.proofs.ConditionLaws.{Continues}
use Rattle.certificate_checker.proofs.multipliers.check_signs.Given as goal

abbrev pub invariant-loop-row : goal.invariant-loop-row
invariant-loop-row l = Continues (map (multiplier_condition (value_in row_name_cmp l.multipliers)) l.rows) (map (multiplier_condition (value_in row_name_cmp l.multipliers)) (drop l.row-index l.rows))
