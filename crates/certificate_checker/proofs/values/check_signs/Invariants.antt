-- The signs so far are right: what all of them come to is what the rest of them comes to.
use Rattle.certificate_checker.proofs.Common.{drop, map, var_cmp, value_in, sign_condition}
use Rattle.certificate_checker.proofs.ConditionLaws.{Continues}
use Rattle.certificate_checker.proofs.values.check_signs.Given as goal

abbrev pub invariant-loop-variable : goal.invariant-loop-variable
invariant-loop-variable l = Continues (map (sign_condition (value_in var_cmp l.plan)) l.vars) (map (sign_condition (value_in var_cmp l.plan)) (drop l.variable-index l.vars))
