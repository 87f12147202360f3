-- The answer of what was found with the sums.
use Rattle.certificate_checker.proofs.Common.{row_name_cmp, value_in, number_of, bound_value, multiplier_conditions}
use Rattle.certificate_checker.proofs.VerdictLaws.{verdict-is}
use Rattle.certificate_checker.proofs.multipliers.multiplier_verdict.Goals as goal

pub returns : goal.returns
returns c =
    verdict-is (multiplier_conditions c.args.aim (number_of c.args.cost.now) c.args.rows.now c.args.vars.now (value_in row_name_cmp c.args.multipliers.now)) (bound_value c.args.rows.now (value_in row_name_cmp c.args.multipliers.now))
    c.check_multipliers-found.result c.verdict_of.result c.verdict_of.ensures c.check_multipliers-found.ensures.passed c.check_multipliers-found.ensures.value c.check_multipliers-found.ensures.halted
