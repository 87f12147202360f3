-- What the answer says of the values says it of the direction, which is whole numbers over one denominator.
use Rattle.certificate_checker.proofs.Common.{ℤ, map, subst, Var, var_cmp, valued, value_in, number_of, cost_value, direction_conditions, AreOverSome}
use Rattle.certificate_checker.proofs.DenominatorLaws.{some_denominator}
use Rattle.certificate_checker.proofs.PlanMeaning.{direction_yes, direction_no, direction_endless}
use Rattle.certificate_checker.proofs.VerdictLaws.{verdict-is}
use Rattle.certificate_checker.proofs.plans.check_direction.Goals as goal

pub returns-clause-answer : goal.returns-clause-answer
returns-clause-answer c =
    let cost : Var → ℤ = number_of c.args.cost.now in
    verdict-is (direction_conditions cost c.args.rows.now c.args.vars.now c.args.direction.now) (cost_value cost c.args.vars.now (value_in var_cmp c.args.direction.now))
    c.check_values.result c.verdict_of.result c.verdict_of.ensures c.check_values.ensures.passed c.check_values.ensures.value c.check_values.ensures.halted

pub returns-clause-yes : goal.returns-clause-yes
returns-clause-yes c q d over = direction_yes (number_of c.args.cost.now) c.args.rows.now c.args.vars.now c.args.direction.now q d over c.verdict_of.result (returns-clause-answer c)

pub returns-clause-no : goal.returns-clause-no
returns-clause-no c q d over = direction_no (number_of c.args.cost.now) c.args.rows.now c.args.vars.now c.args.direction.now q d over c.verdict_of.result (returns-clause-answer c)

pub returns-clause-endless : goal.returns-clause-endless
returns-clause-endless c p y n meets =
    let some : AreOverSome var_cmp c.args.direction.now = subst (AreOverSome var_cmp) c.entries-values.ensures.values (some_denominator var_cmp c.entries-values.result.now) in
    direction_endless (number_of c.args.cost.now) c.args.rows.now c.args.vars.now c.args.direction.now some.over some.number (some.positive, some.each) c.verdict_of.result (returns-clause-answer c) p y n meets
