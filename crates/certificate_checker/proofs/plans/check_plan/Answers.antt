-- What the answer says of the values says it of the plan.
use Rattle.certificate_checker.proofs.Common.{var_cmp, value_in, model_cost, cost_value, plan_conditions}
use Rattle.certificate_checker.proofs.PlanMeaning.{plan_yes, plan_no}
use Rattle.certificate_checker.proofs.VerdictLaws.{verdict-is}
use Rattle.certificate_checker.proofs.plans.check_plan.Goals as goal

pub returns-clause-answer : goal.returns-clause-answer
returns-clause-answer c =
    verdict-is (plan_conditions model_cost c.args.rows.now c.args.vars.now c.args.plan.now) (cost_value model_cost c.args.vars.now (value_in var_cmp c.args.plan.now))
    c.check_values.result c.verdict_of.result c.verdict_of.ensures c.check_values.ensures.passed c.check_values.ensures.value c.check_values.ensures.halted

pub returns-clause-yes : goal.returns-clause-yes
returns-clause-yes c q x over = plan_yes model_cost c.args.rows.now c.args.vars.now c.args.plan.now q x over c.verdict_of.result (returns-clause-answer c)

pub returns-clause-no : goal.returns-clause-no
returns-clause-no c q x over = plan_no model_cost c.args.rows.now c.args.vars.now c.args.plan.now q x over c.verdict_of.result (returns-clause-answer c)
