use Rattle.certified_answers.proofs.Common.{subst, IsLowest, var_cmp, value_in, AreOverSome}
use Rattle.certified_answers.proofs.KeyedLaws.{ascends-valued, values-lowest}
use Rattle.certified_answers.proofs.laws.plan_laws.Goals as goal

pub returns-clause-ascending : goal.returns-clause-ascending
returns-clause-ascending c = ascends-valued var_cmp c.entries-values.result.now c.args.plan.now c.entries-values.ensures.values c.entries-values.ensures.ascending

pub returns-clause-some : goal.returns-clause-some
returns-clause-some c = subst (λ values. AreOverSome var_cmp values) c.entries-values.ensures.values (c.denominator_laws.ensures.plans c.entries-values.result.now)

pub returns-clause-lowest : goal.returns-clause-lowest
returns-clause-lowest c = λ v. subst (λ values. IsLowest (value_in var_cmp values v)) c.entries-values.ensures.values (values-lowest var_cmp c.entries-values.result.now v)
