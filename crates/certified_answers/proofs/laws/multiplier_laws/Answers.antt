use Rattle.certified_answers.proofs.Common.{subst, row_name_cmp, AreOverSome}
use Rattle.certified_answers.proofs.KeyedLaws.{ascends-valued}
use Rattle.certified_answers.proofs.laws.multiplier_laws.Goals as goal

pub returns-clause-ascending : goal.returns-clause-ascending
returns-clause-ascending c = ascends-valued row_name_cmp c.entries-values.result.now c.args.multipliers.now c.entries-values.ensures.values c.entries-values.ensures.ascending

pub returns-clause-some : goal.returns-clause-some
returns-clause-some c = subst (λ values. AreOverSome row_name_cmp values) c.entries-values.ensures.values (c.denominator_laws.ensures.multipliers c.entries-values.result.now)
