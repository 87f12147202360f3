use Rattle.certified_answers.proofs.accepting.accepted_plan.Goals as goal

pub returns-in-Yes-clause-plan : goal.returns-in-Yes-clause-plan
returns-in-Yes-clause-plan c = record {
  pass = c.in-Yes.ensures.answer.0;
  some = c.plan_laws.ensures.some;
  meets = λ q x are. (c.in-Yes.ensures.yes q x are).0;
  costs = λ q x are. (c.in-Yes.ensures.yes q x are).1;
  cost_is = c.in-Yes.ensures.answer.1;
}
