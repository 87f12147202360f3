-- The data are the model's but for the limit.
use Rattle.std.proofs.lemmas.Result.{IfOk-weaker}
use Rattle.curve_command.proofs.LimitValues.{limit-fits}
use Rattle.curve_command.proofs.books.limited_model.Goals as goal

pub returns-clause-facts : goal.returns-clause-facts
returns-clause-facts c = IfOk-weaker c.with_value.result _ _ (λ changed is. rw (limit-fits c.args.limit.most c.requires.most) at is.facts) c.with_value.ensures.changed
