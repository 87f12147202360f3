-- The numbers of a row fit.
use Rattle.variable_elimination.proofs.Common.{ℤ, List, ap, ◌∙◌, all_fit, Var, numbers_of, row_fits}
use Rattle.variable_elimination.proofs.eliminating.with_cost.Goals as goal

pub number_of-requires-clause-fits : goal.number_of-requires-clause-fits
number_of-requires-clause-fits c = ap (λ (es : List (Var × ℤ)). all_fit (numbers_of es)) c.deref-2.ensures.value ∙ row_fits c.args.cost.now
