use Rattle.row_problem.proofs.Common.{◌∙◌, ap, refl, first_wide, value_of}
use Rattle.exact_solver.specs.MethodEnds.{closing_checks}
use Rattle.exact_solver.proofs.checking.closed.Goals as goal

pub returns-in-One-clause-fits : goal.returns-in-One-clause-fits
unfolding first_wide
returns-in-One-clause-fits c = ap (λ cost. first_wide (closing_checks cost (value_of c.args.amount) (value_of c.args.bound))) c.in-One.is ∙ refl
