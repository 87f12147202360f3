use Rattle.std.proofs.Common.{ℕ}
use Rattle.exact_num.proofs.StepLaws.{first_wide-append, first_wide-none}
use Rattle.exact_num.proofs.laws.step_laws.Goals as goal

pub returns-clause-joined : goal.returns-clause-joined
returns-clause-joined c = first_wide-append {P = ℕ}

pub returns-clause-none : goal.returns-clause-none
returns-clause-none c = first_wide-none {P = ℕ}
