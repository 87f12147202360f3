use Rattle.plan_quantities.proofs.ShownRowLaws.{row-shown}
use Rattle.plan_quantities.proofs.laws.shown_row_laws.Goals as goal

pub returns : goal.returns
returns c = row-shown
