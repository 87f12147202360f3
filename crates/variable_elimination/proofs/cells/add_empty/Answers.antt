-- A place is put at the variable.
use Rattle.variable_elimination.proofs.Common.{sym, subst, IsNextEmpty}
use Rattle.variable_elimination.proofs.CellSteps.{empty-added}
use Rattle.variable_elimination.proofs.cells.add_empty.Goals as goal

pub returns : goal.returns
returns c =
    subst (λ o. IsNextEmpty o c.args.columns.now c.insert.new.self) (sym c.in-Some.is)
    (empty-added c.in-Some.variable c.args.columns.now c.insert.new.self c.new.result c.new.ensures.items (λ v. c.in_ok-insert.ensures.updates.0 v))
