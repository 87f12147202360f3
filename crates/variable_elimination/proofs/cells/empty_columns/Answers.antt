-- One variable after another.
use Rattle.variable_elimination.proofs.Common.{List, subst, Option, None, take_all, Var, AreEmpty}
use Rattle.variable_elimination.proofs.CellSteps.{empty-take}
use Rattle.variable_elimination.proofs.cells.empty_columns.Goals as goal

pub loop-variable-init : goal.loop-variable-init
loop-variable-init c v h = absurd (cc h)

pub loop-variable-preserved : goal.loop-variable-preserved
loop-variable-preserved c =
    empty-take c.args.variables.now c.loop-variable.variable-index None c.loop-variable.columns c.add_empty.new.columns c.loop-variable-test.true c.loop-variable.invariant c.in_ok-add_empty.ensures

pub returns : goal.returns
returns c = subst (λ (xs : List (Option Var)). AreEmpty xs c.loop-variable.columns) (take_all c.loop-variable.variable-index c.args.variables.now c.loop-variable-test.false) c.loop-variable.invariant
