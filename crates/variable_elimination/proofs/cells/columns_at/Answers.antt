-- One row after another.
use Rattle.variable_elimination.proofs.Common.{List, subst, take_all, Row, HaveColumns}
use Rattle.variable_elimination.proofs.CellSteps.{columns-start, columns-take}
use Rattle.variable_elimination.proofs.cells.columns_at.Goals as goal

pub loop-row-init : goal.loop-row-init
loop-row-init c = columns-start c.args.variables.now c.in_ok-columns.columns c.in_ok-columns.ensures

pub loop-row-preserved : goal.loop-row-preserved
loop-row-preserved c =
    columns-take c.args.variables.now c.args.rows.now c.loop-row.row-index c.row-item.result c.loop-row.columns c.add_row.new.columns c.loop-row-test.true c.row-item.is c.loop-row.invariant c.in_ok-add_row.ensures

pub returns : goal.returns
returns c = subst (λ (rs : List Row). HaveColumns c.args.variables.now rs c.loop-row.columns) (take_all c.loop-row.row-index c.args.rows.now c.loop-row-test.false) c.loop-row.invariant
