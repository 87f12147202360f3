use Rattle.row_book.proofs.VariablesInOrder.{variables-listed}
use Rattle.row_book.proofs.variables.variables_of_rows.Goals as goal

pub returns-in-Ok : goal.returns-in-Ok
returns-in-Ok c = variables-listed c.args.rows.now c.in_ok-vars.vars.items c.sort_variables.new.vars.items c.in_ok-vars.ensures c.in-Ok.ensures
