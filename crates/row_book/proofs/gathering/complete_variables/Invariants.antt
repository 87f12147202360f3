use Rattle.row_book.proofs.Common.{◌++◌, drop, held_variables, AreSameVariables}
use Rattle.row_book.proofs.gathering.complete_variables.Given as goal

-- with the variables of the rows that are left, those so far are the ones from before and those of all rows that are held
abbrev pub invariant-loop-rows : goal.invariant-loop-rows
invariant-loop-rows l = AreSameVariables (l.vars.items ++ held_variables (drop l.rows-index l.held)) (l.fn.vars.items ++ held_variables l.held)
