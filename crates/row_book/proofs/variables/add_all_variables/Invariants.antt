use Rattle.row_book.proofs.Common.{◌≡◌, ◌++◌, drop, entry_variables}
use Rattle.row_book.proofs.variables.add_all_variables.Given as goal

-- with the variables of the rows that are left, the variables so far are those from before and those of all rows
abbrev pub invariant-loop-row : goal.invariant-loop-row
invariant-loop-row l = l.vars.items ++ entry_variables (drop l.row-index l.rows) ≡ l.fn.vars.items ++ entry_variables l.rows
