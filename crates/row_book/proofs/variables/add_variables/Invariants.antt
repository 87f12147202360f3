use Rattle.row_book.proofs.Common.{◌≡◌, ◌++◌, drop, variables_of}
use Rattle.row_book.proofs.variables.add_variables.Given as goal

-- with the variables of the entries that are left, the variables so far are those of the row
abbrev pub invariant-loop-var : goal.invariant-loop-var
invariant-loop-var l = l.vars.items ++ variables_of (drop l.var-index l.row.entries.items) ≡ l.fn.vars.items ++ variables_of l.row.entries.items
