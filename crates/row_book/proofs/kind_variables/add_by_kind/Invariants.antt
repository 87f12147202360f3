use Rattle.row_book.proofs.Common.{◌++◌, ◌-◌, filter, entry_variables, is_before_kind, AreSameVariables}
use Rattle.row_book.proofs.kind_variables.add_by_kind.Given as goal

-- those of the kinds before this one are added
abbrev pub invariant-kinds : goal.invariant-kinds
invariant-kinds l = AreSameVariables l.vars.items (l.fn.vars.items ++ filter (is_before_kind l.kind) (entry_variables l.rows))

abbrev pub decreases-kinds : goal.decreases-kinds
decreases-kinds l = 256 - l.kind
