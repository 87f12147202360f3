use Rattle.row_book.proofs.Common.{◌≡◌, ◌++◌, drop, entry_variables, is_of_kind, next_kind}
use Rattle.std.specs.Prelude.{None, filter}
use Rattle.row_book.proofs.kind_variables.add_kind.Given as goal

-- with the rows that are left, the variables so far are those from before and those of the kind, and the next kind is that of all
abbrev pub invariant-loop-row : goal.invariant-loop-row
invariant-loop-row l = record {
  added : l.vars.items ++ filter (is_of_kind l.kind) (entry_variables (drop l.row-index l.rows)) ≡ l.fn.vars.items ++ filter (is_of_kind l.kind) (entry_variables l.rows);
  next : next_kind l.kind l.next (entry_variables (drop l.row-index l.rows)) ≡ next_kind l.kind None (entry_variables l.rows);
}
