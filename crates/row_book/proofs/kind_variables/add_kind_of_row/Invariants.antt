use Rattle.row_book.proofs.Common.{◌≡◌, ◌++◌, drop, filter, variables_of, is_of_kind, next_kind}
use Rattle.row_book.proofs.kind_variables.add_kind_of_row.Given as goal

-- with the entries that are left, the variables so far are those from before and those of the kind, and the next kind is that of all
abbrev pub invariant-loop-var : goal.invariant-loop-var
invariant-loop-var l = record {
  added : l.vars.items ++ filter (is_of_kind l.kind) (variables_of (drop l.var-index l.row.entries.items)) ≡ l.fn.vars.items ++ filter (is_of_kind l.kind) (variables_of l.row.entries.items);
  next : next_kind l.kind l.next (variables_of (drop l.var-index l.row.entries.items)) ≡ next_kind l.kind l.fn.before (variables_of l.row.entries.items);
}
