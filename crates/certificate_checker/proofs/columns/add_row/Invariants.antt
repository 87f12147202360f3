-- With the entries that are left, the sum of each column comes to what it comes to with all.
use Rattle.certificate_checker.proofs.Common.{◌≡◌, ℕ, ◌<◌, length, drop, row_name_cmp, value_in, continued, entries_at, variable_at, sum_at}
use Rattle.certificate_checker.proofs.columns.add_row.Given as goal

abbrev pub invariant-loop-variable : goal.invariant-loop-variable
invariant-loop-variable l = (k : ℕ) → k < length l.vars
    → continued (value_in row_name_cmp l.multipliers) (sum_at l.sums k) (entries_at l.row.name (variable_at l.vars k) (drop l.variable-index l.row.entries.items))
    ≡ continued (value_in row_name_cmp l.multipliers) (sum_at l.initial.sums k) (entries_at l.row.name (variable_at l.vars k) l.row.entries.items)
