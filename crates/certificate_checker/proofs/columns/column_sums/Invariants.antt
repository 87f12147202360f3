-- With the rows that are left, the sum of each column comes to that of all.
use Rattle.certificate_checker.proofs.Common.{drop, row_name_cmp, value_in}
use Rattle.certificate_checker.proofs.ColumnSteps.{AreSumsWith}
use Rattle.certificate_checker.proofs.columns.column_sums.Given as goal

abbrev pub invariant-loop-row : goal.invariant-loop-row
invariant-loop-row l = AreSumsWith (value_in row_name_cmp l.multipliers) l.vars l.rows (drop l.row-index l.rows) l.sums.items
