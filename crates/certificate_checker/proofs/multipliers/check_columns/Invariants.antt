-- Whatever rows the sums are of, the columns so far pass: what all of them come to is what the rest of them comes to.
use Rattle.certificate_checker.proofs.Common.{List, drop, map, Rational, Row, RowName, AreColumnSums, number_of, column_condition}
use Rattle.certificate_checker.proofs.ConditionLaws.{Continues}
use Rattle.certificate_checker.proofs.multipliers.check_columns.Given as goal

abbrev pub invariant-loop-i : goal.invariant-loop-i
invariant-loop-i l =
    (rows : List Row) (value : RowName → Rational) → AreColumnSums rows value l.vars l.sums
    → Continues (map (column_condition (number_of l.cost) rows value) l.vars) (map (column_condition (number_of l.cost) rows value) (drop l.i l.vars))
