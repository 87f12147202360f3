-- Why a check says no, with amounts as exact values.
use Rattle.exact_num.specs.Rational.{Rational}
use Rattle.exact_num.specs.Value.{value_of}
use Rattle.row_core.specs.declared.RowName.{RowName}
use Rattle.row_core.specs.declared.Var.{Var}
use Rattle.certificate_checker.specs.declared.verdicts.Rejection.{Rejection}
use Rattle.certificate_checker.specs.declared.verdicts.Rejection.TheVariants.{Violates, WrongSign, WrongMultiplier, Column, NotNegative, NotPositive, GapPassed}

pub data Reason : Type 0 where
  -- the row doesn't hold: its sides differ by so much
  row_missed : RowName → Rational → Reason
  -- the variable must be at least 0, and its value isn't
  below_zero : Var → Reason
  -- the row's multiplier has the wrong sign
  wrongly_signed : RowName → Reason
  -- the column's sum is above the cost's number, or for a variable that may be negative another one: they differ by so much
  column_off : Var → Rational → Reason
  -- the cost of the direction isn't below 0
  cost_not_negative : Reason
  -- the sum of multiplier times right side isn't above 0
  sum_not_positive : Reason
  -- cost and bound are too far apart: by so much
  gap_passed : Rational → Reason

-- what a rejection says
abbrev pub reason_of : Rejection → Reason
reason_of (Violates name amount) = row_missed name (value_of amount)
reason_of (WrongSign v) = below_zero v
reason_of (WrongMultiplier name) = wrongly_signed name
reason_of (Column v amount) = column_off v (value_of amount)
reason_of NotNegative = cost_not_negative
reason_of NotPositive = sum_not_positive
reason_of (GapPassed amount) = gap_passed (value_of amount)
