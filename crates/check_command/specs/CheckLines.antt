-- The texts of `check` for a plan that was read: accepted with its numbers, or the line for the condition that fails.
use Rattle.std.specs.Prelude.{ℕ, List, [], ◌++◌, codes, Option, Some, None, ⊤}
use Rattle.exact_num.specs.Rational.{Rational}
use Rattle.exact_num.specs.Value.{value_of}
use Rattle.model_sets.specs.Members.{SetLists}
use Rattle.mps_writer.specs.MpsText.{line}
use Rattle.row_core.specs.NameTexts.{row_name, variable_name}
use Rattle.scaled_decimals.specs.PrintedFraction.{fraction_text}
use Rattle.certificate_checker.specs.declared.verdicts.Rejection.{Rejection}
use Rattle.certificate_checker.specs.declared.verdicts.Rejection.TheVariants.{Violates, WrongSign, WrongMultiplier, Column, NotNegative, NotPositive, GapPassed}
use Rattle.certificate_checker.specs.Reasons.{Reason, reason_of}
use Rattle.certificate_checker.specs.Reasons as reasons
use Rattle.command_answers.specs.PlacesWithin.{IsRowOfSets, IsVariableOfSets}

-- ---- a plan that is accepted

-- the lines for a bound and for the gap to it
abbrev pub bound_lines : Option (Rational × Rational) → List ℕ
bound_lines None = []
bound_lines (Some bound) = line (codes "bound " ++ fraction_text bound.0) ++ line (codes "gap " ++ fraction_text bound.1)

-- the cost, and with multipliers the bound and the gap
abbrev pub accepted_text : Rational → Option (Rational × Rational) → List ℕ
accepted_text cost bound = line (codes "accepted") ++ line (codes "cost " ++ fraction_text cost) ++ bound_lines bound

-- ---- one that isn't

-- why a check says no; `not negative` of directions alone, and `not positive` of multipliers that are to show that there is no plan
abbrev pub rejection_text : SetLists → Rejection → List ℕ
rejection_text sets (Violates name amount) = codes "violates " ++ row_name sets name ++ codes " by " ++ fraction_text (value_of amount)
rejection_text sets (WrongSign v) = codes "sign " ++ variable_name sets v
rejection_text sets (WrongMultiplier name) = codes "multiplier " ++ row_name sets name
rejection_text sets (Column v amount) = codes "column " ++ variable_name sets v ++ codes " by " ++ fraction_text (value_of amount)
rejection_text sets NotNegative = codes "not negative"
rejection_text sets NotPositive = codes "not positive"
rejection_text sets (GapPassed amount) = codes "gap " ++ fraction_text (value_of amount)

abbrev pub rejected_line : SetLists → Rejection → List ℕ
rejected_line sets rejection = line (codes "rejected " ++ rejection_text sets rejection)

-- ---- which rejections can be written

-- of a row or a variable of the sets, or of a sum
abbrev pub ReasonCanBeSaid : SetLists → Reason → Type 0
ReasonCanBeSaid sets (reasons.row_missed name amount) = IsRowOfSets sets name
ReasonCanBeSaid sets (reasons.below_zero v) = IsVariableOfSets sets v
ReasonCanBeSaid sets (reasons.wrongly_signed name) = IsRowOfSets sets name
ReasonCanBeSaid sets (reasons.column_off v amount) = IsVariableOfSets sets v
ReasonCanBeSaid sets reasons.cost_not_negative = ⊤
ReasonCanBeSaid sets reasons.sum_not_positive = ⊤
ReasonCanBeSaid sets (reasons.gap_passed amount) = ⊤

abbrev pub CanBeSaid : SetLists → Rejection → Type 0
CanBeSaid sets rejection = ReasonCanBeSaid sets (reason_of rejection)
