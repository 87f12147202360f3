-- What shows that some inequalities can't be met together: multipliers of the rows.
use Rattle.std.specs.Prelude.{◌≡◌, ◌≢◌, ℕ, ℤ, pos, List, Contains, true}
use Rattle.exact_num.specs.Rational.{Rational}
use Rattle.row_core.specs.declared.Row.{Row}
use Rattle.row_core.specs.declared.RowName.{RowName}
use Rattle.row_core.specs.declared.Var.{Var}
use Rattle.row_core.specs.Numbers.{ascends, keys_of}
use Rattle.row_core.specs.Order.{row_name_cmp}
use Rattle.row_core.specs.Plans.{value_in}
use Rattle.certificate_checker.specs.Certificates.{AreMultipliersOver, Refutes}
use Rattle.certificate_checker.specs.Denominators.{AreOverSome}
use Rattle.conflict_sets.specs.Conflicts.{is_member}
use Rattle.conflict_sets.specs.Trials.{rows_with}

-- The members stand in the order of rows, none twice. Some multipliers, those of the members among them, none of which is 0, refute every equation together with
-- the members; they are whole numbers over one denominator, so that `refutes` speaks of some.
pub record AreShown (rows : List Row) (vars : List Var) (members : List (RowName × Rational)) : Type 0 where
  pub ascending : ascends row_name_cmp (keys_of members) ≡ true
  pub multipliers : List (RowName × Rational)
  pub some : AreOverSome row_name_cmp multipliers
  pub printed : (member : RowName × Rational) → Contains members member → value_in row_name_cmp multipliers member.0 ≡ member.1
  pub used : (member : RowName × Rational) → Contains members member → member.1.top ≢ pos 0
  pub refutes : (s : ℕ) (y : RowName → ℤ) → AreMultipliersOver s y multipliers → Refutes (rows_with (is_member (keys_of members)) rows) vars s y
