-- What is looked at of multipliers, with values for the names of rows.
use Rattle.std.specs.Prelude.{ℤ, pos, Bool, true, false, int_le, int_lt, List, [], ◌∷◌, ◌++◌, map}
use Rattle.std.specs.Ordering.{is_eq, is_le}
use Rattle.std.specs.declared.cmp.Ordering.{Ordering}
use Rattle.exact_num.specs.Formed.{difference_formed}
use Rattle.exact_num.specs.Rational.{Rational, whole, minus, order_of}
use Rattle.row_core.specs.declared.Row.{Row}
use Rattle.row_core.specs.declared.RowName.{RowName}
use Rattle.row_core.specs.declared.Sense.{Sense}
use Rattle.row_core.specs.declared.Sense.TheVariants.{Least, Equal, Most}
use Rattle.row_core.specs.declared.Var.{Var}
use Rattle.row_core.specs.declared.place.Place.TheVariants.{Column, SumBound}
use Rattle.row_core.specs.Columns.{column_of}
use Rattle.row_core.specs.Kinds.{kind_is_free}
use Rattle.row_core.specs.Order.{row_name_cmp}
use Rattle.row_core.specs.Plans.{value_in}
use Rattle.certificate_checker.specs.declared.multipliers.Aim.{Aim}
use Rattle.certificate_checker.specs.declared.multipliers.Aim.TheVariants.{Bound, Infeasible}
use Rattle.certificate_checker.specs.Conditions.{Condition, formed_at}
use Rattle.certificate_checker.specs.Costs.{no_cost, total, total_formed}
use Rattle.certificate_checker.specs.PlanChecks.{absolute}
use Rattle.certificate_checker.specs.Reasons.{wrongly_signed, column_off, sum_not_positive}

-- ---- signs

-- at least 0 where the row says at least, at most 0 where it says at most
abbrev pub is_signed : Sense → ℤ → Bool
is_signed Least y = int_le (pos 0) y
is_signed Equal y = true
is_signed Most y = int_le y (pos 0)

abbrev pub multiplier_condition : (RowName → Rational) → Row → Condition
multiplier_condition value row = record {
  seen = [];
  holds = is_signed row.sense (value row.name).top;
  reason = wrongly_signed row.name;
  amount = [];
}

-- ---- columns

-- the column's sum is the cost's number for a variable that may be negative, and at most that for another
abbrev pub is_within : Bool → Ordering → Bool
is_within true order = is_eq order
is_within false order = is_le order

abbrev pub column_condition : (Var → ℤ) → List Row → (RowName → Rational) → Var → Condition
column_condition cost rows value v = record {
  seen = formed_at (Column v) (total_formed value (column_of rows v));
  holds = is_within (kind_is_free v.kind) (order_of (total value (column_of rows v)) (whole (cost v)));
  reason = column_off v (absolute (minus (total value (column_of rows v)) (whole (cost v))));
  amount = formed_at (Column v) (difference_formed (total value (column_of rows v)) (whole (cost v)));
}

-- ---- the bound

-- the right sides, in the order of rows
abbrev pub right_sides : List Row → List (RowName × ℤ)
right_sides rows = map (λ row. (row.name, row.rhs)) rows

abbrev pub bound_value : List Row → (RowName → Rational) → Rational
bound_value rows value = total value (right_sides rows)

-- the sum must be positive where no plan is to exist, and as a bound it may be anything
abbrev pub bound_passes : Aim → ℤ → Bool
bound_passes Bound sum = true
bound_passes Infeasible sum = int_lt (pos 0) sum

abbrev pub bound_condition : Aim → List Row → (RowName → Rational) → Condition
bound_condition aim rows value = record {
  seen = formed_at SumBound (total_formed value (right_sides rows));
  holds = bound_passes aim (bound_value rows value).top;
  reason = sum_not_positive;
  amount = [];
}

-- the signs in the order of rows, then the columns in the order of variables, and last the sum of multiplier times right side
abbrev pub multiplier_conditions : Aim → (Var → ℤ) → List Row → List Var → (RowName → Rational) → List Condition
multiplier_conditions aim cost rows vars value =
    map (multiplier_condition value) rows ++ (map (column_condition cost rows value) vars ++ bound_condition aim rows value ∷ [])

abbrev pub bound_conditions : (Var → ℤ) → List Row → List Var → List (RowName × Rational) → List Condition
bound_conditions cost rows vars multipliers = multiplier_conditions Bound cost rows vars (value_in row_name_cmp multipliers)

abbrev pub infeasible_conditions : List Row → List Var → List (RowName × Rational) → List Condition
infeasible_conditions rows vars multipliers = multiplier_conditions Infeasible no_cost rows vars (value_in row_name_cmp multipliers)
