-- What is looked at of a plan, and of a direction, with values for variables.
use Rattle.std.specs.Prelude.{ℤ, pos, unsigned_abs, Bool, true, ◌||◌, int_le, int_lt, List, [], ◌∷◌, ◌++◌, map}
use Rattle.exact_num.specs.Rational.{Rational}
use Rattle.row_core.specs.declared.Row.{Row}
use Rattle.row_core.specs.declared.Var.{Var}
use Rattle.row_core.specs.declared.place.Place.TheVariants.{Check, SumCost}
use Rattle.row_core.specs.Evaluated.{evaluated, evaluated_formed}
use Rattle.row_core.specs.Kinds.{kind_is_free}
use Rattle.row_core.specs.Order.{var_cmp}
use Rattle.row_core.specs.Plans.{value_in}
use Rattle.row_core.specs.Statements.{stands}
use Rattle.certificate_checker.specs.declared.values.Subject.{Subject}
use Rattle.certificate_checker.specs.declared.values.Subject.TheVariants.{Plan, Direction}
use Rattle.certificate_checker.specs.Conditions.{Condition, formed_at}
use Rattle.certificate_checker.specs.Costs.{cost_entries, cost_value, total_formed}
use Rattle.certificate_checker.specs.Reasons.{row_missed, below_zero, cost_not_negative}

-- the absolute value
abbrev pub absolute : Rational → Rational
absolute x = record { top = pos (unsigned_abs x.top); bottom = x.bottom }

-- the right side of a row for a plan is its own, and for a direction 0
abbrev pub right_of : Subject → Row → ℤ
right_of Plan row = row.rhs
right_of Direction row = pos 0

-- the cost of a direction must fall, that of a plan may be anything
abbrev pub cost_passes : Subject → ℤ → Bool
cost_passes Plan cost = true
cost_passes Direction cost = int_lt cost (pos 0)

-- the row holds of the values: the sum less the right side stands to 0
abbrev pub row_condition : Subject → (Var → Rational) → Row → Condition
row_condition subject value row = record {
  seen = formed_at (Check row.name) (evaluated_formed value row.entries.items (right_of subject row));
  holds = stands row.sense (evaluated value row.entries.items (right_of subject row)).top (pos 0);
  reason = row_missed row.name (absolute (evaluated value row.entries.items (right_of subject row)));
  amount = [];
}

-- the variable is at least 0 where it must be
abbrev pub sign_condition : (Var → Rational) → Var → Condition
sign_condition value v = record {
  seen = [];
  holds = kind_is_free v.kind || int_le (pos 0) (value v).top;
  reason = below_zero v;
  amount = [];
}

abbrev pub cost_condition : Subject → (Var → ℤ) → List Var → (Var → Rational) → Condition
cost_condition subject cost vars value = record {
  seen = formed_at SumCost (total_formed value (cost_entries cost vars));
  holds = cost_passes subject (cost_value cost vars value).top;
  reason = cost_not_negative;
  amount = [];
}

-- the rows in order, then the signs in the order of variables, and last the cost
abbrev pub value_conditions : Subject → (Var → ℤ) → List Row → List Var → (Var → Rational) → List Condition
value_conditions subject cost rows vars value =
    map (row_condition subject value) rows ++ (map (sign_condition value) vars ++ cost_condition subject cost vars value ∷ [])

abbrev pub plan_conditions : (Var → ℤ) → List Row → List Var → List (Var × Rational) → List Condition
plan_conditions cost rows vars plan = value_conditions Plan cost rows vars (value_in var_cmp plan)

abbrev pub direction_conditions : (Var → ℤ) → List Row → List Var → List (Var × Rational) → List Condition
direction_conditions cost rows vars direction = value_conditions Direction cost rows vars (value_in var_cmp direction)
