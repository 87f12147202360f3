-- What holds before the rows that are left, as multipliers are made one after another.
use Rattle.std.specs.Prelude.{◌≡◌, Bool, List, [], None, Option, map}
use Rattle.std.specs.BTreeMap.{BTreeMap}
use Rattle.exact_num.specs.Rational.{Rational}
use Rattle.exact_num.specs.Steps.{first_wide}
use Rattle.exact_num.specs.Value.{value_of}
use Rattle.exact_num.specs.declared.fraction.Frac.{Frac}
use Rattle.row_core.specs.declared.Row.{Row}
use Rattle.row_core.specs.declared.RowName.{RowName}
use Rattle.row_core.specs.declared.Var.{Var}
use Rattle.written_method.specs.Definitions.{definitions_of}
use Rattle.written_method.specs.Multiplied.{scaled_multipliers, scaled_steps, defined_multipliers, defined_steps}
use Rattle.row_core.specs.RowLists.{names_of}
use Rattle.variable_elimination.specs.Valued.{values_in}

-- what all reduced rows make and form is what those that are left make and form
pub record AreScaling (rows : List Row) (scales lambda : List Frac) (left : List Row) (left_scales left_lambda : List Frac) (now : BTreeMap RowName Frac) : Type 0 where
  pub made : scaled_multipliers (names_of left) (map value_of left_scales) (map value_of left_lambda) (values_in now) ≡ scaled_multipliers (names_of rows) (map value_of scales) (map value_of lambda) []
  pub steps : first_wide (scaled_steps (names_of rows) (map value_of scales) (map value_of lambda)) ≡ first_wide (scaled_steps (names_of left) (map value_of left_scales) (map value_of left_lambda))

-- the last definitions are done
pub record AreDone (with_cost : Bool) (rows last : List Row) (defs : List (Option Var)) (first : List (RowName × Rational)) (now : BTreeMap RowName Frac) : Type 0 where
  pub made : values_in now ≡ defined_multipliers with_cost rows (definitions_of last defs) first
  pub steps : first_wide (defined_steps with_cost rows (definitions_of last defs) first) ≡ None
