-- A linear program: to minimise z over values of its variables under inequalities.
use Rattle.std.specs.Prelude.{◌==◌, ℤ, Bool, List, map}
use Rattle.row_core.specs.declared.Row.{Row}
use Rattle.row_core.specs.declared.Sense.{Sense}
use Rattle.row_core.specs.declared.Var.{Var}
use Rattle.row_core.specs.declared.kind_numbers.TheConstants.{TRADE}
use Rattle.written_method.specs.declared.reduced.Reduced.{Reduced}

-- the sum of each variable times its number stands in this sense to the right side
pub record Inequality : Type 0 where
  pub sense : Sense
  pub entries : List (Var × ℤ)
  pub right : ℤ

-- cost_own times z and the sum of each variable times its number of the cost are cost_right together
pub record LinearProgram : Type 0 where
  pub rows : List Inequality
  pub columns : List Var
  pub cost : List (Var × ℤ)
  pub cost_right : ℤ
  pub cost_own : ℤ

abbrev pub inequality_of : Row → Inequality
inequality_of row = record { sense = row.sense; entries = row.entries.items; right = row.rhs }

abbrev pub program_of : Reduced → LinearProgram
program_of reduced = record {
  rows = map inequality_of reduced.rows.items;
  columns = reduced.columns.items;
  cost = reduced.cost.items;
  cost_right = reduced.cost_rhs;
  cost_own = reduced.cost_own;
}

-- whether a variable may be negative: Trade, which stands for a positive part less a negative part
abbrev pub is_split : Var → Bool
is_split v = v.kind == TRADE
