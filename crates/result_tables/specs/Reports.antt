-- The reports of a model that is solved, of one that has no plan, and of one that has no bound.
use Rattle.std.specs.Prelude.{ℕ, List, ◌++◌, codes}
use Rattle.std.specs.List.{flat_map}
use Rattle.exact_num.specs.Rational.{Rational}
use Rattle.model_sets.specs.Members.{SetLists}
use Rattle.row_core.specs.declared.Row.{Row}
use Rattle.row_core.specs.declared.RowName.{RowName}
use Rattle.row_core.specs.declared.Var.{Var}
use Rattle.result_tables.specs.declared.attempts.FoundBy.{FoundBy}
use Rattle.result_tables.specs.declared.attempts.FoundBy.TheVariants.{ByMethod}
use Rattle.result_tables.specs.Lines.{amount_line, count_lines}
use Rattle.result_tables.specs.Tables.{all_tables, direction_table, table_text}

-- how the report of a solved model begins
abbrev pub summary_text : Rational → Rational → ℕ → ℕ → ℕ → FoundBy → List ℕ
summary_text cost bound pivots rounded places attempt =
    codes "status solved\n" ++ amount_line (codes "cost") cost ++ amount_line (codes "bound") bound ++ count_lines pivots rounded places attempt

-- the last line
abbrev pub end_line : List ℕ
end_line = codes "end\n"

-- a solved model: its cost and bound, and the tables of the variables' values in the plan and of the prices by the multipliers
abbrev pub report_text : SetLists → List Var → List (Var × Rational) → List Row → List (RowName × Rational) → Rational → Rational → ℕ → ℕ → ℕ → FoundBy → List ℕ
report_text sets vars plan rows multipliers cost bound pivots rounded places attempt =
    summary_text cost bound pivots rounded places attempt ++ flat_map table_text (all_tables sets vars plan rows multipliers) ++ end_line

-- a model that has no plan
abbrev pub infeasible_text : ℕ → ℕ → ℕ → FoundBy → List ℕ
infeasible_text pivots rounded places attempt = codes "status infeasible\n" ++ count_lines pivots rounded places attempt ++ end_line

-- a model that has no bound: a direction in which the cost falls for ever. Only the first attempt ends so
abbrev pub unbounded_text : SetLists → List (Var × Rational) → ℕ → ℕ → ℕ → List ℕ
unbounded_text sets direction pivots rounded places =
    codes "status unbounded\n" ++ count_lines pivots rounded places ByMethod ++ table_text (direction_table sets direction) ++ end_line
