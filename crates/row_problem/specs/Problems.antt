-- Rows of which a question is asked: with what each of them defines, and their variables.
use Rattle.std.specs.Prelude.{◌≡◌, true, false, ◌⊎◌, length, Contains, List, Option}
use Rattle.row_problem.specs.Prelude.{Row, Equal, Var, ascends, row_name_cmp, var_cmp, entry_variables, names_of, Definition, AreTriangular, defined, definitions_of, is_among, others_of, rows_of, cost_variable, is_column, HaveNone}
use Rattle.variable_elimination.specs.Meaning.{KeepSigns}

-- some definition has the same entries and the same right side
pub record IsRepeatedBy (ds : List Definition) (row : Row) : Type 0 where
  pub definition : Definition
  pub among : Contains ds definition
  pub entries : definition.row.entries.items ≡ row.entries.items
  pub right_side : definition.row.rhs ≡ row.rhs

-- The rows ascend strictly by name, and the variables strictly, the variable of each entry among them. Each variable is defined, or one that a plan
-- chooses, and none is both; the definitions are triangular, make variables at least 0 of such, and have no entry at the variable that stands for the cost. An
-- equation that defines nothing says what a definition says.
pub record IsProblem (rows : List Row) (defs : List (Option Var)) (vars : List Var) : Type 0 where
  pub same : length defs ≡ length rows
  pub named : ascends row_name_cmp (names_of rows) ≡ true
  pub ascending : ascends var_cmp vars ≡ true
  pub listed : (v : Var) → Contains (entry_variables rows) v → Contains vars v
  pub known : (v : Var) → Contains vars v → (is_among (defined (definitions_of rows defs)) v ≡ true) ⊎ (is_column v ≡ true)
  pub apart : (v : Var) → is_among (defined (definitions_of rows defs)) v ≡ true → is_column v ≡ false
  pub triangular : AreTriangular (definitions_of rows defs)
  pub plain : HaveNone cost_variable (rows_of (definitions_of rows defs))
  pub signs : KeepSigns (definitions_of rows defs)
  pub repeated : (row : Row) → Contains (others_of rows defs) row → row.sense ≡ Equal → IsRepeatedBy (definitions_of rows defs) row
