-- The entries of the first lines, column by column.
use Rattle.std.specs.Prelude.{ℕ, suc, ℤ, negsuc, neg_ℤ, Bool, List, [], ◌∷◌, ◌++◌, Option, Some, None, if◌then◌else◌}
use Rattle.row_core.specs.declared.Sense.{Sense}
use Rattle.row_core.specs.declared.Var.{Var}
use Rattle.row_core.specs.LookUps.{value_at}
use Rattle.row_core.specs.Numbers.{is_zero}
use Rattle.row_core.specs.Order.{var_cmp}
use Rattle.written_method.specs.FirstTableau.{as_most}
use Rattle.written_method.specs.Programs.{is_split}

-- the column after those of a variable whose first is c: one that may be negative has two
abbrev pub after_columns : Bool → ℕ → ℕ
after_columns split c = if split then suc (suc c) else suc c

-- each variable with its first column, from column c on
abbrev pub placed : ℕ → List Var → List (Var × ℕ)
placed c [] = []
placed c (v ∷ vs) = (v, c) ∷ placed (after_columns (is_split v) c) vs

-- what a number gives the columns of a variable whose first is c: nothing where it is 0
abbrev pub in_columns : Bool → ℕ → ℤ → List (ℕ × ℤ)
in_columns split c z = if is_zero z then [] else ((c, z) ∷ (if split then ((suc c, neg_ℤ z) ∷ []) else []))

-- the same where the variable has a column
abbrev pub in_columns_of : Bool → ℤ → Option ℕ → List (ℕ × ℤ)
in_columns_of split z None = []
in_columns_of split z (Some c) = in_columns split c z

-- the entries of variables by column, as a row of this sense reads at most
abbrev pub column_entries : Sense → List (Var × ℕ) → List (Var × ℤ) → List (ℕ × ℤ)
column_entries sense places [] = []
column_entries sense places (e ∷ es) = in_columns_of (is_split e.0) (as_most sense e.1) (value_at var_cmp places e.0) ++ column_entries sense places es

-- the entry at x0, whose column is c, where it is there
abbrev pub x0_column : Bool → ℕ → List (ℕ × ℤ)
x0_column there c = if there then ((c, negsuc 0) ∷ []) else []
