-- The linear program of rows: row i of it is the i-th row, and column j the j-th variable.
use Rattle.std.specs.Prelude.{◌≡◌, ℕ, ◌+◌, ◌<◌, ◌^◌, pos, Bool, true, List, [], ◌∷◌, ◌++◌, map, length, codes, ◌==◌, Contains, None, Some, ◌⊎◌, if◌then◌else◌}
use Rattle.std.specs.List.{AllByRecursion, enumerate_from, flat_map}
use Rattle.std.specs.Fmt.{decimal}
use Rattle.std.specs.Ordering.{is_eq}
use Rattle.model_sets.specs.Members.{SetLists}
use Rattle.row_core.specs.declared.Row.{Row}
use Rattle.row_core.specs.declared.Sense.{Sense}
use Rattle.row_core.specs.declared.Sense.TheVariants.{Least, Equal, Most}
use Rattle.row_core.specs.declared.Var.{Var}
use Rattle.row_core.specs.declared.kind_numbers.TheConstants.{TOTAL_DISCOUNTED_COST}
use Rattle.row_core.specs.Kinds.{kind_is_free}
use Rattle.row_core.specs.Numbers.{ascends, variables_of}
use Rattle.row_core.specs.NameTexts.{row_name, variable_name}
use Rattle.row_core.specs.Order.{var_cmp}
use Rattle.row_core.specs.Contents.{RowContents, contents_of}
use Rattle.mps_meaning.specs.Lines.{Name, is_one_line}
use Rattle.mps_meaning.specs.Programs.{Letter, Numbers, Program, ProgramColumn, ProgramRow}

-- ---- names

-- the name of the i-th row
abbrev pub name_of_row : ℕ → Name
name_of_row i = codes "R" ++ decimal i

-- the name of the j-th column
abbrev pub name_of_column : ℕ → Name
name_of_column j = codes "C" ++ decimal j

-- how many of the variables stand before this one
abbrev pub place_of : Var → List Var → ℕ
place_of v [] = 0
place_of v (w ∷ ws) = if is_eq (var_cmp w v) then 0 else place_of v ws + 1

-- the name of the column of a variable: columns are counted from 1
abbrev pub column_of : List Var → Var → Name
column_of columns v = name_of_column (1 + place_of v columns)

-- ---- the program

abbrev pub letter_of : Sense → Letter
letter_of Least = Letter.G
letter_of Equal = Letter.E
letter_of Most = Letter.L

-- the variable is one whose sum is the cost
abbrev pub is_cost : ℕ × Var → Bool
is_cost c = c.1.kind == TOTAL_DISCOUNTED_COST

-- such a column costs 1, each other one nothing
abbrev pub cost_of_column : ℕ × Var → Numbers
cost_of_column c = if is_cost c then (name_of_column c.0, pos 1) ∷ [] else []

-- the row's number at each of its variables is that at the variable's column
abbrev pub program_row : List Var → ℕ × RowContents → ProgramRow
program_row columns r = record {
  name = name_of_row r.0;
  sense = letter_of r.1.sense;
  entries = map (λ e. (column_of columns e.0, e.1)) r.1.entries;
  right_side = r.1.rhs;
}

-- a variable is at least 0, unless it is of a kind that may be below
abbrev pub program_column : ℕ × Var → ProgramColumn
program_column c = record { name = name_of_column c.0; least = if kind_is_free c.1.kind then None else Some (pos 0) }

abbrev pub program_of_contents : List RowContents → List Var → Program
program_of_contents rows columns = record {
  costs = flat_map cost_of_column (enumerate_from 1 columns);
  rows = map (program_row columns) (enumerate_from 1 rows);
  columns = map program_column (enumerate_from 1 columns);
}

-- the least sum of TotalDiscountedCost under these rows, with a column for each of the variables
abbrev pub program_of_rows : List Row → List Var → Program
program_of_rows rows columns = program_of_contents (map contents_of rows) columns

-- ---- which rows have such a program as their text

-- the variables of all entries
abbrev pub entry_variables : List Row → List Var
entry_variables rows = flat_map (λ row. variables_of row.entries.items) rows

-- No name ends a line, there are fewer than 10 ^ 64 rows and columns, the columns ascend, and they are the variables of the rows, and others at
-- most that cost something: MPS names a column only where it has a number.
pub record AreReadable (sets : SetLists) (rows : List Row) (columns : List Var) : Type 0 where
  pub few_rows : length rows < 10 ^ 64
  pub few_columns : length columns < 10 ^ 64
  pub row_names : AllByRecursion (λ row. is_one_line (row_name sets row.name) ≡ true) rows
  pub column_names : AllByRecursion (λ v. is_one_line (variable_name sets v) ≡ true) columns
  pub ascending : ascends var_cmp columns ≡ true
  pub used : AllByRecursion (λ v. (v.kind ≡ TOTAL_DISCOUNTED_COST) ⊎ Contains (entry_variables rows) v) columns
  pub listed : AllByRecursion (Contains columns) (entry_variables rows)
