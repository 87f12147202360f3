-- The text of rows in the free MPS format: https://lpsolve.sourceforge.net/5.5/mps-format.htm, "free MPS". Every line ends with a line
-- feed; a line that begins with '*' is a comment.
use Rattle.std.specs.Prelude.{ℕ, ℤ, Bool, List, [], ◌++◌, map, codes, ◌==◌, if◌then◌else◌}
use Rattle.std.specs.List.{flat_map, enumerate_from, list_any}
use Rattle.std.specs.Fmt.{decimal, signed_decimal}
use Rattle.std.specs.Ordering.{is_eq}
use Rattle.model_sets.specs.Members.{SetLists}
use Rattle.row_core.specs.declared.kind_numbers.TheConstants.{TOTAL_DISCOUNTED_COST}
use Rattle.row_core.specs.declared.Var.{Var}
use Rattle.row_core.specs.declared.Row.{Row}
use Rattle.row_core.specs.declared.Sense.{Sense}
use Rattle.row_core.specs.declared.Sense.TheVariants.{Least, Equal, Most}
use Rattle.row_core.specs.Kinds.{IsKind, kind_is_free}
use Rattle.row_core.specs.Equations.{IsEquation}
use Rattle.row_core.specs.NameTexts.{variable_name, row_name, VariableIsWithin, RowNameIsWithin}
use Rattle.row_core.specs.Numbers.{is_zero}
use Rattle.row_core.specs.Order.{var_cmp}
use Rattle.row_core.specs.Contents.{RowContents, contents_of}

-- ---- lines

-- a text and a line feed
abbrev pub line : List ℕ → List ℕ
line text = text ++ codes "\n"

-- rows and columns are numbered from 1
abbrev pub numbered : {A : Type 0} → List A → List (ℕ × A)
numbered items = enumerate_from 1 items

-- a row by its number
abbrev pub row_label : ℕ → List ℕ
row_label i = codes "R" ++ decimal i

-- a column by its number
abbrev pub column_label : ℕ → List ℕ
column_label j = codes "C" ++ decimal j

-- G for >=, E for =, L for <=
abbrev pub sense_letter : Sense → List ℕ
sense_letter Least = codes "G"
sense_letter Equal = codes "E"
sense_letter Most = codes "L"

-- ---- sections

-- a row's name, as a comment, and its sense
abbrev pub row_lines : SetLists → ℕ × RowContents → List ℕ
row_lines sets r =
    line (codes "* " ++ row_name sets r.1.name) ++ line (codes " " ++ sense_letter r.1.sense ++ codes " " ++ row_label r.0)

-- the two variables are one
abbrev pub is_same_variable : Var → Var → Bool
is_same_variable v w = is_eq (var_cmp v w)

-- the entry n of row i in column j
abbrev pub entry_line : ℕ → ℕ → ℤ → List ℕ
entry_line j i n = line (codes " " ++ column_label j ++ codes " " ++ row_label i ++ codes " " ++ signed_decimal n)

-- a row's entry at the variable of column j, if it has one
abbrev pub entry_lines : ℕ → Var → ℕ × RowContents → List ℕ
entry_lines j v r = flat_map (λ e. if is_same_variable e.0 v then entry_line j r.0 e.1 else []) r.1.entries

-- the cost is the sum of the variables TotalDiscountedCost
abbrev pub cost_line : ℕ → Var → List ℕ
cost_line j v = if v.kind == TOTAL_DISCOUNTED_COST then line (codes " " ++ column_label j ++ codes " COST 1") else []

-- what stands before a column's entries: its variable's name as a comment, and its cost where it has one
abbrev pub column_head : SetLists → ℕ × Var → List ℕ
column_head sets c = line (codes "* " ++ variable_name sets c.1) ++ cost_line c.0 c.1

-- a column's head, and its entries in the order of rows
abbrev pub column_lines : SetLists → List RowContents → ℕ × Var → List ℕ
column_lines sets rows c =
    column_head sets c ++ flat_map (entry_lines c.0 c.1) (numbered rows)

-- a right side, unless it is 0
abbrev pub rhs_line_of : ℕ → ℤ → List ℕ
rhs_line_of i rhs = if is_zero rhs then [] else line (codes " RHS " ++ row_label i ++ codes " " ++ signed_decimal rhs)

-- a row's right side
abbrev pub rhs_line : ℕ × RowContents → List ℕ
rhs_line r = rhs_line_of r.0 r.1.rhs

-- the column's variable may be below 0
abbrev pub is_free_column : ℕ × Var → Bool
is_free_column c = kind_is_free c.1.kind

-- a free column's bound
abbrev pub bound_line : ℕ × Var → List ℕ
bound_line c = if is_free_column c then line (codes " FR BND " ++ column_label c.0) else []

-- the free variables, where there is one
abbrev pub bounds : List (ℕ × Var) → List ℕ
bounds columns = if list_any is_free_column columns then line (codes "BOUNDS") ++ flat_map bound_line columns else []

-- all after the head of the rows
abbrev pub sections_text : SetLists → List RowContents → List Var → List ℕ
sections_text sets rows variables =
    flat_map (row_lines sets) (numbered rows)
    ++ line (codes "COLUMNS") ++ flat_map (column_lines sets rows) (numbered variables)
    ++ line (codes "RHS") ++ flat_map rhs_line (numbered rows)
    ++ bounds (numbered variables)
    ++ line (codes "ENDATA")

-- the text of what these rows say, with these columns
abbrev pub rows_text : SetLists → List RowContents → List Var → List ℕ
rows_text sets rows variables =
    line (codes "NAME OSEMOSYS") ++ line (codes "ROWS") ++ line (codes " N COST")
    ++ sections_text sets rows variables

-- the text of the rows with these columns
abbrev pub mps_text : SetLists → List Row → List Var → List ℕ
mps_text sets rows variables = rows_text sets (map contents_of rows) variables

-- ---- names

-- the row's equation is in its list, and each of its subscripts is the position of a member
abbrev pub IsNamedRow : SetLists → RowContents → Type 0
IsNamedRow sets row = IsEquation row.name.eq × RowNameIsWithin sets row.name

-- the variable's kind is in its list, and each of its subscripts is the position of a member
abbrev pub IsNamedVariable : SetLists → Var → Type 0
IsNamedVariable sets v = IsKind v.kind × VariableIsWithin sets v
