-- The variables and rows that a file can name: those that the sets have.
use Rattle.std.specs.Prelude.{◌≡◌, ℕ, Bool, false}
use Rattle.std.specs.List.{AllByRecursion}
use Rattle.model_sets.specs.Members.{SetLists}
use Rattle.row_core.specs.declared.Index.{Index}
use Rattle.row_core.specs.declared.Row.{Row}
use Rattle.row_core.specs.declared.RowName.{RowName}
use Rattle.row_core.specs.declared.Var.{Var}
use Rattle.row_core.specs.Equations.{IsEquation, equation_has}
use Rattle.row_core.specs.Kinds.{IsKind, kind_has}
use Rattle.row_core.specs.NameTexts.{RowNameIsWithin, VariableIsWithin, position_at}
use Rattle.plan_files.specs.Records.{places}

-- subscripts that there aren't are 0
abbrev pub HasUnusedZero : (ℕ → Bool) → Index → Type 0
HasUnusedZero has i = AllByRecursion (λ place. has place ≡ false → position_at i place ≡ 0) places

-- a variable of the sets: of a kind, its subscripts positions of members, and 0 where there is no such subscript
abbrev pub IsListedVariable : SetLists → Var → Type 0
IsListedVariable sets v = IsKind v.kind × VariableIsWithin sets v × HasUnusedZero (kind_has v.kind) v.index

-- a row of the sets, in the same way
abbrev pub IsListedRow : SetLists → RowName → Type 0
IsListedRow sets n = IsEquation n.eq × RowNameIsWithin sets n × HasUnusedZero (equation_has n.eq) n.index

-- the name of a row
abbrev pub name_of_row : Row → RowName
name_of_row row = row.name
