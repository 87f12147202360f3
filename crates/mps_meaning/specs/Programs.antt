-- Linear programs, and what it means that values meet one.
use Rattle.std.specs.Prelude.{◌≡◌, ℕ, ◌<◌, ℤ, pos, ◌+ℤ◌, ◌*ℤ◌, ◌≤ℤ◌, List, [], ◌∷◌, Option, None, Some, ⊤}
use Rattle.mps_meaning.specs.Lines.{Name}

-- how the sum of a row stands to its right side: E is equal to it, L at most it, G at least it
pub data Letter : Type 0 where
  E : Letter
  L : Letter
  G : Letter

-- numbers of columns, by the columns' names
abbrev pub Numbers : Type 0
Numbers = List (Name × ℤ)

-- a row: its name, its sense, its entries and its right side
pub record ProgramRow : Type 0 where
  pub name : Name
  pub sense : Letter
  pub entries : Numbers
  pub right_side : ℤ

-- a column: its name, and the least value that it may have, if there is one
pub record ProgramColumn : Type 0 where
  pub name : Name
  pub least : Option ℤ

-- a linear program: the costs, whose sum is to be as small as may be, the rows and the columns
pub record Program : Type 0 where
  pub costs : Numbers
  pub rows : List ProgramRow
  pub columns : List ProgramColumn

-- ---- values: the column of each name has the whole number x name over one q that is above 0

-- the sum of each number times its column's whole number
abbrev pub sum_of : (Name → ℤ) → Numbers → ℤ
sum_of x [] = pos 0
sum_of x (entry ∷ entries) = (entry.1 *ℤ x entry.0) +ℤ sum_of x entries

-- the sum stands so to the right side
abbrev pub StandsTo : Letter → ℤ → ℤ → Type 0
StandsTo Letter.E sum right = sum ≡ right
StandsTo Letter.L sum right = sum ≤ℤ right
StandsTo Letter.G sum right = right ≤ℤ sum

-- the row holds of the values
abbrev pub HoldsOf : ℕ → (Name → ℤ) → ProgramRow → Type 0
HoldsOf q x row = StandsTo row.sense (sum_of x row.entries) (row.right_side *ℤ pos q)

-- each of the rows holds
abbrev pub EachHolds : ℕ → (Name → ℤ) → List ProgramRow → Type 0
EachHolds q x [] = ⊤
EachHolds q x (row ∷ rows) = HoldsOf q x row × EachHolds q x rows

-- the whole number is at least the bound, where there is one
abbrev pub IsAtLeast : ℕ → ℤ → Option ℤ → Type 0
IsAtLeast q z None = ⊤
IsAtLeast q z (Some least) = (least *ℤ pos q) ≤ℤ z

-- each of the columns keeps its bound
abbrev pub EachIsAtLeast : ℕ → (Name → ℤ) → List ProgramColumn → Type 0
EachIsAtLeast q x [] = ⊤
EachIsAtLeast q x (column ∷ columns) = IsAtLeast q (x column.name) column.least × EachIsAtLeast q x columns

-- the values meet the program: every row holds, and every column keeps its bound
pub record MeetsProgram (program : Program) (q : ℕ) (x : Name → ℤ) : Type 0 where
  pub positive : 0 < q
  pub rows : EachHolds q x program.rows
  pub columns : EachIsAtLeast q x program.columns

-- what the values cost, times q
abbrev pub objective_of : Program → (Name → ℤ) → ℤ
objective_of program x = sum_of x program.costs
