-- What a row says of a plan. A plan is a positive whole number q and a whole number x v for each variable v: the value of v is x v over q.
use Rattle.std.specs.Prelude.{◌≡◌, ℕ, ℤ, pos, ◌+ℤ◌, ◌*ℤ◌, Bool, List, [], ◌∷◌, if◌then◌else◌}
use Rattle.std.specs.Ordering.{is_eq}
use Rattle.row_core.specs.declared.Var.{Var}
use Rattle.row_core.specs.declared.Row.{Row}
use Rattle.row_core.specs.declared.Sense.{Sense}
use Rattle.row_core.specs.Order.{var_cmp}
use Rattle.row_core.specs.Statements.{Statement, Holds, holds}

-- the number that a list of entries has at a variable, 0 where it has none
abbrev pub number_at : List (Var × ℤ) → Var → ℤ
number_at [] v = pos 0
number_at (entry ∷ entries) v = if is_eq (var_cmp entry.0 v) then entry.1 else number_at entries v

-- the sum of each entry times its variable's whole number
abbrev pub row_sum : (Var → ℤ) → List (Var × ℤ) → ℤ
row_sum x [] = pos 0
row_sum x (entry ∷ entries) = (entry.1 *ℤ x entry.0) +ℤ row_sum x entries

-- the sum of the entries stands in this sense to q times the right side
abbrev pub statement_of : Sense → List (Var × ℤ) → ℤ → ℕ → (Var → ℤ) → Statement
statement_of sense entries rhs q x = record { left = row_sum x entries; sign = sense; right = rhs *ℤ pos q }

-- what the row says of the plan
abbrev pub row_statement : Row → ℕ → (Var → ℤ) → Statement
row_statement row q x = statement_of row.sense row.entries.items row.rhs q x

-- the row holds of the plan
abbrev pub RowHolds : Row → ℕ → (Var → ℤ) → Type 0
RowHolds row q x = Holds (row_statement row q x)

-- the test whether the row holds of the plan
abbrev pub row_holds : Row → ℕ → (Var → ℤ) → Bool
row_holds row q x = holds (row_statement row q x)

-- two plans, over q and over p, give every variable the same value
abbrev pub SameValues : ℕ → (Var → ℤ) → ℕ → (Var → ℤ) → Type 0
SameValues q x p y = (v : Var) → x v *ℤ pos p ≡ y v *ℤ pos q
