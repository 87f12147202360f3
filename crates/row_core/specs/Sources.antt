-- The rows of one equation among all, and what a source answers of them.
use Rattle.std.specs.Prelude.{◌≡◌, ℕ, ◌≤◌, Bool, ◌==◌, ◌&&◌, List, [], ◌∷◌, filter, ⊤, Option, None, Some}
use Rattle.std.specs.List.{AllByRecursion, enumerate_from, list_any}
use Rattle.row_core.specs.declared.Row.{Row}
use Rattle.row_core.specs.Contents.{RowContents, contents_of}

-- the row is one of the equation of this number
abbrev pub is_of_equation : ℕ → RowContents → Bool
is_of_equation eq row = row.name.eq == eq

-- the rows of the equation in their order, each with its position among all rows, counted from 1
abbrev pub rows_of_equation : ℕ → List RowContents → List (ℕ × RowContents)
rows_of_equation eq rows = filter (λ r. is_of_equation eq r.1) (enumerate_from 1 rows)

-- the row has an entry at a variable of this kind
abbrev pub has_entry_of : ℕ → RowContents → Bool
has_entry_of kind row = list_any (λ entry. entry.0.kind == kind) row.entries

-- some row of the equation has an entry at a variable of this kind
abbrev pub has_kind : ℕ → ℕ → List RowContents → Bool
has_kind eq kind rows = list_any (λ row. is_of_equation eq row && has_entry_of kind row) rows

-- no row stands after one of a later equation
abbrev pub AreInOrder : List RowContents → Type 0
AreInOrder [] = ⊤
AreInOrder (row ∷ rows) = AllByRecursion (λ later. row.name.eq ≤ later.name.eq) rows × AreInOrder rows

-- the first of the rows that are ahead is answered, if there is one, and the others stay ahead
abbrev pub Answers : List (ℕ × RowContents) → Option (ℕ × Row) → List (ℕ × RowContents) → Type 0
Answers before None after = (before ≡ []) × (after ≡ [])
Answers before (Some found) after = before ≡ (found.0, contents_of found.1) ∷ after
