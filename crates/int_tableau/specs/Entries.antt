-- A list of entries: columns, each with its number.
use Rattle.std.specs.Prelude.{◌≢◌, ℕ, zero, suc, ◌<◌, ◌≤◌, ◌==◌, ℤ, pos, ◌+ℤ◌, neg_ℤ, Bool, List, [], ◌∷◌, ⊤, Option, Some, None, if◌then◌else◌}
use Rattle.exact_num.specs.Range.{InRange}

-- the number, or 0
abbrev pub only : Bool → ℤ → ℤ
only here z = if here then z else pos 0

-- the number in a column, 0 where there is no entry
abbrev pub at : List (ℕ × ℤ) → ℕ → ℤ
at [] c = pos 0
at (e ∷ es) c = only (e.0 == c) e.1 +ℤ at es c

-- the values of f at n columns from `low` on
abbrev pub spread : (ℕ → ℤ) → ℕ → ℕ → List ℤ
spread f low zero = []
spread f low (suc n) = f low ∷ spread f (suc low) n

-- an entry other than 0 that fits, in a column from `low` on and below `high`
pub record IsEntry (low high : ℕ) (e : ℕ × ℤ) : Type 0 where
  pub from : low ≤ e.0
  pub below : e.0 < high
  pub nonzero : e.1 ≢ pos 0
  pub fits : InRange e.1

-- such entries, in ascending order of columns
abbrev pub IsSparse : ℕ → ℕ → List (ℕ × ℤ) → Type 0
IsSparse low high [] = ⊤
IsSparse low high (e ∷ es) = IsEntry low high e × IsSparse (suc e.0) high es

-- the column of the first entry, or `columns` where there is none
abbrev pub head_column : {N : Type 0} → ℕ → List (ℕ × N) → ℕ
head_column columns [] = columns
head_column columns (e ∷ es) = e.0

-- the number of the first entry where it stands in column c, and else 0; and the entries after it
abbrev pub taken_number : ℕ → List (ℕ × ℤ) → ℤ
taken_number c [] = pos 0
taken_number c (e ∷ es) = only (e.0 == c) e.1

abbrev pub taken_rest : {N : Type 0} → ℕ → List (ℕ × N) → List (ℕ × N)
taken_rest c [] = []
taken_rest c (e ∷ es) = if e.0 == c then es else (e ∷ es)

-- the first entry, if there is one
abbrev pub first_of : List (ℕ × ℤ) → Option (ℕ × ℤ)
first_of [] = None
first_of (e ∷ es) = Some e

-- each number multiplied by -1
abbrev pub entries_negated : List (ℕ × ℤ) → List (ℕ × ℤ)
entries_negated [] = []
entries_negated (e ∷ es) = (e.0, neg_ℤ e.1) ∷ entries_negated es
