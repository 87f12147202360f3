-- Marks of columns, of which those that are the same modulo 256 share one: outside marked columns a line has no entry.
use Rattle.std.specs.Prelude.{◌≡◌, ℕ, ◌%◌, Bool, true, false, List, [], ◌∷◌, ⊤, slice_index_or}

-- the mark of a column
abbrev pub mark_of : List Bool → ℕ → Bool
mark_of marks c = slice_index_or marks (c % 256) false

-- the column of each entry is marked
abbrev pub AreMarked : {N : Type 0} → List Bool → List (ℕ × N) → Type 0
AreMarked marks [] = ⊤
AreMarked marks (e ∷ es) = (mark_of marks e.0 ≡ true) × AreMarked marks es
