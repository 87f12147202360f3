-- The shape of a tableau.
use Rattle.std.specs.Prelude.{◌≡◌, ◌≢◌, ℕ, ◌<◌, ◌^◌, List, [], ◌∷◌, length, slice_index_or, pos, ⊤}
use Rattle.written_method.specs.Lines.{Line}
use Rattle.written_method.specs.Tableaus.{no_line}

-- each line has an entry for each column
abbrev pub HaveColumns : ℕ → List Line → Type 0
HaveColumns n [] = ⊤
HaveColumns n (l ∷ ls) = (length l.entries ≡ n) × HaveColumns n ls

-- each is below n
abbrev pub AreBelow : ℕ → List ℕ → Type 0
AreBelow n [] = ⊤
AreBelow n (c ∷ cs) = (c < n) × AreBelow n cs

-- each line has an entry
abbrev pub HaveSome : List Line → Type 0
HaveSome [] = ⊤
HaveSome (l ∷ ls) = (0 < length l.entries) × HaveSome ls

-- no element is c
abbrev pub IsNowhere : ℕ → List ℕ → Type 0
IsNowhere c [] = ⊤
IsNowhere c (d ∷ ds) = (d ≢ c) × IsNowhere c ds

-- a line for each row and one for z at least, each with an entry for each column, the rows' without own entries; a basic column for each row; and
-- the columns are counted in 64 bits
pub record IsTableau (columns : ℕ) (lines : List Line) (basics : List ℕ) : Type 0 where
  pub have_columns : HaveColumns columns lines
  pub below : AreBelow columns basics
  pub countable : columns < 2 ^ 64
  pub line_of_z : length basics < length lines
  pub no_own : (i : ℕ) → i < length basics → (slice_index_or lines i no_line).own ≡ pos 0
