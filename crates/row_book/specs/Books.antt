-- What the book of rows of a model holds, and why there is none.
use Rattle.std.specs.Prelude.{◌≡◌, ℕ, ◌+◌, ◌<◌, ◌≤◌, Bool, true, false, List, [], ◌∷◌, ◌++◌, length, sum_by, ⊤}
use Rattle.std.specs.List.{list_all}
use Rattle.exact_num.specs.Range.{all_fit}
use Rattle.model_sets.specs.Data.{Data}
use Rattle.model_sets.specs.Members.{SetLists}
use Rattle.row_core.specs.declared.Row.{Row}
use Rattle.row_core.specs.declared.RowName.{RowName}
use Rattle.row_core.specs.declared.Var.{Var}
use Rattle.row_core.specs.declared.place.Place.{Place}
use Rattle.row_core.specs.EquationTerms.{equation_formed, terms_of, right_of}
use Rattle.row_core.specs.Equations.{IsEquation}
use Rattle.row_core.specs.Kinds.{IsKind}
use Rattle.row_core.specs.NameTexts.{RowNameIsWithin, VariableIsWithin}
use Rattle.row_core.specs.Written.{written_entries}
use Rattle.named_equations.specs.RowMeaning.{IsNamedRow}
use Rattle.row_book.specs.declared.fail.BookFail.{BookFail}
use Rattle.row_book.specs.declared.fail.BookFail.TheVariants.{Width, TooManyEntries, Memory}
use Rattle.row_book.specs.EquationRows.{terms_at}

-- ---- rows

-- one row for each of these instances, in order, and each the row of its instance
abbrev pub AreRowsOf : ℕ → Data → List RowName → List Row → Type 0
AreRowsOf places d [] [] = ⊤
AreRowsOf places d [] (row ∷ rows) = ⊥
AreRowsOf places d (name ∷ names) [] = ⊥
AreRowsOf places d (name ∷ names) (row ∷ rows) = IsNamedRow places d name (terms_at places d name) row × AreRowsOf places d names rows

-- ---- names

-- the row's equation is in its list, and each of its subscripts is the position of a member
abbrev pub HasNameWithin : SetLists → Row → Type 0
HasNameWithin sets row = IsEquation row.name.eq × RowNameIsWithin sets row.name

-- the variable's kind is in its list, and each of its subscripts is the position of a member
abbrev pub IsWithinSets : SetLists → Var → Type 0
IsWithinSets sets v = IsKind v.kind × VariableIsWithin sets v

-- ---- the book

-- rows, and their variables
pub record Book : Type 0 where
  pub rows : List Row
  pub vars : List Var

-- ---- which rows can be made

-- every number that is formed for the row of the instance fits
abbrev pub row_fits : ℕ → Data → RowName → Bool
row_fits places d name = all_fit (equation_formed (terms_at places d name))

-- how many entries the row of the instance has
abbrev pub entry_count : ℕ → Data → RowName → ℕ
entry_count places d name = length (written_entries (terms_of (terms_at places d name)) (right_of (terms_at places d name)))

-- how many entries the rows of these instances have together
abbrev pub entries_in : ℕ → Data → List RowName → ℕ
entries_in places d names = sum_by (entry_count places d) names

-- how many entries all rows may have together
abbrev pub entry_limit : ℕ
entry_limit = 4000000

-- after rows with so many entries, the rows of these instances can be made: every number that is formed fits, and the entries keep the limit
pub record CanBeMade (places : ℕ) (d : Data) (before : ℕ) (names : List RowName) : Type 0 where
  pub fit : list_all (row_fits places d) names ≡ true
  pub few : before + entries_in places d names ≤ entry_limit

-- the first of these instances whose row can't be made is this one: those before it can
pub record StopsAt (places : ℕ) (d : Data) (before : ℕ) (names : List RowName) (name : RowName) : Type 0 where
  pub earlier : List RowName
  pub later : List RowName
  pub split : names ≡ earlier ++ name ∷ later
  pub made : CanBeMade places d before earlier

-- the first row that can't be made is one for which a number is formed that doesn't fit
pub record IsTooWide (places : ℕ) (d : Data) (before : ℕ) (names : List RowName) (name : RowName) : Type 0 where
  pub stops : StopsAt places d before names name
  pub wide : row_fits places d name ≡ false

-- it is one whose numbers fit, and with whose entries the limit is passed
pub record HasTooMany (places : ℕ) (d : Data) (before : ℕ) (names : List RowName) (name : RowName) : Type 0 where
  pub stops : StopsAt places d before names name
  pub fits : row_fits places d name ≡ true
  pub many : entry_limit < (before + entries_in places d stops.earlier) + entry_count places d name

-- why the rows of these instances aren't made, after rows with so many entries; that memory runs out has no cause here
abbrev pub HasStopped : ℕ → Data → ℕ → List RowName → BookFail → Type 0
HasStopped places d before names (Width place) = (name : RowName) × (place ≡ Place.Row name) × IsTooWide places d before names name
HasStopped places d before names TooManyEntries = (name : RowName) × HasTooMany places d before names name
HasStopped places d before names Memory = ⊤

-- the row that is named is of its list, with the positions of members as its subscripts
abbrev pub NamesRowWithin : SetLists → BookFail → Type 0
NamesRowWithin sets (Width (Place.Row name)) = IsEquation name.eq × RowNameIsWithin sets name
NamesRowWithin sets (Width place) = ⊥
NamesRowWithin sets TooManyEntries = ⊤
NamesRowWithin sets Memory = ⊤
