-- What the lines of each section say, line by line. A line of any other form says nothing that is understood here, and is refused.
use Rattle.std.specs.Prelude.{ℕ, ℤ, Bool, false, ◌&&◌, nat_lt, List, [], ◌∷◌, codes, Option, None, Some, if◌then◌else◌}
use Rattle.std.specs.List.{list_all}
use Rattle.std.specs.Option.{option_map}
use Rattle.std.specs.Char.{digit_value}
use Rattle.std.specs.Str.{bytes_eq}
use Rattle.std.specs.Str.Parse.{signed_digits_value, without_leading_sign}
use Rattle.mps_meaning.specs.Lines.{Name}
use Rattle.mps_meaning.specs.Programs.{Letter}
use Rattle.mps_meaning.specs.Sections.{Section, below}

-- ---- one line

-- the byte is a decimal digit
abbrev pub is_digit : ℕ → Bool
is_digit byte = nat_lt (digit_value byte) 10

-- the text is one digit or more, and nothing else
abbrev pub is_numeral : List ℕ → Bool
is_numeral [] = false
is_numeral (byte ∷ bytes) = is_digit byte && list_all is_digit bytes

-- a whole number: its digits, after a sign if there is one
abbrev pub number_of : Name → Option ℤ
number_of text = if is_numeral (without_leading_sign text) then Some (signed_digits_value 10 text) else None

-- a row's name and sense
pub record NamedRow : Type 0 where
  pub name : Name
  pub sense : Letter

-- the row of this name with the sense of this letter
abbrev pub row_with : Name → Name → Option NamedRow
row_with letter name =
    if bytes_eq letter (codes "E") then Some (record { name = name; sense = Letter.E })
    else if bytes_eq letter (codes "L") then Some (record { name = name; sense = Letter.L })
    else if bytes_eq letter (codes "G") then Some (record { name = name; sense = Letter.G })
    else None

-- a line of ROWS: the letter of its sense, and its name
abbrev pub row_line : List Name → Option NamedRow
row_line (letter ∷ name ∷ []) = row_with letter name
row_line fields = None

-- the line of the free row, whose letter is N
abbrev pub free_row_line : List Name → Option Name
free_row_line (letter ∷ name ∷ []) = if bytes_eq letter (codes "N") then Some name else None
free_row_line fields = None

-- an entry: its column, its row and its number
pub record ProgramEntry : Type 0 where
  pub column : Name
  pub row : Name
  pub number : ℤ

-- a line of COLUMNS: a column, a row, and the number that the column has there
abbrev pub entry_line : List Name → Option ProgramEntry
entry_line (column ∷ row ∷ number ∷ []) = option_map (λ n. record { column = column; row = row; number = n }) (number_of number)
entry_line fields = None

-- a line of RHS: the word RHS, as which all right sides here are named, a row, and its right side
abbrev pub side_line : List Name → Option (Name × ℤ)
side_line (vector ∷ row ∷ number ∷ []) = if bytes_eq vector (codes "RHS") then option_map (λ n. (row, n)) (number_of number) else None
side_line fields = None

-- a line of BOUNDS: FR, which takes the least value away, the word BND, as which all bounds here are named, and a column
abbrev pub free_line : List Name → Option Name
free_line (kind ∷ vector ∷ column ∷ []) = if bytes_eq kind (codes "FR") && bytes_eq vector (codes "BND") then Some column else None
free_line fields = None

-- ---- all lines

-- the item, if there is one, before the items, if they are all there
abbrev pub onto_items : {A : Type 0} → Option A → Option (List A) → Option (List A)
onto_items None items = None
onto_items (Some item) None = None
onto_items (Some item) (Some items) = Some (item ∷ items)

-- what each line says, where none is refused
abbrev pub each_line : {A : Type 0} → (List Name → Option A) → List (List Name) → Option (List A)
each_line reads [] = Some []
each_line reads (line ∷ lines) = onto_items (reads line) (each_line reads lines)

-- what all lines say
pub record Statements : Type 0 where
  pub objective : Name
  pub rows : List NamedRow
  pub entries : List ProgramEntry
  pub sides : List (Name × ℤ)
  pub free : List Name

-- they say it together, where no section is refused
abbrev pub stated : Option Name → Option (List NamedRow) → Option (List ProgramEntry) → Option (List (Name × ℤ)) → Option (List Name) → Option Statements
stated (Some objective) (Some rows) (Some entries) (Some sides) (Some free) =
    Some (record { objective = objective; rows = rows; entries = entries; sides = sides; free = free })
stated objective rows entries sides free = None

-- the first line of ROWS is that of the free row, and the others are those of the rows
abbrev pub stated_with : List (List Name) → Option (List ProgramEntry) → Option (List (Name × ℤ)) → Option (List Name) → Option Statements
stated_with [] entries sides free = None
stated_with (first ∷ others) entries sides free = stated (free_row_line first) (each_line row_line others) entries sides free

-- what the sections state
abbrev pub statements_of : List Section → Option Statements
statements_of sections =
    stated_with (below (codes "ROWS") sections) (each_line entry_line (below (codes "COLUMNS") sections))
    (each_line side_line (below (codes "RHS") sections)) (each_line free_line (below (codes "BOUNDS") sections))
