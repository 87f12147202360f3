-- The linear program that a text says, if it says one.
use Rattle.std.specs.Prelude.{ℕ, ℤ, pos, Bool, true, false, ◌&&◌, not, List, [], ◌∷◌, map, codes, Option, None, Some, if◌then◌else◌}
use Rattle.std.specs.List.{list_all, list_any}
use Rattle.std.specs.Str.{bytes_eq}
use Rattle.mps_meaning.specs.Lines.{Name}
use Rattle.mps_meaning.specs.Programs.{Numbers, Program, ProgramColumn, ProgramRow}
use Rattle.mps_meaning.specs.Sections.{Sections, are_ordered, below, lines_that_say, sections_of}
use Rattle.mps_meaning.specs.Statements.{NamedRow, ProgramEntry, Statements, statements_of}

-- ---- the program of what the lines state

-- the entry, if it is one of this row, before others
abbrev pub with_entry : Name → ProgramEntry → Numbers → Numbers
with_entry row entry rest = if bytes_eq entry.row row then (entry.column, entry.number) ∷ rest else rest

-- the entries of the row of this name
abbrev pub entries_at : Name → List ProgramEntry → Numbers
entries_at row [] = []
entries_at row (entry ∷ entries) = with_entry row entry (entries_at row entries)

-- the column, before others, unless they begin with it
abbrev pub with_column : Name → List Name → List Name
with_column column [] = column ∷ []
with_column column (next ∷ others) = if bytes_eq column next then next ∷ others else column ∷ next ∷ others

-- the columns, each once where its entries stand together
abbrev pub columns_in : List ProgramEntry → List Name
columns_in [] = []
columns_in (entry ∷ entries) = with_column entry.column (columns_in entries)

-- the right side, if it is this row's, and otherwise that of the others
abbrev pub with_side : Name → Name × ℤ → ℤ → ℤ
with_side row side rest = if bytes_eq side.0 row then side.1 else rest

-- the right side of the row of this name, 0 where none is given
abbrev pub side_at : Name → List (Name × ℤ) → ℤ
side_at row [] = pos 0
side_at row (side ∷ sides) = with_side row side (side_at row sides)

-- the name is one of these
abbrev pub is_among : List Name → Name → Bool
is_among names name = list_any (bytes_eq name) names

abbrev pub row_stated : Statements → NamedRow → ProgramRow
row_stated s row = record { name = row.name; sense = row.sense; entries = entries_at row.name s.entries; right_side = side_at row.name s.sides }

abbrev pub column_stated : Statements → Name → ProgramColumn
column_stated s name = record { name = name; least = if is_among s.free name then None else Some (pos 0) }

-- the program that is stated
abbrev pub program_stated : Statements → Program
program_stated s = record {
  costs = entries_at s.objective s.entries;
  rows = map (row_stated s) s.rows;
  columns = map (column_stated s) (columns_in s.entries);
}

-- ---- what is refused

-- no name is there twice
abbrev pub are_distinct : List Name → Bool
are_distinct [] = true
are_distinct (name ∷ names) = not (is_among names name) && are_distinct names

-- each of the names is one of those that are known
abbrev pub are_known : List Name → List Name → Bool
are_known known names = list_all (is_among known) names

abbrev pub names_of_rows : List NamedRow → List Name
names_of_rows rows = map (λ row. row.name) rows

-- no column has two entries among these
abbrev pub have_distinct_columns : Numbers → Bool
have_distinct_columns numbers = are_distinct (map (λ entry. entry.0) numbers)

-- no row, no column and no entry is there twice, and every row or column that is spoken of is there
abbrev pub are_sound : Statements → Program → Bool
are_sound s program =
    are_distinct (s.objective ∷ names_of_rows s.rows)
    && are_distinct (columns_in s.entries)
    && have_distinct_columns program.costs
    && list_all (λ row. have_distinct_columns row.entries) program.rows
    && are_known (s.objective ∷ names_of_rows s.rows) (map (λ entry. entry.row) s.entries)
    && are_known (names_of_rows s.rows) (map (λ side. side.0) s.sides)
    && are_distinct (map (λ side. side.0) s.sides)
    && are_known (columns_in s.entries) s.free
    && are_distinct s.free

-- ---- the text

abbrev pub sound_program : Statements → Program → Option Program
sound_program s program = if are_sound s program then Some program else None

abbrev pub program_of_statements : Option Statements → Option Program
program_of_statements None = None
program_of_statements (Some s) = sound_program s (program_stated s)

-- there are no lines
abbrev pub is_empty : List (List Name) → Bool
is_empty [] = true
is_empty (line ∷ lines) = false

-- nothing stands before the first section, the sections are those of a program in their order, and nothing stands below NAME and ENDATA
abbrev pub are_in_form : Sections → Bool
are_in_form s = is_empty s.before && are_ordered s.sections && is_empty (below (codes "NAME") s.sections) && is_empty (below (codes "ENDATA") s.sections)

abbrev pub program_of_sections : Sections → Option Program
program_of_sections s = if are_in_form s then program_of_statements (statements_of s.sections) else None

-- the linear program of a text in the free MPS format, or none
abbrev pub program_of : List ℕ → Option Program
program_of text = program_of_sections (sections_of (lines_that_say text))
