-- The sections of a text: each has a head, a line that isn't indented, and the indented lines below it.
use Rattle.std.specs.Prelude.{ℕ, Bool, true, false, ◌&&◌, List, [], ◌∷◌, codes, if◌then◌else◌}
use Rattle.std.specs.List.{list_any}
use Rattle.std.specs.Str.{bytes_eq}
use Rattle.mps_meaning.specs.Lines.{Name, lines, fields, is_comment, is_indented}

-- a line that is no comment: whether it is indented, and its fields
pub record Line : Type 0 where
  pub indented : Bool
  pub fields : List Name

-- the line of this text, before others
abbrev pub with_line : List ℕ → List Line → List Line
with_line text rest = if is_comment text then rest else record { indented = is_indented text; fields = fields text } ∷ rest

-- the lines that are no comments
abbrev pub without_comments : List (List ℕ) → List Line
without_comments [] = []
without_comments (text ∷ texts) = with_line text (without_comments texts)

-- the lines of a text that say something
abbrev pub lines_that_say : List ℕ → List Line
lines_that_say text = without_comments (lines text)

-- the fields of the head, and those of each line below it
pub record Section : Type 0 where
  pub head : List Name
  pub below : List (List Name)

-- indented lines, and the sections after them
pub record Sections : Type 0 where
  pub before : List (List Name)
  pub sections : List Section

-- the same with a line before all of them
abbrev pub onto_sections : Line → Sections → Sections
onto_sections line rest =
    if line.indented then record { before = line.fields ∷ rest.before; sections = rest.sections }
    else record { before = []; sections = record { head = line.fields; below = rest.before } ∷ rest.sections }

-- the sections of lines
abbrev pub sections_of : List Line → Sections
sections_of [] = record { before = []; sections = [] }
sections_of (line ∷ lines) = onto_sections line (sections_of lines)

-- ---- their order

-- two lists of fields are one
abbrev pub same_fields : List Name → List Name → Bool
same_fields [] [] = true
same_fields [] (w ∷ ws) = false
same_fields (v ∷ vs) [] = false
same_fields (v ∷ vs) (w ∷ ws) = bytes_eq v w && same_fields vs ws

-- the word of a head: its one field, or of NAME, which may give the program a name, the first of two; nothing where there are more
abbrev pub word_of : List Name → Name
word_of [] = []
word_of (word ∷ []) = word
word_of (word ∷ name ∷ []) = if bytes_eq word (codes "NAME") then word else []
word_of (word ∷ name ∷ other ∷ more) = []

-- the words of the heads
abbrev pub words_of : List Section → List Name
words_of [] = []
words_of (section ∷ sections) = word_of section.head ∷ words_of sections

-- the sections that a program has, in their order: there may be no right sides, and no bounds
abbrev pub orders : List (List Name)
orders =
    (codes "NAME" ∷ codes "ROWS" ∷ codes "COLUMNS" ∷ codes "ENDATA" ∷ [])
    ∷ (codes "NAME" ∷ codes "ROWS" ∷ codes "COLUMNS" ∷ codes "RHS" ∷ codes "ENDATA" ∷ [])
    ∷ (codes "NAME" ∷ codes "ROWS" ∷ codes "COLUMNS" ∷ codes "BOUNDS" ∷ codes "ENDATA" ∷ [])
    ∷ (codes "NAME" ∷ codes "ROWS" ∷ codes "COLUMNS" ∷ codes "RHS" ∷ codes "BOUNDS" ∷ codes "ENDATA" ∷ [])
    ∷ []

-- the sections are those of a program, in their order
abbrev pub are_ordered : List Section → Bool
are_ordered sections = list_any (same_fields (words_of sections)) orders

-- the lines of this section, if the head has this word, before others
abbrev pub with_section : Name → Section → List (List Name) → List (List Name)
with_section word section rest = if bytes_eq (word_of section.head) word then section.below else rest

-- the lines below the head of this word, none where there is no such head
abbrev pub below : Name → List Section → List (List Name)
below word [] = []
below word (section ∷ sections) = with_section word section (below word sections)
