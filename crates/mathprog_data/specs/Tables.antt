-- Values in tables (the data section of GNU MathProg): a column for each value of one free subscript, a row for each of the other.
-- Each relation takes a list of tokens, the list that follows what it reads, and what that says; the line above a rule is its
-- form in BNF.
use Rattle.std.specs.Prelude.{◌≡◌, Bool, true, false, List, [], ◌∷◌, ◌++◌, codes, if◌then◌else◌}
use Rattle.mathprog_data.specs.declared.blocks.Mark.{Mark}
use Rattle.mathprog_data.specs.declared.lexeme.Sign.TheVariants as signs
use Rattle.mathprog_data.specs.Lexemes.{Placed}
use Rattle.mathprog_data.specs.Slices.{Slice, free_count, index_at}
use Rattle.mathprog_data.specs.Symbols.{Name, Number, IsSign, IsKeyword, IsSymbol, IsNumberToken, Comma}

-- a given value: its full index, the value in billionths and whether it is rounded, and its mark
pub record Given : Type 0 where
  pub index : List Name
  pub number : Number
  pub at : Mark

-- a value at this index with this mark
abbrev pub given : List Name → Number → Mark → Given
given index number at = record { index = index; number = number; at = at }

-- the beginning of a table, transposed or not
pub data Heading : (transposed : Bool) → List Placed → List Placed → Type 0 where
  -- ':'
  straight : {t : Placed} {rest : List Placed} → IsSign signs.Colon t → Heading false (t ∷ rest) rest
  -- '(' 'tr' ')' ':'
  turned : {t u v w : Placed} {rest : List Placed}
      → IsSign signs.OpenParen t → IsKeyword (codes "tr") u → IsSign signs.CloseParen v → IsSign signs.Colon w
      → Heading true (t ∷ u ∷ v ∷ w ∷ rest) rest

-- the columns, one at least, and what follows them
pub data Columns : List Placed → List Placed → (columns : List Name) → Type 0 where
  -- SYMBOL [','] ':='
  last : {t u : Placed} {ts rest : List Placed} {column : Name}
      → IsSymbol t column → Comma ts (u ∷ rest) → IsSign signs.Gives u
      → Columns (t ∷ ts) rest (column ∷ [])
  -- SYMBOL [','] columns
  more : {t : Placed} {ts us rest : List Placed} {column : Name} {columns : List Name}
      → IsSymbol t column → Comma ts us → Columns us rest columns
      → Columns (t ∷ ts) rest (column ∷ columns)

-- the index of a cell: the row gives the first free subscript and the column the second, in a transposed table the other way round
abbrev pub cell_index : Slice → (transposed : Bool) → (row column : Name) → List Name
cell_index slice transposed row column = index_at slice (if transposed then column ∷ row ∷ [] else row ∷ column ∷ [])

-- a value for each of these columns, in a row of this name and mark
pub data Cells (slice : Slice) (transposed : Bool) (row : Name) (at : Mark) : List Name → List Placed → List Placed → List Given → Type 0 where
  -- nothing, where no column is left
  none : {ts : List Placed} → Cells slice transposed row at [] ts ts []
  -- NUMBER [','] cells
  filled : {t : Placed} {ts us rest : List Placed} {column : Name} {columns : List Name} {number : Number} {values : List Given}
      → IsNumberToken t number → Comma ts us → Cells slice transposed row at columns us rest values
      → Cells slice transposed row at (column ∷ columns) (t ∷ ts) rest
      (given (cell_index slice transposed row column) number at ∷ values)
  -- '.' [','] cells, and the point gives no value
  point : {t : Placed} {ts us rest : List Placed} {column : Name} {columns : List Name} {values : List Given}
      → IsKeyword (codes ".") t → Comma ts us → Cells slice transposed row at columns us rest values
      → Cells slice transposed row at (column ∷ columns) (t ∷ ts) rest values

-- rows, or none
pub data Rows (slice : Slice) (transposed : Bool) (columns : List Name) : List Placed → List Placed → List Given → Type 0 where
  -- nothing
  none : {ts : List Placed} → Rows slice transposed columns ts ts []
  -- SYMBOL [','] cells rows
  more : {t : Placed} {ts us vs rest : List Placed} {row : Name} {values others : List Given}
      → IsSymbol t row → Comma ts us → Cells slice transposed row t.at columns us vs values
      → Rows slice transposed columns vs rest others
      → Rows slice transposed columns (t ∷ ts) rest (values ++ others)

-- a table over the two free subscripts of the slice
pub data Table (slice : Slice) : List Placed → List Placed → List Given → Type 0 where
  -- heading columns rows
  table : {transposed : Bool} {ts us vs rest : List Placed} {columns : List Name} {values : List Given}
      → free_count slice ≡ 2
      → Heading transposed ts us → Columns us vs columns → Rows slice transposed columns vs rest values
      → Table slice ts rest values

-- what ends a table follows: ';', '[', ':' or '('
pub data EndsTable : List Placed → Type 0 where
  semicolon : {t : Placed} {ts : List Placed} → IsSign signs.Semicolon t → EndsTable (t ∷ ts)
  bracket : {t : Placed} {ts : List Placed} → IsSign signs.OpenBracket t → EndsTable (t ∷ ts)
  colon : {t : Placed} {ts : List Placed} → IsSign signs.Colon t → EndsTable (t ∷ ts)
  paren : {t : Placed} {ts : List Placed} → IsSign signs.OpenParen t → EndsTable (t ∷ ts)
