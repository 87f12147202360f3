-- A step backwards of the machine keeps what may follow: tables, and records as a whole.
use Rattle.std.proofs.Common.{◌≡◌, ℕ, Bool, true, false, cond, List, [], ◌∷◌, ◌++◌, Option, Some, None, nat_eq, refl, subst, append_assoc}
use Rattle.mathprog_data.proofs.Common.{eqb-true, Mark, Word, Placed, Seen, SignSeen, SymbolSeen, Open, InRecords, ParenRead, TrRead, TrClosed, InColumns, InRows, InRow, Event, ValueGiven, ParamClosed, Turn, Stop, Go, Emit, subscript_count, Slice, free_count, Form, Listed, Tabbing, Name, Number, IsSign, IsSymbol, IsNumberToken, Comma, Given, given, Heading, Columns, Cells, Rows, EndsTable, cell_index}
use Rattle.mathprog_data.proofs.StatementsGo.{records_rest, RowsRest, rows_rest, ColumnsRest, columns_end, columns_more, Goes, in_records, paren_read, tr_read, tr_closed, in_columns, in_rows, in_row, Back, back}
use Rattle.mathprog_data.proofs.StatementsSound.{records_semicolon, records_comma, records_gives, records_bracket, records_symbol}
use Rattle.mathprog_data.proofs.TokensSeen.{seen, seen-sign, seen-symbol, seen-number, seen-keyword}
use Rattle.mathprog_data.proofs.Walks.{given_events, given_events-append}
use Rattle.mathprog_data.specs.declared.lexeme.Sign.TheVariants as signs
use Rattle.mathprog_data.specs.declared.words.Word.TheVariants as words
use Rattle.mathprog_data.specs.MachineSteps.{turn, comma, row_left, cell, number, in_records as records_turn}
use Rattle.mathprog_data.specs.MachineSteps.{columns_end as end_turn}
use Rattle.mathprog_data.specs.Statements as statements
use Rattle.mathprog_data.specs.Tables as trees
use Rattle.mathprog_data.proofs.OptionalCommas.{none, one, comma_of}

-- ---- the beginning of a table
table_rest : {K : Open → List Placed → Type 0} {param : ℕ} {slice : Slice} {transposed : Bool} {c : Bool} {ts us : List Placed} {events : List Event} → free_count slice ≡ 2 → Heading transposed ts us → ColumnsRest K param slice transposed [] false us events → Goes K (InRecords Listed param slice c) ts events
table_rest two heading (columns_end d is some r) = cc
table_rest {param = param} two heading (columns_more none columns (rows_rest {values = values} rows ends (records_rest {values = others} {events = events} r a))) =
    rw (← given_events-append values others (ParamClosed param ∷ events)) (in_records none (records_rest (statements.Records.tabled (trees.Table.table two heading columns rows) ends r) a))

colon_step : {K : Open → List Placed → Type 0} {param : ℕ} {slice : Slice} {c : Bool} {t : Placed} {ts : List Placed} → free_count slice ≡ 2 → IsSign signs.Colon t → (events : List Event) → Goes K (InColumns param slice false [] false) ts events → Goes K (InRecords Listed param slice c) (t ∷ ts) events
colon_step two is events (in_columns r) = table_rest two (trees.Heading.straight is) r

paren_step : {K : Open → List Placed → Type 0} {param : ℕ} {slice : Slice} {c : Bool} {t : Placed} {ts : List Placed} → free_count slice ≡ 2 → IsSign signs.OpenParen t → (events : List Event) → Goes K (ParenRead param slice) ts events → Goes K (InRecords Listed param slice c) (t ∷ ts) events
paren_step two is events (paren_read word close colon r) = table_rest two (trees.Heading.turned is word close colon) r

records_table : {K : Open → List Placed → Type 0} {o next : Open} {t : Placed} {ts : List Placed} (free : ℕ) (b : Bool) → nat_eq free 2 ≡ b → (free ≡ 2 → (events : List Event) → Goes K next ts events → Goes K o (t ∷ ts) events) → Back K o (t ∷ ts) ts (cond b (Go next) (Stop 8))
records_table free false e step = back tt
records_table free true e step = back (step (eqb-true free 2 e))

-- ---- records
pub back_in_records : {K : Open → List Placed → Type 0} (form : Form) (param : ℕ) (slice : Slice) (c : Bool) (t : Placed) (ts : List Placed) (x : Seen) → seen t ≡ x → Back K (InRecords form param slice c) (t ∷ ts) ts (turn (InRecords form param slice c) x t.at)
back_in_records form param slice c t ts (SignSeen signs.Semicolon) e = back (records_semicolon (seen-sign signs.Semicolon t e))
back_in_records form param slice c t ts (SignSeen signs.Comma) e = records_comma c (seen-sign signs.Comma t e)
back_in_records Listed param slice c t ts (SignSeen signs.Gives) e = back (records_gives (seen-sign signs.Gives t e))
back_in_records Listed param slice c t ts (SignSeen signs.OpenBracket) e = records_bracket (subscript_count param) refl (seen-sign signs.OpenBracket t e)
back_in_records Listed param slice c t ts (SignSeen signs.Colon) e = records_table (free_count slice) (nat_eq (free_count slice) 2) refl (λ two. colon_step two (seen-sign signs.Colon t e))
back_in_records Listed param slice c t ts (SignSeen signs.OpenParen) e = records_table (free_count slice) (nat_eq (free_count slice) 2) refl (λ two. paren_step two (seen-sign signs.OpenParen t e))
back_in_records form param slice c t ts (SymbolSeen w name n) e = records_symbol t w name n (free_count slice) refl e
back_in_records form param slice c t ts x e = back tt

-- ---- headings
tr_step : {K : Open → List Placed → Type 0} {param : ℕ} {slice : Slice} (t : Placed) {ts : List Placed} (name : Name) (n : Option Number) → seen t ≡ SymbolSeen words.Tr name n → (events : List Event) → Goes K (TrRead param slice) ts events → Goes K (ParenRead param slice) (t ∷ ts) events
tr_step t name n e events (tr_read close colon r) = paren_read (seen-keyword t words.Tr name n (λ h. cc) e) close colon r

pub back_paren_read : {K : Open → List Placed → Type 0} (param : ℕ) (slice : Slice) (t : Placed) (ts : List Placed) (x : Seen) → seen t ≡ x → Back K (ParenRead param slice) (t ∷ ts) ts (turn (ParenRead param slice) x t.at)
back_paren_read param slice t ts (SymbolSeen words.Tr name n) e = back (tr_step t name n e)
back_paren_read param slice t ts x e = back tt

close_step : {K : Open → List Placed → Type 0} {param : ℕ} {slice : Slice} {t : Placed} {ts : List Placed} → IsSign signs.CloseParen t → (events : List Event) → Goes K (TrClosed param slice) ts events → Goes K (TrRead param slice) (t ∷ ts) events
close_step is events (tr_closed colon r) = tr_read is colon r

pub back_tr_read : {K : Open → List Placed → Type 0} (param : ℕ) (slice : Slice) (t : Placed) (ts : List Placed) (x : Seen) → seen t ≡ x → Back K (TrRead param slice) (t ∷ ts) ts (turn (TrRead param slice) x t.at)
back_tr_read param slice t ts (SignSeen signs.CloseParen) e = back (close_step (seen-sign signs.CloseParen t e))
back_tr_read param slice t ts x e = back tt

turned_step : {K : Open → List Placed → Type 0} {param : ℕ} {slice : Slice} {t : Placed} {ts : List Placed} → IsSign signs.Colon t → (events : List Event) → Goes K (InColumns param slice true [] false) ts events → Goes K (TrClosed param slice) (t ∷ ts) events
turned_step is events (in_columns r) = tr_closed is r

pub back_tr_closed : {K : Open → List Placed → Type 0} (param : ℕ) (slice : Slice) (t : Placed) (ts : List Placed) (x : Seen) → seen t ≡ x → Back K (TrClosed param slice) (t ∷ ts) ts (turn (TrClosed param slice) x t.at)
back_tr_closed param slice t ts (SignSeen signs.Colon) e = back (turned_step (seen-sign signs.Colon t e))
back_tr_closed param slice t ts x e = back tt

-- ---- columns
end_step : {K : Open → List Placed → Type 0} {param : ℕ} {slice : Slice} {transposed : Bool} {column : Name} {names : List Name} {c : Bool} {t : Placed} {ts : List Placed} → IsSign signs.Gives t → (events : List Event) → Goes K (InRows param slice transposed (column ∷ names) false) ts events → Goes K (InColumns param slice transposed (column ∷ names) c) (t ∷ ts) events
end_step is events (in_rows none r) = in_columns (columns_end none is refl r)

columns_gives : {K : Open → List Placed → Type 0} {param : ℕ} {slice : Slice} {transposed : Bool} (names : List Name) {c : Bool} {t : Placed} {ts : List Placed} → IsSign signs.Gives t → Back K (InColumns param slice transposed names c) (t ∷ ts) ts (end_turn param slice transposed names)
columns_gives [] is = back tt
columns_gives (column ∷ names) is = back (end_step is)

columns_one : {K : Open → List Placed → Type 0} {param : ℕ} {slice : Slice} {transposed : Bool} {names : List Name} {t : Placed} {ts : List Placed} → IsSign signs.Comma t → (events : List Event) → Goes K (InColumns param slice transposed names false) ts events → Goes K (InColumns param slice transposed names true) (t ∷ ts) events
columns_one is events (in_columns (columns_end none gives some r)) = in_columns (columns_end (one is) gives some r)
columns_one is events (in_columns (columns_more none columns r)) = in_columns (columns_more (one is) columns r)

columns_comma : {K : Open → List Placed → Type 0} {param : ℕ} {slice : Slice} {transposed : Bool} {names : List Name} (c : Bool) {t : Placed} {ts : List Placed} → IsSign signs.Comma t → Back K (InColumns param slice transposed names c) (t ∷ ts) ts (comma c (InColumns param slice transposed names false))
columns_comma false is = back tt
columns_comma true is = back (columns_one is)

column_step : {K : Open → List Placed → Type 0} {param : ℕ} {slice : Slice} {transposed : Bool} {names : List Name} {c : Bool} {t : Placed} {ts : List Placed} (name : Name) → IsSymbol t name → (events : List Event) → Goes K (InColumns param slice transposed (names ++ name ∷ []) true) ts events → Goes K (InColumns param slice transposed names c) (t ∷ ts) events
column_step name is events (in_columns (columns_end d gives some r)) = in_columns (columns_more none (trees.Columns.last is (comma_of d) gives) r)
column_step {K = K} {param = param} {slice = slice} {transposed = transposed} {names = names} name is events (in_columns (columns_more {vs = vs} {more = others} d columns r)) =
    let P : List Name → Type 0 = λ ns. RowsRest K param slice transposed ns vs events in
    in_columns (columns_more none (trees.Columns.more is (comma_of d) columns) (subst P (append_assoc names (name ∷ []) others) r))

pub back_in_columns : {K : Open → List Placed → Type 0} (param : ℕ) (slice : Slice) (transposed : Bool) (names : List Name) (c : Bool) (t : Placed) (ts : List Placed) (x : Seen) → seen t ≡ x → Back K (InColumns param slice transposed names c) (t ∷ ts) ts (turn (InColumns param slice transposed names c) x t.at)
back_in_columns param slice transposed names c t ts (SignSeen signs.Gives) e = columns_gives names (seen-sign signs.Gives t e)
back_in_columns param slice transposed names c t ts (SignSeen signs.Comma) e = columns_comma c (seen-sign signs.Comma t e)
back_in_columns param slice transposed names c t ts (SymbolSeen w name n) e = back (column_step name (seen-symbol t w name n e))
back_in_columns param slice transposed names c t ts x e = back tt

-- ---- rows
rows_comma : {K : Open → List Placed → Type 0} {param : ℕ} {slice : Slice} {transposed : Bool} {names : List Name} (c : Bool) {t : Placed} {ts : List Placed} → IsSign signs.Comma t → Back K (InRows param slice transposed names c) (t ∷ ts) ts (comma c (InRows param slice transposed names false))
rows_comma false is = back tt
rows_comma {K = K} {param = param} {slice = slice} {transposed = transposed} {names = names} true {t = t} {ts = ts} is = back step
  where
    step : (events : List Event) → Goes K (InRows param slice transposed names false) ts events → Goes K (InRows param slice transposed names true) (t ∷ ts) events
    step events (in_rows none r) = in_rows (one is) r

row_step : {K : Open → List Placed → Type 0} {param : ℕ} {slice : Slice} {transposed : Bool} {names : List Name} {c : Bool} {t : Placed} {ts : List Placed} (name : Name) → IsSymbol t name → (events : List Event) → Goes K (InRow param slice transposed names name t.at names true) ts events → Goes K (InRows param slice transposed names c) (t ∷ ts) events
row_step name is events (in_row {values = values} d cells (rows_rest {values = others} {events = events'} rows ends r)) =
    rw (← given_events-append values others events') (in_rows none (rows_rest (trees.Rows.more is (comma_of d) cells rows) ends r))

-- what ends a table is the beginning of a record
ends_goes : {K : Open → List Placed → Type 0} {param : ℕ} {slice : Slice} {transposed : Bool} {names : List Name} {c : Bool} {t : Placed} {ts : List Placed} {events : List Event} → EndsTable (t ∷ ts) → Goes K (InRecords Listed param slice false) (t ∷ ts) events → Goes K (InRows param slice transposed names c) (t ∷ ts) events
ends_goes ends (in_records none r) = in_rows none (rows_rest trees.Rows.none ends r)

ends_step : {K : Open → List Placed → Type 0} {param : ℕ} {slice : Slice} {transposed : Bool} {names : List Name} {c : Bool} {t : Placed} {ts : List Placed} (turned : Turn) → EndsTable (t ∷ ts) → Back K (InRecords Listed param slice false) (t ∷ ts) ts turned → Back K (InRows param slice transposed names c) (t ∷ ts) ts turned
ends_step (Stop k) ends b = back tt
ends_step (Go next) ends b = back (λ events g. ends_goes ends (b.step events g))
ends_step (Emit event next) ends b = back (λ events g. ends_goes ends (b.step events g))

pub back_in_rows : {K : Open → List Placed → Type 0} (param : ℕ) (slice : Slice) (transposed : Bool) (names : List Name) (c : Bool) (t : Placed) (ts : List Placed) (x : Seen) → seen t ≡ x → Back K (InRows param slice transposed names c) (t ∷ ts) ts (turn (InRows param slice transposed names c) x t.at)
back_in_rows param slice transposed names c t ts (SignSeen signs.Gives) e = back tt
back_in_rows param slice transposed names c t ts (SignSeen signs.Comma) e = rows_comma c (seen-sign signs.Comma t e)
back_in_rows param slice transposed names c t ts (SymbolSeen w name n) e = back (row_step name (seen-symbol t w name n e))
back_in_rows param slice transposed names c t ts (SignSeen signs.Semicolon) e = ends_step (records_turn Listed param slice false (SignSeen signs.Semicolon) t.at) (trees.EndsTable.semicolon (seen-sign signs.Semicolon t e)) (back_in_records Listed param slice false t ts (SignSeen signs.Semicolon) e)
back_in_rows param slice transposed names c t ts (SignSeen signs.OpenBracket) e = ends_step (records_turn Listed param slice false (SignSeen signs.OpenBracket) t.at) (trees.EndsTable.bracket (seen-sign signs.OpenBracket t e)) (back_in_records Listed param slice false t ts (SignSeen signs.OpenBracket) e)
back_in_rows param slice transposed names c t ts (SignSeen signs.Colon) e = ends_step (records_turn Listed param slice false (SignSeen signs.Colon) t.at) (trees.EndsTable.colon (seen-sign signs.Colon t e)) (back_in_records Listed param slice false t ts (SignSeen signs.Colon) e)
back_in_rows param slice transposed names c t ts (SignSeen signs.OpenParen) e = ends_step (records_turn Listed param slice false (SignSeen signs.OpenParen) t.at) (trees.EndsTable.paren (seen-sign signs.OpenParen t e)) (back_in_records Listed param slice false t ts (SignSeen signs.OpenParen) e)
back_in_rows param slice transposed names c t ts x e = back tt

-- ---- cells
row_comma : {K : Open → List Placed → Type 0} {param : ℕ} {slice : Slice} {transposed : Bool} {names : List Name} {name : Name} {mark : Mark} {left : List Name} (c : Bool) {t : Placed} {ts : List Placed} → IsSign signs.Comma t → Back K (InRow param slice transposed names name mark left c) (t ∷ ts) ts (comma c (InRow param slice transposed names name mark left false))
row_comma false is = back tt
row_comma {K = K} {param = param} {slice = slice} {transposed = transposed} {names = names} {name = name} {mark = mark} {left = left} true {t = t} {ts = ts} is = back step
  where
    step : (events : List Event) → Goes K (InRow param slice transposed names name mark left false) ts events → Goes K (InRow param slice transposed names name mark left true) (t ∷ ts) events
    step events (in_row none cells r) = in_row (one is) cells r

-- after a cell: further cells, and rows
data CellsLeft (K : Open → List Placed → Type 0) (param : ℕ) (slice : Slice) (transposed : Bool) (names : List Name) (name : Name) (mark : Mark) (left : List Name) : List Placed → List Event → Type 0 where
  cells_left : {ts us vs : List Placed} {values : List Given} {events : List Event} → Comma ts us → Cells slice transposed name mark left us vs values → RowsRest K param slice transposed names vs events → CellsLeft K param slice transposed names name mark left ts (given_events values events)

left_goes : {K : Open → List Placed → Type 0} (param : ℕ) (slice : Slice) (transposed : Bool) (names : List Name) (name : Name) (mark : Mark) (left : List Name) {ts : List Placed} {events : List Event} → Goes K (row_left param slice transposed names name mark left) ts events → CellsLeft K param slice transposed names name mark left ts events
left_goes param slice transposed names name mark [] (in_rows d r) = cells_left (comma_of d) trees.Cells.none r
left_goes param slice transposed names name mark (column ∷ left) (in_row d cells r) = cells_left (comma_of d) cells r

point_goes : {K : Open → List Placed → Type 0} {param : ℕ} {slice : Slice} {transposed : Bool} {names : List Name} {name : Name} {mark : Mark} {column : Name} {left : List Name} {c : Bool} (t : Placed) {ts : List Placed} {events : List Event} (x : Name) (n : Option Number) → seen t ≡ SymbolSeen words.Point x n → CellsLeft K param slice transposed names name mark left ts events → Goes K (InRow param slice transposed names name mark (column ∷ left) c) (t ∷ ts) events
point_goes t x n e (cells_left d cells r) = in_row none (trees.Cells.point (seen-keyword t words.Point x n (λ h. cc) e) d cells) r

filled_goes : {K : Open → List Placed → Type 0} {param : ℕ} {slice : Slice} {transposed : Bool} {names : List Name} {name : Name} {mark : Mark} {column : Name} {left : List Name} {c : Bool} {t : Placed} {ts : List Placed} {events : List Event} {v : Number} → IsNumberToken t v → CellsLeft K param slice transposed names name mark left ts events → Goes K (InRow param slice transposed names name mark (column ∷ left) c) (t ∷ ts) (ValueGiven (given (cell_index slice transposed name column) v mark) ∷ events)
filled_goes is (cells_left d cells r) = in_row none (trees.Cells.filled is d cells) r

row_number : {K : Open → List Placed → Type 0} {param : ℕ} {slice : Slice} {transposed : Bool} {names : List Name} {name : Name} {mark : Mark} {column : Name} {left : List Name} {c : Bool} (t : Placed) {ts : List Placed} (w : Word) (x : Name) (n : Option Number) → seen t ≡ SymbolSeen w x n
    → Back K (InRow param slice transposed names name mark (column ∷ left) c) (t ∷ ts) ts (number n (λ v. Emit (ValueGiven (given (cell_index slice transposed name column) v mark)) (row_left param slice transposed names name mark left)))
row_number t w x None e = back tt
row_number {param = param} {slice = slice} {transposed = transposed} {names = names} {name = name} {mark = mark} {left = left} t w x (Some v) e =
    back (λ events g. filled_goes (seen-number t w x v e) (left_goes param slice transposed names name mark left g))

row_symbol : {K : Open → List Placed → Type 0} {param : ℕ} {slice : Slice} {transposed : Bool} {names : List Name} {name : Name} {mark : Mark} (left : List Name) {c : Bool} (t : Placed) {ts : List Placed} (w : Word) (x : Name) (n : Option Number) → seen t ≡ SymbolSeen w x n
    → Back K (InRow param slice transposed names name mark left c) (t ∷ ts) ts (cell param slice transposed names name mark left w n)
row_symbol [] t w x n e = back tt
row_symbol {param = param} {slice = slice} {transposed = transposed} {names = names} {name = name} {mark = mark} (column ∷ left) t words.Point x n e =
    back (λ events g. point_goes t x n e (left_goes param slice transposed names name mark left g))
row_symbol (column ∷ left) t w x n e = row_number t _ x n e

pub back_in_row : {K : Open → List Placed → Type 0} (param : ℕ) (slice : Slice) (transposed : Bool) (names : List Name) (name : Name) (mark : Mark) (left : List Name) (c : Bool) (t : Placed) (ts : List Placed) (x : Seen) → seen t ≡ x → Back K (InRow param slice transposed names name mark left c) (t ∷ ts) ts (turn (InRow param slice transposed names name mark left c) x t.at)
back_in_row param slice transposed names name mark left c t ts (SignSeen signs.Comma) e = row_comma c (seen-sign signs.Comma t e)
back_in_row param slice transposed names name mark left c t ts (SymbolSeen w x n) e = row_symbol left t w x n e
back_in_row param slice transposed names name mark left c t ts x e = back tt
