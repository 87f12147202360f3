-- The machine takes what a table is spelt of, and does with it what its tree says.
use Rattle.std.proofs.Common.{◌≡◌, ℕ, inl, Bool, false, List, [], ◌∷◌, ◌++◌, Some, sym, refl, ap, ◌∙◌, subst, append_assoc}
use Rattle.mathprog_data.proofs.TokensSeen.{seen, sign-seen, number-seen, point-no_number}
use Rattle.mathprog_data.proofs.Walks.{Takes, go, emit, given_events, given_events-append, Loosened, columns, rows, row, Rests, SameFirst, switch, sign_go, symbol_go, take_comma}
use Rattle.mathprog_data.proofs.Common.{Mark, Word, Placed, SymbolSeen, Open, InRecords, ParenRead, TrRead, TrClosed, InColumns, InRows, InRow, Event, ValueGiven, Go, Emit, turn, columns_end, cell, row_left, Slice, free_count, Listed, Name, Number, Given, given, Heading, Columns, Cells, Rows, Table, EndsTable, cell_index}
use Rattle.mathprog_data.specs.declared.lexeme.Sign.TheVariants as signs
use Rattle.mathprog_data.specs.declared.words.Word.TheVariants as words
use Rattle.mathprog_data.specs.MachineSteps.{table as table_turn}
use Rattle.mathprog_data.specs.Tables as trees

take_heading : (F : Open → List Placed → Type 0) (param : ℕ) (slice : Slice) {transposed : Bool} {ts us : List Placed} {events : List Event} → free_count slice ≡ 2 → Heading transposed ts us → Takes F (InColumns param slice transposed [] false) us events
    → Takes F (InRecords Listed param slice false) ts events
take_heading F param slice two (trees.Heading.straight is) w =
    sign_go (InRecords Listed param slice false) signs.Colon is (ap (λ k. table_turn k (InColumns param slice false [] false)) two) w
take_heading F param slice two (trees.Heading.turned {u = u} is word close colon) w =
    sign_go (InRecords Listed param slice false) signs.OpenParen is (ap (λ k. table_turn k (ParenRead param slice)) two)
    (go (ap (λ l. turn (ParenRead param slice) (seen (record u { lexeme = l })) u.at) word)
    (sign_go (TrRead param slice) signs.CloseParen close refl
    (sign_go (TrClosed param slice) signs.Colon colon refl w)))

columns_end-some : (param : ℕ) (slice : Slice) (transposed : Bool) (names : List Name) (name : Name) → columns_end param slice transposed (names ++ name ∷ []) ≡ Go (InRows param slice transposed (names ++ name ∷ []) false)
columns_end-some param slice transposed [] name = refl
columns_end-some param slice transposed (c ∷ cs) name = refl

take_columns : (F : Open → List Placed → Type 0) → Rests F → (param : ℕ) (slice : Slice) (transposed : Bool) {rest : List Placed} {events : List Event} (names : List Name) {ts : List Placed} {others : List Name} → Columns ts rest others → Takes F (InRows param slice transposed (names ++ others) false) rest events
    → Takes F (InColumns param slice transposed names false) ts events
take_columns F resting param slice transposed names (trees.Columns.last {column = name} is c gives) w =
    symbol_go (InColumns param slice transposed names false) name is (λ x n. refl)
    (take_comma F resting columns c (sign_go (InColumns param slice transposed (names ++ name ∷ []) false) signs.Gives gives (columns_end-some param slice transposed names name) w))
take_columns F resting param slice transposed names (trees.Columns.more {column = name} {columns = others} is c next) w =
    symbol_go (InColumns param slice transposed names false) name is (λ x n. refl)
    (take_comma F resting columns c (take_columns F resting param slice transposed (names ++ name ∷ []) next (rw (append_assoc names (name ∷ []) others) w)))

-- the state in a row where these columns have no value yet, with a comma or without
abbrev row_open : ℕ → Slice → Bool → List Name → Name → Mark → List Name → Open
row_open param slice transposed names name mark [] = InRows param slice transposed names false
row_open param slice transposed names name mark (column ∷ left) = InRow param slice transposed names name mark (column ∷ left) false

loosened_row : (param : ℕ) (slice : Slice) (transposed : Bool) (names : List Name) (name : Name) (mark : Mark) (left : List Name) → Loosened (row_open param slice transposed names name mark left) (row_left param slice transposed names name mark left)
loosened_row param slice transposed names name mark [] = rows
loosened_row param slice transposed names name mark (column ∷ left) = row

-- a number in a cell
cell-number : (param : ℕ) (slice : Slice) (transposed : Bool) (names : List Name) (name : Name) (mark : Mark) (column : Name) (left : List Name) (t : Placed) (w : Word) (x : Name) (v : Number) → seen t ≡ SymbolSeen w x (Some v)
    → cell param slice transposed names name mark (column ∷ left) w (Some v) ≡ Emit (ValueGiven (given (cell_index slice transposed name column) v mark)) (row_left param slice transposed names name mark left)
cell-number param slice transposed names name mark column left t words.Point x v e = let bad = point-no_number t x (Some v) e in cc
cell-number param slice transposed names name mark column left t w x v e = refl

take_cells : (F : Open → List Placed → Type 0) → Rests F → (param : ℕ) (slice : Slice) (transposed : Bool) (names : List Name) (name : Name) (mark : Mark) {left : List Name} {ts rest : List Placed} {values : List Given} {events : List Event} → Cells slice transposed name mark left ts rest values
    → Takes F (InRows param slice transposed names false) rest events → Takes F (row_open param slice transposed names name mark left) ts (given_events values events)
take_cells F resting param slice transposed names name mark trees.Cells.none w = w
take_cells F resting param slice transposed names name mark (trees.Cells.filled {t = t} {column = column} {columns = left} {number = v} is c others) w =
    let s = number-seen t v is in
    emit (ap (λ x. turn (InRow param slice transposed names name mark (column ∷ left) false) x t.at) s.2 ∙ cell-number param slice transposed names name mark column left t s.0 s.1 v s.2)
    (take_comma F resting (loosened_row param slice transposed names name mark left) c (take_cells F resting param slice transposed names name mark others w))
take_cells F resting param slice transposed names name mark (trees.Cells.point {t = t} {column = column} {columns = left} is c others) w =
    go (ap (λ l. turn (InRow param slice transposed names name mark (column ∷ left) false) (seen (record t { lexeme = l })) t.at) is)
    (take_comma F resting (loosened_row param slice transposed names name mark left) c (take_cells F resting param slice transposed names name mark others w))

-- what ends a table is taken as the beginning of a record, or as the end of the statement
ends-turn : (param : ℕ) (slice : Slice) (transposed : Bool) (names : List Name) {ts : List Placed} → EndsTable ts → SameFirst (InRecords Listed param slice false) (InRows param slice transposed names false) ts
ends-turn param slice transposed names (trees.EndsTable.semicolon {t = t} is) =
    let e = sign-seen signs.Semicolon t is in
    inl (ap (λ x. turn (InRows param slice transposed names false) x t.at) e ∙ sym (ap (λ x. turn (InRecords Listed param slice false) x t.at) e))
ends-turn param slice transposed names (trees.EndsTable.bracket {t = t} is) =
    let e = sign-seen signs.OpenBracket t is in
    inl (ap (λ x. turn (InRows param slice transposed names false) x t.at) e ∙ sym (ap (λ x. turn (InRecords Listed param slice false) x t.at) e))
ends-turn param slice transposed names (trees.EndsTable.colon {t = t} is) =
    let e = sign-seen signs.Colon t is in
    inl (ap (λ x. turn (InRows param slice transposed names false) x t.at) e ∙ sym (ap (λ x. turn (InRecords Listed param slice false) x t.at) e))
ends-turn param slice transposed names (trees.EndsTable.paren {t = t} is) =
    let e = sign-seen signs.OpenParen t is in
    inl (ap (λ x. turn (InRows param slice transposed names false) x t.at) e ∙ sym (ap (λ x. turn (InRecords Listed param slice false) x t.at) e))

take_rows : (F : Open → List Placed → Type 0) → Rests F → (param : ℕ) (slice : Slice) (transposed : Bool) (column : Name) (names : List Name) {ts rest : List Placed} {values : List Given} {events : List Event} → Rows slice transposed (column ∷ names) ts rest values → EndsTable rest
    → Takes F (InRecords Listed param slice false) rest events → Takes F (InRows param slice transposed (column ∷ names) false) ts (given_events values events)
take_rows F resting param slice transposed column names trees.Rows.none ends w = switch F resting refl (ends-turn param slice transposed (column ∷ names) ends) w
take_rows F resting param slice transposed column names {events = events} (trees.Rows.more {t = t} {row = name} {values = values} {others = others} is c cells next) ends w =
    rw (given_events-append values others events)
    (symbol_go (InRows param slice transposed (column ∷ names) false) name is (λ x n. refl)
    (take_comma F resting row c (take_cells F resting param slice transposed (column ∷ names) name t.at cells (take_rows F resting param slice transposed column names next ends w))))

columns-some : {ts rest : List Placed} {names : List Name} → Columns ts rest names → (column : Name) × (others : List Name) × (names ≡ column ∷ others)
columns-some (trees.Columns.last {column = name} is c gives) = (name, [], refl)
columns-some (trees.Columns.more {column = name} {columns = others} is c next) = (name, others, refl)

pub take_table : (F : Open → List Placed → Type 0) → Rests F → (param : ℕ) (slice : Slice) {ts us : List Placed} {values : List Given} {events : List Event} → Table slice ts us values → EndsTable us
    → Takes F (InRecords Listed param slice false) us events → Takes F (InRecords Listed param slice false) ts (given_events values events)
take_table F resting param slice {events = events} (trees.Table.table {transposed = transposed} {vs = vs} {rest = rest} {columns = names} {values = values} two heading cols body) ends w =
    let some = columns-some cols in
    let P : List Name → Type 0 = λ ns. Rows slice transposed ns vs rest values in
    let Q : List Name → Type 0 = λ ns. Takes F (InRows param slice transposed ns false) vs (given_events values events) in
    let taken : Q (some.0 ∷ some.1) = take_rows F resting param slice transposed some.0 some.1 (subst P some.2 body) ends w in
    take_heading F param slice two heading (take_columns F resting param slice transposed [] cols (subst Q (sym some.2) taken))
