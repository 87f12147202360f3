-- How the machine that reads statements takes a token, one function for each state.
use Rattle.std.specs.Prelude.{ℕ, zero, suc, pos, Bool, true, false, List, [], ◌∷◌, ◌++◌, Option, Some, None, Result, Ok, Err, nat_eq, if◌then◌else◌}
use Rattle.std.specs.List.{list_any}
use Rattle.mathprog_data.specs.declared.blocks.Mark.{Mark}
use Rattle.mathprog_data.specs.declared.lexeme.Sign.TheVariants as signs
use Rattle.mathprog_data.specs.declared.words.Word.{Word}
use Rattle.mathprog_data.specs.declared.words.Word.TheVariants as words
use Rattle.mathprog_data.specs.Faults.{unexpected, unknown_name, given_twice, wrong_slice, row_too_short, bad_number, tabbing}
use Rattle.mathprog_data.specs.Lexemes.{Lexeme}
use Rattle.mathprog_data.specs.MachineStates.{Seen, SignSeen, SymbolSeen, seen_of, Open, Fresh, DataRead, Between, EndRead, Ended, SetRead, InSet, ParamRead, ParamNamed, DefaultRead, LeadingDefault, LeadingNumber, TabbingColon, TabbingNamed, InRecords, InPlain, PlaceDue, PlaceRead, ParenRead, TrRead, TrClosed, InColumns, InRows, InRow, Event, Begins, MemberNamed, DefaultGiven, ValueGiven, SetClosed, ParamClosed, Turn, Stop, Go, Emit, Draft, empty_draft, noted, Reader}
use Rattle.model_sets.specs.Names.{set_number}
use Rattle.model_sets.specs.Params.{param_number, subscript_count, results_path}
use Rattle.mathprog_data.specs.Slices.{Slice, all_free, free_count, index_at}
use Rattle.mathprog_data.specs.Statements.{Form, Listed, Tabbing, SetBegun, ParamBegun, TabbingBegun}
use Rattle.mathprog_data.specs.Symbols.{Name, Number}
use Rattle.mathprog_data.specs.Tables.{given, cell_index}

-- a comma, where one may stand
abbrev pub comma : Bool → Open → Turn
comma true next = Go next
comma false next = Stop unexpected

-- a number, where one is due
abbrev pub number : Option Number → (Number → Turn) → Turn
number None next = Stop bad_number
number (Some n) next = next n

-- the records of the parameter with all subscripts free
abbrev pub records : Form → ℕ → Bool → Open
records form param c = InRecords form param (all_free (subscript_count param)) c

-- what follows whole statements
abbrev pub between : Seen → Turn
between (SymbolSeen words.Set name n) = Go SetRead
between (SymbolSeen words.Param name n) = Go ParamRead
between (SymbolSeen words.End name n) = Go EndRead
between x = Stop unexpected

-- the first token
abbrev pub fresh : Seen → Turn
fresh (SymbolSeen words.Data name n) = Go DataRead
fresh x = between x

-- what follows `data`
abbrev pub data_read : Seen → Turn
data_read (SignSeen signs.Semicolon) = Go Between
data_read x = Stop unexpected

-- what follows `end`
abbrev pub end_read : Seen → Turn
end_read (SignSeen signs.Semicolon) = Go Ended
end_read x = Stop unexpected

-- a name that isn't one of those due, whether it is one of the others
abbrev pub wrong_name : Option ℕ → Turn
wrong_name None = Stop unknown_name
wrong_name (Some n) = Stop unexpected

-- the name of a set, whose number is the first if it is one, or of a parameter, whose number is the second
abbrev pub set_name : Option ℕ → Option ℕ → Turn
set_name (Some set) param = Emit (Begins (SetBegun set)) (InSet set true)
set_name None param = wrong_name param

-- what follows `set`
abbrev pub set_read : Seen → Turn
set_read (SymbolSeen w name n) = set_name (set_number name) (param_number name)
set_read x = Stop unexpected

-- a token among the members of a set
abbrev pub in_set : ℕ → Bool → Seen → Turn
in_set set c (SignSeen signs.Semicolon) = Emit (SetClosed set) Between
in_set set c (SignSeen signs.Gives) = Go (InSet set false)
in_set set c (SignSeen signs.Comma) = comma c (InSet set false)
in_set set c (SymbolSeen w name n) = Emit (MemberNamed name) (InSet set true)
in_set set c x = Stop unexpected

-- the name of a parameter, whose number is the first if it is one, or of a set, whose number is the second
abbrev pub param_name : Option ℕ → Option ℕ → Turn
param_name (Some param) set = Emit (Begins (ParamBegun param)) (ParamNamed param true)
param_name None set = wrong_name set

-- what follows `param`
abbrev pub param_read : Seen → Turn
param_read (SignSeen signs.Colon) = Go (TabbingColon None)
param_read (SymbolSeen words.Default name n) = Go LeadingDefault
param_read (SymbolSeen w name n) = param_name (param_number name) (set_number name)
param_read x = Stop unexpected

-- the value of plain data
abbrev pub plain_value : Form → ℕ → Slice → List Name → Mark → Option Number → Turn
plain_value form param slice names mark n =
    number (if nat_eq param results_path then Some (pos 0, false) else n)
    (λ v. Emit (ValueGiven (given (index_at slice names) v mark)) (InRecords form param slice true))

-- a symbol of plain data, where these names were read and these many are due
abbrev pub plain : Form → ℕ → Slice → List Name → Mark → ℕ → Name → Option Number → Turn
plain form param slice names mark zero name n = plain_value form param slice names mark n
plain form param slice names mark (suc left) name n = Go (InPlain form param slice (names ++ name ∷ []) mark left true)

-- `[`, where the parameter has these many subscripts
abbrev pub bracket : ℕ → ℕ → Turn
bracket param zero = Stop wrong_slice
bracket param (suc left) = Go (PlaceDue param [] left)

-- the beginning of a table, where two subscripts are free
abbrev pub table : ℕ → Open → Turn
table free next = if nat_eq free 2 then Go next else Stop wrong_slice

-- a token where a record may begin
abbrev pub in_records : Form → ℕ → Slice → Bool → Seen → Mark → Turn
in_records form param slice c (SignSeen signs.Semicolon) at = Emit (ParamClosed param) Between
in_records form param slice c (SignSeen signs.Comma) at = comma c (InRecords form param slice false)
in_records Listed param slice c (SignSeen signs.Gives) at = Go (InRecords Listed param slice false)
in_records Listed param slice c (SignSeen signs.OpenBracket) at = bracket param (subscript_count param)
in_records Listed param slice c (SignSeen signs.Colon) at = table (free_count slice) (InColumns param slice false [] false)
in_records Listed param slice c (SignSeen signs.OpenParen) at = table (free_count slice) (ParenRead param slice)
in_records form param slice c (SymbolSeen w name n) at = plain form param slice [] at (free_count slice) name n
in_records form param slice c x at = Stop unexpected

-- what follows a parameter's name
abbrev pub param_named : ℕ → Bool → Seen → Mark → Turn
param_named param c (SignSeen signs.Comma) at = comma c (ParamNamed param false)
param_named param c (SymbolSeen words.Default name n) at = Go (DefaultRead param)
param_named param c x at = in_records Listed param (all_free (subscript_count param)) false x at

-- what follows `default`
abbrev pub default_read : ℕ → Seen → Turn
default_read param (SymbolSeen w name n) = number n (λ v. Emit (DefaultGiven v) (records Listed param true))
default_read param x = Stop unexpected

-- what follows `param default`
abbrev pub leading_default : Seen → Turn
leading_default (SymbolSeen w name n) = number n (λ v. Go (LeadingNumber (Some v) true))
leading_default x = Stop unexpected

-- what follows the default before the colon of tabbing data
abbrev pub leading_number : Option Number → Bool → Seen → Turn
leading_number v c (SignSeen signs.Colon) = Go (TabbingColon v)
leading_number v c (SignSeen signs.Comma) = comma c (LeadingNumber v false)
leading_number v c x = Stop unexpected

-- the name of a parameter in tabbing data, as `param_name`
abbrev pub tabbing_name : Option Number → Option ℕ → Option ℕ → Turn
tabbing_name default (Some param) set = Emit (Begins (TabbingBegun param default)) (TabbingNamed param true)
tabbing_name default None set = wrong_name set

-- what follows the colon of tabbing data
abbrev pub tabbing_colon : Option Number → Seen → Turn
tabbing_colon default (SymbolSeen w name n) = tabbing_name default (param_number name) (set_number name)
tabbing_colon default x = Stop unexpected

-- what follows the name in tabbing data
abbrev pub tabbing_named : ℕ → Bool → Seen → Turn
tabbing_named param c (SignSeen signs.Gives) = Go (records Tabbing param false)
tabbing_named param c (SignSeen signs.Comma) = comma c (TabbingNamed param false)
tabbing_named param c (SignSeen signs.Colon) = Stop tabbing
tabbing_named param c (SymbolSeen w name n) = Stop tabbing
tabbing_named param c x = Stop unexpected

-- what follows a subscript of plain data
abbrev pub in_plain : Form → ℕ → Slice → List Name → Mark → ℕ → Bool → Seen → Turn
in_plain form param slice names mark left c (SignSeen signs.Comma) = comma c (InPlain form param slice names mark left false)
in_plain form param slice names mark left c (SymbolSeen w name n) = plain form param slice names mark left name n
in_plain form param slice names mark left c x = Stop unexpected

-- a place of a slice
abbrev pub place_due : ℕ → Slice → ℕ → Seen → Turn
place_due param places left (SignSeen signs.Star) = Go (PlaceRead param (places ++ None ∷ []) left)
place_due param places left (SignSeen signs.CloseBracket) = Stop wrong_slice
place_due param places left (SymbolSeen w name n) = Go (PlaceRead param (places ++ Some name ∷ []) left)
place_due param places left x = Stop unexpected

-- what follows a place of a slice
abbrev pub place_read : ℕ → Slice → ℕ → Seen → Turn
place_read param places zero (SignSeen signs.CloseBracket) = Go (InRecords Listed param places true)
place_read param places (suc left) (SignSeen signs.CloseBracket) = Stop wrong_slice
place_read param places zero (SignSeen signs.Comma) = Stop wrong_slice
place_read param places (suc left) (SignSeen signs.Comma) = Go (PlaceDue param places left)
place_read param places left x = Stop unexpected

-- what follows `(`
abbrev pub paren_read : ℕ → Slice → Seen → Turn
paren_read param slice (SymbolSeen words.Tr name n) = Go (TrRead param slice)
paren_read param slice x = Stop unexpected

-- what follows `(tr`
abbrev pub tr_read : ℕ → Slice → Seen → Turn
tr_read param slice (SignSeen signs.CloseParen) = Go (TrClosed param slice)
tr_read param slice x = Stop unexpected

-- what follows `(tr)`
abbrev pub tr_closed : ℕ → Slice → Seen → Turn
tr_closed param slice (SignSeen signs.Colon) = Go (InColumns param slice true [] false)
tr_closed param slice x = Stop unexpected

-- `:=` after the columns, of which there must be one
abbrev pub columns_end : ℕ → Slice → Bool → List Name → Turn
columns_end param slice transposed [] = Stop unexpected
columns_end param slice transposed (column ∷ columns) = Go (InRows param slice transposed (column ∷ columns) false)

-- a token among the columns of a table
abbrev pub in_columns : ℕ → Slice → Bool → List Name → Bool → Seen → Turn
in_columns param slice transposed columns c (SignSeen signs.Gives) = columns_end param slice transposed columns
in_columns param slice transposed columns c (SignSeen signs.Comma) = comma c (InColumns param slice transposed columns false)
in_columns param slice transposed columns c (SymbolSeen w name n) = Go (InColumns param slice transposed (columns ++ name ∷ []) true)
in_columns param slice transposed columns c x = Stop unexpected

-- a token between the rows of a table
abbrev pub in_rows : ℕ → Slice → Bool → List Name → Bool → Seen → Mark → Turn
in_rows param slice transposed columns c (SignSeen signs.Gives) at = Stop unexpected
in_rows param slice transposed columns c (SignSeen signs.Comma) at = comma c (InRows param slice transposed columns false)
in_rows param slice transposed columns c (SymbolSeen w name n) at = Go (InRow param slice transposed columns name at columns true)
in_rows param slice transposed columns c x at = in_records Listed param slice false x at

-- after a cell: in the row, or between rows where it was the last one
abbrev pub row_left : ℕ → Slice → Bool → List Name → Name → Mark → List Name → Open
row_left param slice transposed columns row mark [] = InRows param slice transposed columns true
row_left param slice transposed columns row mark (column ∷ left) = InRow param slice transposed columns row mark (column ∷ left) true

-- a symbol of a row, where these columns have no value yet
abbrev pub cell : ℕ → Slice → Bool → List Name → Name → Mark → List Name → Word → Option Number → Turn
cell param slice transposed columns row mark [] w n = Stop unexpected
cell param slice transposed columns row mark (column ∷ left) words.Point n = Go (row_left param slice transposed columns row mark left)
cell param slice transposed columns row mark (column ∷ left) w n =
    number n (λ v. Emit (ValueGiven (given (cell_index slice transposed row column) v mark)) (row_left param slice transposed columns row mark left))

-- a token of a row
abbrev pub in_row : ℕ → Slice → Bool → List Name → Name → Mark → List Name → Bool → Seen → Turn
in_row param slice transposed columns row mark left c (SignSeen signs.Comma) = comma c (InRow param slice transposed columns row mark left false)
in_row param slice transposed columns row mark left c (SignSeen signs.Semicolon) = Stop row_too_short
in_row param slice transposed columns row mark left c (SignSeen signs.OpenBracket) = Stop row_too_short
in_row param slice transposed columns row mark left c (SignSeen signs.Colon) = Stop row_too_short
in_row param slice transposed columns row mark left c (SignSeen signs.OpenParen) = Stop row_too_short
in_row param slice transposed columns row mark left c (SymbolSeen w name n) = cell param slice transposed columns row mark left w n
in_row param slice transposed columns row mark left c x = Stop unexpected

-- what becomes of a token in this state
abbrev pub turn : Open → Seen → Mark → Turn
turn Fresh x at = fresh x
turn DataRead x at = data_read x
turn Between x at = between x
turn EndRead x at = end_read x
turn Ended x at = Stop unexpected
turn SetRead x at = set_read x
turn (InSet set c) x at = in_set set c x
turn ParamRead x at = param_read x
turn (ParamNamed param c) x at = param_named param c x at
turn (DefaultRead param) x at = default_read param x
turn LeadingDefault x at = leading_default x
turn (LeadingNumber v c) x at = leading_number v c x
turn (TabbingColon default) x at = tabbing_colon default x
turn (TabbingNamed param c) x at = tabbing_named param c x
turn (InRecords form param slice c) x at = in_records form param slice c x at
turn (InPlain form param slice names mark left c) x at = in_plain form param slice names mark left c x
turn (PlaceDue param places left) x at = place_due param places left x
turn (PlaceRead param places left) x at = place_read param places left x
turn (ParenRead param slice) x at = paren_read param slice x
turn (TrRead param slice) x at = tr_read param slice x
turn (TrClosed param slice) x at = tr_closed param slice x
turn (InColumns param slice transposed columns c) x at = in_columns param slice transposed columns c x
turn (InRows param slice transposed columns c) x at = in_rows param slice transposed columns c x at
turn (InRow param slice transposed columns row mark left c) x at = in_row param slice transposed columns row mark left c x

-- the event begins a statement whose name was given before
abbrev pub is_second : Draft → Event → Bool
is_second d (Begins (SetBegun set)) = list_any (λ b. nat_eq set b.set) d.sets
is_second d (Begins (ParamBegun param)) = list_any (λ b. nat_eq param b.param) d.params
is_second d (Begins (TabbingBegun param default)) = list_any (λ b. nat_eq param b.param) d.params
is_second d (MemberNamed name) = false
is_second d (DefaultGiven n) = false
is_second d (ValueGiven g) = false
is_second d (SetClosed set) = false
is_second d (ParamClosed param) = false

-- the machine in this state, with this read
abbrev pub reader : Open → Draft → Reader
reader open_part draft = record { open_part = open_part; draft = draft }

-- the machine after a turn: the number of the fault where it stops
abbrev pub taken : Draft → Turn → Result Reader ℕ
taken d (Stop fault) = Err fault
taken d (Go next) = Ok (reader next d)
taken d (Emit event next) = if is_second d event then Err given_twice else Ok (reader next (noted d event))

-- the machine after a token
abbrev pub step : Reader → Lexeme → Mark → Result Reader ℕ
step r lexeme at = taken r.draft (turn r.open_part (seen_of lexeme) at)

-- the machine at the beginning
abbrev pub beginning : Reader
beginning = reader Fresh empty_draft

-- the section may end here
abbrev pub may_end : Open → Bool
may_end Fresh = true
may_end Between = true
may_end Ended = true
may_end x = false
