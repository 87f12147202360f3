-- What may follow in each state of the machine, so that the whole is spelt as trees say: the rest of the open statement, and statements.
use Rattle.mathprog_data.proofs.Common.{◌≡◌, ℕ, zero, suc, Bool, true, false, List, [], ◌∷◌, ◌++◌, codes, Option, Some, None, Mark, Placed, Open, Fresh, DataRead, Between, EndRead, Ended, SetRead, InSet, ParamRead, ParamNamed, DefaultRead, LeadingDefault, LeadingNumber, TabbingColon, TabbingNamed, InRecords, InPlain, PlaceDue, PlaceRead, ParenRead, TrRead, TrClosed, InColumns, InRows, InRow, Event, Begins, DefaultGiven, ValueGiven, SetClosed, ParamClosed, Turn, Stop, Go, Emit, Opening, Statements, set_number, subscript_count, param_number, Slice, all_free, index_at, Places, Form, Listed, Tabbing, Members, Subscripts, Records, Default, SetBegun, ParamBegun, TabbingBegun, Statement, Name, Number, IsSign, IsKeyword, IsSymbol, IsNumberToken, IsValue, Comma, Given, given, Columns, Cells, Rows, EndsTable}
use Rattle.mathprog_data.proofs.Walks.{member_events, given_events, default_events, statements_events}
use Rattle.mathprog_data.specs.declared.lexeme.Sign.TheVariants as signs
use Rattle.mathprog_data.proofs.OptionalCommas.{OptionalComma}

-- what may be left open, in which state: K says what must follow there. It is kept by a step backwards
pub record StepsBack (K : Open → List Placed → Type 0) : Type 0 where
  pub ends : (t : Placed) (ts : List Placed) → IsKeyword (codes "end") t → K EndRead ts → K Between (t ∷ ts)
  pub closes : (t : Placed) (ts : List Placed) → IsSign signs.Semicolon t → K Ended ts → K EndRead (t ∷ ts)
  pub sets : (t : Placed) (ts : List Placed) → IsKeyword (codes "set") t → K SetRead ts → K Between (t ∷ ts)
  pub params : (t : Placed) (ts : List Placed) → IsKeyword (codes "param") t → K ParamRead ts → K Between (t ∷ ts)
  pub colon : (t : Placed) (ts : List Placed) → IsSign signs.Colon t → K (TabbingColon None) ts → K ParamRead (t ∷ ts)
  pub leads : (t : Placed) (ts : List Placed) → IsKeyword (codes "default") t → K LeadingDefault ts → K ParamRead (t ∷ ts)
  pub reads : (t : Placed) (ts : List Placed) (v : Number) → IsNumberToken t v → K (LeadingNumber (Some v) true) ts → K LeadingDefault (t ∷ ts)
  pub commas : (t : Placed) (ts : List Placed) (v : Option Number) → IsSign signs.Comma t → K (LeadingNumber v false) ts → K (LeadingNumber v true) (t ∷ ts)
  pub colons : (t : Placed) (ts : List Placed) (v : Option Number) (c : Bool) → IsSign signs.Colon t → K (TabbingColon v) ts → K (LeadingNumber v c) (t ∷ ts)

-- statements, and what K says between them
pub data After (K : Open → List Placed → Type 0) : List Placed → List Event → Type 0 where
  after : {ts us : List Placed} {ss : List Statement} → Statements ts us ss → K Between us → After K ts (statements_events ss [])

-- the rest of a set's members, and more
pub data SetRest (K : Open → List Placed → Type 0) (n : ℕ) : Bool → List Placed → List Event → Type 0 where
  set_rest : {c : Bool} {ts us rest : List Placed} {names : List Name} {events : List Event} → OptionalComma c ts us → Members us rest names → After K rest events → SetRest K n c ts (member_events names (SetClosed n ∷ events))

-- records, the end of the statement, and more
pub data RecordsRest (K : Open → List Placed → Type 0) (param : ℕ) (form : Form) (slice : Slice) : List Placed → List Event → Type 0 where
  records_rest : {ts rest : List Placed} {values : List Given} {events : List Event} → Records param form slice ts rest values → After K rest events → RecordsRest K param form slice ts (given_events values (ParamClosed param ∷ events))

-- what follows a parameter's name
pub data NamedRest (K : Open → List Placed → Type 0) (param : ℕ) : Bool → List Placed → List Event → Type 0 where
  named_rest : {c : Bool} {ts us vs : List Placed} {default : Option Number} {events : List Event} → OptionalComma c ts us → Default us vs default → RecordsRest K param Listed (all_free (subscript_count param)) vs events → NamedRest K param c ts (default_events default events)

-- what follows the parameter's name in tabbing data
pub data TabbedRest (K : Open → List Placed → Type 0) (param : ℕ) : Bool → List Placed → List Event → Type 0 where
  tabbed_rest : {c : Bool} {v : Placed} {ts vs : List Placed} {events : List Event} → OptionalComma c ts (v ∷ vs) → IsSign signs.Gives v → RecordsRest K param Tabbing (all_free (subscript_count param)) vs events → TabbedRest K param c ts events

-- what follows the colon of tabbing data
pub data ColonRest (K : Open → List Placed → Type 0) (default : Option Number) : List Placed → List Event → Type 0 where
  colon_rest : {u : Placed} {us : List Placed} {param : ℕ} {events : List Event} → (name : Name) → IsSymbol u name → param_number name ≡ Some param → TabbedRest K param true us events → ColonRest K default (u ∷ us) (Begins (TabbingBegun param default) ∷ events)

-- the rows of a table, what follows it, and more
pub data RowsRest (K : Open → List Placed → Type 0) (param : ℕ) (slice : Slice) (transposed : Bool) (names : List Name) : List Placed → List Event → Type 0 where
  rows_rest : {ts rest : List Placed} {values : List Given} {events : List Event} → Rows slice transposed names ts rest values → EndsTable rest → RecordsRest K param Listed slice rest events → RowsRest K param slice transposed names ts (given_events values events)

-- further columns, `:=` and the rows
pub data ColumnsRest (K : Open → List Placed → Type 0) (param : ℕ) (slice : Slice) (transposed : Bool) (names : List Name) : Bool → List Placed → List Event → Type 0 where
  columns_end : {c : Bool} {u : Placed} {ts us : List Placed} {column : Name} {others : List Name} {events : List Event} → OptionalComma c ts (u ∷ us) → IsSign signs.Gives u → names ≡ column ∷ others → RowsRest K param slice transposed names us events → ColumnsRest K param slice transposed names c ts events
  columns_more : {c : Bool} {ts us vs : List Placed} {more : List Name} {events : List Event} → OptionalComma c ts us → Columns us vs more → RowsRest K param slice transposed (names ++ more) vs events → ColumnsRest K param slice transposed names c ts events

-- what may follow in a state, with its events
pub data Goes (K : Open → List Placed → Type 0) : Open → List Placed → List Event → Type 0 where
  fresh : {ts us : List Placed} {events : List Event} → Opening ts us → After K us events → Goes K Fresh ts events
  data_read : {t : Placed} {ts : List Placed} {events : List Event} → IsSign signs.Semicolon t → After K ts events → Goes K DataRead (t ∷ ts) events
  between : {ts : List Placed} {events : List Event} → After K ts events → Goes K Between ts events
  cut_end : {ts : List Placed} → K EndRead ts → Goes K EndRead ts []
  cut_ended : {ts : List Placed} → K Ended ts → Goes K Ended ts []
  set_read : {u : Placed} {us : List Placed} {n : ℕ} {events : List Event} → (name : Name) → IsSymbol u name → set_number name ≡ Some n → SetRest K n true us events → Goes K SetRead (u ∷ us) (Begins (SetBegun n) ∷ events)
  cut_set : {ts : List Placed} → K SetRead ts → Goes K SetRead ts []
  in_set : {n : ℕ} {c : Bool} {ts : List Placed} {events : List Event} → SetRest K n c ts events → Goes K (InSet n c) ts events
  param_read : {u : Placed} {us : List Placed} {param : ℕ} {events : List Event} → (name : Name) → IsSymbol u name → param_number name ≡ Some param → NamedRest K param true us events → Goes K ParamRead (u ∷ us) (Begins (ParamBegun param) ∷ events)
  tabbing_read : {u : Placed} {ts us : List Placed} {default : Option Number} {events : List Event} → Default ts (u ∷ us) default → IsSign signs.Colon u → ColonRest K default us events → Goes K ParamRead ts events
  cut_param : {ts : List Placed} → K ParamRead ts → Goes K ParamRead ts []
  param_named : {param : ℕ} {c : Bool} {ts : List Placed} {events : List Event} → NamedRest K param c ts events → Goes K (ParamNamed param c) ts events
  default_read : {u : Placed} {us vs : List Placed} {param : ℕ} {v : Number} {events : List Event} → IsNumberToken u v → Comma us vs → RecordsRest K param Listed (all_free (subscript_count param)) vs events → Goes K (DefaultRead param) (u ∷ us) (DefaultGiven v ∷ events)
  leading_default : {u w : Placed} {us ws : List Placed} {v : Number} {events : List Event} → IsNumberToken u v → Comma us (w ∷ ws) → IsSign signs.Colon w → ColonRest K (Some v) ws events → Goes K LeadingDefault (u ∷ us) events
  cut_default : {ts : List Placed} → K LeadingDefault ts → Goes K LeadingDefault ts []
  leading_number : {v : Option Number} {c : Bool} {w : Placed} {ts ws : List Placed} {events : List Event} → OptionalComma c ts (w ∷ ws) → IsSign signs.Colon w → ColonRest K v ws events → Goes K (LeadingNumber v c) ts events
  cut_number : {v : Option Number} {c : Bool} {ts : List Placed} → K (LeadingNumber v c) ts → Goes K (LeadingNumber v c) ts []
  tabbing_colon : {default : Option Number} {ts : List Placed} {events : List Event} → ColonRest K default ts events → Goes K (TabbingColon default) ts events
  cut_tabbing : {default : Option Number} {ts : List Placed} → K (TabbingColon default) ts → Goes K (TabbingColon default) ts []
  tabbing_named : {param : ℕ} {c : Bool} {ts : List Placed} {events : List Event} → TabbedRest K param c ts events → Goes K (TabbingNamed param c) ts events
  in_records : {form : Form} {param : ℕ} {slice : Slice} {c : Bool} {ts us : List Placed} {events : List Event} → OptionalComma c ts us → RecordsRest K param form slice us events → Goes K (InRecords form param slice c) ts events
  in_plain : {form : Form} {param : ℕ} {slice : Slice} {names more : List Name} {mark : Mark} {left : ℕ} {c : Bool} {u : Placed} {ts us vs ws : List Placed} {v : Number} {events : List Event} → OptionalComma c ts us → Subscripts left us (u ∷ vs) more → IsValue param u v → Comma vs ws → RecordsRest K param form slice ws events
      → Goes K (InPlain form param slice names mark left c) ts (ValueGiven (given (index_at slice (names ++ more)) v mark) ∷ events)
  place_due : {param : ℕ} {places next : Slice} {left : ℕ} {ts us vs : List Placed} {events : List Event} → Places (suc left) ts us next → Comma us vs → RecordsRest K param Listed (places ++ next) vs events → Goes K (PlaceDue param places left) ts events
  place_last : {param : ℕ} {places : Slice} {t : Placed} {ts us : List Placed} {events : List Event} → IsSign signs.CloseBracket t → Comma ts us → RecordsRest K param Listed places us events → Goes K (PlaceRead param places zero) (t ∷ ts) events
  place_more : {param : ℕ} {places next : Slice} {left : ℕ} {t : Placed} {ts us vs : List Placed} {events : List Event} → IsSign signs.Comma t → Places (suc left) ts us next → Comma us vs → RecordsRest K param Listed (places ++ next) vs events → Goes K (PlaceRead param places (suc left)) (t ∷ ts) events
  paren_read : {param : ℕ} {slice : Slice} {u v w : Placed} {ts : List Placed} {events : List Event} → IsKeyword (codes "tr") u → IsSign signs.CloseParen v → IsSign signs.Colon w → ColumnsRest K param slice true [] false ts events → Goes K (ParenRead param slice) (u ∷ v ∷ w ∷ ts) events
  tr_read : {param : ℕ} {slice : Slice} {v w : Placed} {ts : List Placed} {events : List Event} → IsSign signs.CloseParen v → IsSign signs.Colon w → ColumnsRest K param slice true [] false ts events → Goes K (TrRead param slice) (v ∷ w ∷ ts) events
  tr_closed : {param : ℕ} {slice : Slice} {w : Placed} {ts : List Placed} {events : List Event} → IsSign signs.Colon w → ColumnsRest K param slice true [] false ts events → Goes K (TrClosed param slice) (w ∷ ts) events
  in_columns : {param : ℕ} {slice : Slice} {transposed : Bool} {names : List Name} {c : Bool} {ts : List Placed} {events : List Event} → ColumnsRest K param slice transposed names c ts events → Goes K (InColumns param slice transposed names c) ts events
  in_rows : {param : ℕ} {slice : Slice} {transposed : Bool} {names : List Name} {c : Bool} {ts us : List Placed} {events : List Event} → OptionalComma c ts us → RowsRest K param slice transposed names us events → Goes K (InRows param slice transposed names c) ts events
  in_row : {param : ℕ} {slice : Slice} {transposed : Bool} {names left : List Name} {name : Name} {mark : Mark} {c : Bool} {ts us vs : List Placed} {values : List Given} {events : List Event} → OptionalComma c ts us → Cells slice transposed name mark left us vs values → RowsRest K param slice transposed names vs events
      → Goes K (InRow param slice transposed names name mark left c) ts (given_events values events)

-- a step backwards keeps what may follow, with the event of the step
abbrev pub BackStep : (Open → List Placed → Type 0) → Open → List Placed → List Placed → Turn → Type 0
BackStep K o before ts (Stop fault) = Unit {0}
BackStep K o before ts (Go next) = (events : List Event) → Goes K next ts events → Goes K o before events
BackStep K o before ts (Emit event next) = (events : List Event) → Goes K next ts events → Goes K o before (event ∷ events)

pub record Back (K : Open → List Placed → Type 0) (o : Open) (before ts : List Placed) (turned : Turn) : Type 0 where
  pub step : BackStep K o before ts turned

pub back : {K : Open → List Placed → Type 0} {o : Open} {before ts : List Placed} {turned : Turn} → BackStep K o before ts turned → Back K o before ts turned
back s = record { step = s }
