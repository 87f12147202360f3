-- The states of the machine that reads statements token by token: what is open, what a token says, and what it adds to the blocks.
use Rattle.std.specs.Prelude.{ℕ, ℤ, ◌+◌, Bool, List, [], ◌∷◌, ◌++◌, Option, Some, None}
use Rattle.mathprog_data.specs.declared.blocks.Mark.{Mark}
use Rattle.mathprog_data.specs.declared.lexeme.Sign.{Sign as TheSign}
use Rattle.mathprog_data.specs.declared.words.Word.{Word}
use Rattle.mathprog_data.specs.declared.words.Word.TheVariants.{Other}
use Rattle.mathprog_data.specs.Lexemes.{Lexeme, Sign, Bare, Quoted, bare_name}
use Rattle.mathprog_data.specs.Meaning.{SetBlock, ParamBlock, GivenValue, Blocks, value_of, count_of}
use Rattle.mathprog_data.specs.NumberReading.{reading}
use Rattle.mathprog_data.specs.Slices.{Slice}
use Rattle.mathprog_data.specs.Statements.{Form, Begun, SetBegun, ParamBegun, TabbingBegun}
use Rattle.mathprog_data.specs.Symbols.{Name, Number}
use Rattle.mathprog_data.specs.Tables.{Given}
use Rattle.mathprog_data.specs.Words.{word_of}

-- what a token says: a sign; an empty quoted symbol; or a symbol, as a word, as a name, and as a number where it is one
pub data Seen : Type 0 where
  SignSeen : TheSign → Seen
  EmptySeen : Seen
  SymbolSeen : Word → Name → Option Number → Seen

-- what a lexeme says
abbrev pub seen_of : Lexeme → Seen
seen_of (Sign s) = SignSeen s
seen_of (Bare bytes) = SymbolSeen (word_of bytes) (bare_name bytes) (reading bytes)
seen_of (Quoted []) = EmptySeen
seen_of (Quoted (c ∷ cs)) = SymbolSeen Other (c ∷ cs) None

-- what is open. A Bool says whether a comma may stand next
pub data Open : Type 0 where
  -- nothing was read
  Fresh : Open
  -- `data`
  DataRead : Open
  -- whole statements
  Between : Open
  -- `end`
  EndRead : Open
  -- `end ;`
  Ended : Open
  -- `set`
  SetRead : Open
  -- the members of a set
  InSet : ℕ → Bool → Open
  -- `param`
  ParamRead : Open
  -- a parameter's name
  ParamNamed : ℕ → Bool → Open
  -- `default` after it
  DefaultRead : ℕ → Open
  -- `param default`
  LeadingDefault : Open
  -- a number after that
  LeadingNumber : Option Number → Bool → Open
  -- the colon of tabbing data
  TabbingColon : Option Number → Open
  -- the parameter's name after it
  TabbingNamed : ℕ → Bool → Open
  -- records
  InRecords : Form → ℕ → Slice → Bool → Open
  -- subscripts of plain data, with the mark of the first and how many more are due
  InPlain : Form → ℕ → Slice → List Name → Mark → ℕ → Bool → Open
  -- in a slice, where a place is due and these many after it
  PlaceDue : ℕ → Slice → ℕ → Open
  -- in a slice, after a place, where these many more are due
  PlaceRead : ℕ → Slice → ℕ → Open
  -- `(`, `(tr`, `(tr)`
  ParenRead : ℕ → Slice → Open
  TrRead : ℕ → Slice → Open
  TrClosed : ℕ → Slice → Open
  -- the columns of a table, transposed or not
  InColumns : ℕ → Slice → Bool → List Name → Bool → Open
  -- the rows of a table
  InRows : ℕ → Slice → Bool → List Name → Bool → Open
  -- a row, its mark, and the columns for which it has no value yet
  InRow : ℕ → Slice → Bool → List Name → Name → Mark → List Name → Bool → Open

-- what a token adds
pub data Event : Type 0 where
  Begins : Begun → Event
  MemberNamed : Name → Event
  DefaultGiven : Number → Event
  ValueGiven : Given → Event
  SetClosed : ℕ → Event
  ParamClosed : ℕ → Event

-- what becomes of a token: it is refused with the number of a fault, or the machine goes on, with something added or not
pub data Turn : Type 0 where
  Stop : ℕ → Turn
  Go : Open → Turn
  Emit : Event → Open → Turn

-- what was read so far: the members, the default and the values of the open statement, and the blocks of those before it
pub record Draft : Type 0 where
  pub members : List Name
  pub default : Option ℤ
  pub values : List GivenValue
  pub sets : List SetBlock
  pub params : List ParamBlock
  pub rounded : ℕ

-- nothing
abbrev pub empty_draft : Draft
empty_draft = record { members = []; default = None; values = []; sets = []; params = []; rounded = 0 }

-- with this default
abbrev pub with_default : Draft → Option Number → Draft
with_default d None = d
with_default d (Some number) = record d { default = Some number.0; rounded = d.rounded + count_of number }

-- with the event
abbrev pub noted : Draft → Event → Draft
noted d (Begins (SetBegun set)) = d
noted d (Begins (ParamBegun param)) = d
noted d (Begins (TabbingBegun param default)) = with_default d default
noted d (MemberNamed name) = record d { members = d.members ++ name ∷ [] }
noted d (DefaultGiven number) = with_default d (Some number)
noted d (ValueGiven g) = record d { values = d.values ++ value_of g ∷ []; rounded = d.rounded + count_of g.number }
noted d (SetClosed set) = record d { members = []; sets = d.sets ++ record { set = set; members = d.members } ∷ [] }
noted d (ParamClosed param) = record d { default = None; values = []; params = d.params ++ record { param = param; default = d.default; values = d.values } ∷ [] }

-- the blocks so far
abbrev pub drafted : Draft → Blocks
drafted d = record { sets = d.sets; params = d.params; rounded = d.rounded }

-- the machine: what is open, and what was read
pub record Reader : Type 0 where
  pub open_part : Open
  pub draft : Draft
