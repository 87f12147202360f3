-- What the lexer sees of a text as slices. Private functions alone cite it.
use Rattle.std.specs.Prelude.{◌≡◌, ℕ, List, [], ◌++◌, map, ⊤}
use Rattle.mathprog_data.specs.declared.fault.DataFault.{DataFault}
use Rattle.mathprog_data.specs.declared.token.Token.{Token}
use Rattle.mathprog_data.specs.Lexing.{LexingEnd, TextEnds, Closes, Fails}
use Rattle.mathprog_data.specs.LexingRuns.{Lexed, lexed}
use Rattle.mathprog_data.specs.TokenSlices.{Slice, slice_of, slice_at}

-- the tokens of a text as slices, and how they end
pub record Slices : Type 0 where
  pub tokens : List Slice
  pub end : LexingEnd

abbrev pub slices_of : List ℕ → Lexed → Slices
slices_of text lexed = record { tokens = map (slice_at text) lexed.placed; end = lexed.end }

abbrev pub slices : List ℕ → Slices
slices text = slices_of text (lexed text)

-- these tokens, and then those
abbrev pub preceded_by : List Token → Slices → Slices
preceded_by tokens more = record { tokens = map slice_of tokens ++ more.tokens; end = more.end }

-- these tokens, of which the last closes the text
abbrev pub closed_with : List Token → Slices
closed_with tokens = record { tokens = map slice_of tokens; end = Closes }

-- a fault, and no token before it
abbrev pub failed_with : DataFault → Slices
failed_with fault = record { tokens = []; end = Fails fault.no fault.at }

-- it ends without a fault
abbrev pub IsDone : LexingEnd → Type 0
IsDone TextEnds = ⊤
IsDone Closes = ⊤
IsDone (Fails number at) = ⊥

-- these are all the tokens of the text, and it has no fault
abbrev pub ListsAll : List ℕ → List Token → Type 0
ListsAll text tokens = (map slice_of tokens ≡ (slices text).tokens) × IsDone (lexed text).end
