-- What the lexer sees of a whole text, and where that ends. Private functions alone cite it, as the machine itself.
use Rattle.std.specs.Prelude.{ℕ, ◌+◌, ◌-◌, Bool, false, List, [], ◌∷◌, Option, None, Some, if◌then◌else◌, slice_range}
use Rattle.mathprog_data.specs.declared.fault.DataFault.{DataFault}
use Rattle.mathprog_data.specs.declared.lexer.Kind.{Kind}
use Rattle.mathprog_data.specs.declared.lexer.Kind.TheVariants as kinds
use Rattle.mathprog_data.specs.declared.lexer.Span.{Span}
use Rattle.mathprog_data.specs.declared.lexer.Seen.{Seen}
use Rattle.mathprog_data.specs.declared.lexer.Seen.TheVariants.{Nothing, Token, Fault}
use Rattle.mathprog_data.specs.declared.closing.Closing.{Closing}
use Rattle.mathprog_data.specs.declared.closing.Closing.TheVariants.{Free, End, Inside}
use Rattle.mathprog_data.specs.Lexemes.{Lexeme, Sign, Bare, Quoted, Placed, undoubled}
use Rattle.mathprog_data.specs.Lexing.{LexingEnd, TextEnds, Closes, Fails, is_semicolon, is_end}
use Rattle.mathprog_data.specs.LexingMachine.{State, before, taken, ended, first}

-- the tokens that are seen, and the fault that ends them
pub record Run : Type 0 where
  pub spans : List Span
  pub fault : Option DataFault

-- this is seen, and then what comes of the rest
abbrev pub and_then : Seen → Run → Run
and_then Nothing run = run
and_then (Token span) run = record { spans = span ∷ run.spans; fault = run.fault }
and_then (Fault fault) run = record { spans = []; fault = Some fault }

-- no token and no fault
abbrev pub nothing_more : Run
nothing_more = record { spans = []; fault = None }

-- what is seen of these bytes, after which the text ends
unfoldable pub run : State → List ℕ → Run
run s [] = and_then (ended s s.pending) nothing_more
run s (byte ∷ bytes) =
    and_then (before s byte).seen
    (and_then (taken (before s byte).state byte).seen (run (taken (before s byte).state byte).state bytes))

-- the lexeme that stands at a span of the text
abbrev pub lexeme_at : List ℕ → Kind → ℕ → ℕ → Lexeme
lexeme_at text (kinds.Sign sign) from to = Sign sign
lexeme_at text kinds.Bare from to = Bare (slice_range text from to)
lexeme_at text (kinds.Quoted quote) from to = Quoted (undoubled quote false (slice_range text (from + 1) (to - 1)))

abbrev pub placed_of : List ℕ → Span → Placed
placed_of text span =
    record { lexeme = lexeme_at text span.kind span.from span.to; from = span.from; to = span.to; at = span.at }

-- the lexeme closes the text
abbrev pub closes : Closing → Lexeme → Bool
closes End lexeme = is_semicolon lexeme
closes _ lexeme = false

-- what is known of the closing after the lexeme
abbrev pub closing_after : Closing → Lexeme → Closing
closing_after Free lexeme = if is_semicolon lexeme then Free else if is_end lexeme then End else Inside
closing_after _ lexeme = if is_semicolon lexeme then Free else Inside

-- the tokens of a text with their places, and how they end
pub record Lexed : Type 0 where
  pub placed : List Placed
  pub end : LexingEnd

-- one more token, and then these
abbrev pub with_token : Placed → Lexed → Lexed
with_token token lexed = record { placed = token ∷ lexed.placed; end = lexed.end }

-- the tokens at these spans of the text up to the one that closes it, or up to this fault or the end
abbrev pub lexed_from : List ℕ → Closing → List Span → Option DataFault → Lexed
lexed_from text closing [] None = record { placed = []; end = TextEnds }
lexed_from text closing [] (Some fault) = record { placed = []; end = Fails fault.no fault.at }
lexed_from text closing (span ∷ spans) fault =
    if closes closing (placed_of text span).lexeme
    then record { placed = placed_of text span ∷ []; end = Closes }
    else with_token (placed_of text span) (lexed_from text (closing_after closing (placed_of text span).lexeme) spans fault)

-- the same of what was seen
abbrev pub lexed_run : List ℕ → Closing → Run → Lexed
lexed_run text closing seen = lexed_from text closing seen.spans seen.fault

-- the tokens of the whole text
abbrev pub lexed : List ℕ → Lexed
lexed text = lexed_run text Free (run first text)
