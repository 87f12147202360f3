-- The lexer as a function of its state, a byte at a time. Private functions alone cite it: that it computes the lexing of a
-- text as `Lexes` says it is proved (proofs/LexingLaws.antt).
use Rattle.std.specs.Prelude.{◌≡◌, ℕ, ◌+◌, Bool, true, false, not, ◌||◌, ◌==◌, Option, None, Some, IfSome, is_some, if◌then◌else◌, ◌<◌, ◌≤◌, ⊤}
use Rattle.mathprog_data.specs.declared.blocks.Mark.{Mark}
use Rattle.mathprog_data.specs.declared.lexeme.Sign.{Sign as TheSign}
use Rattle.mathprog_data.specs.declared.lexeme.Sign.TheVariants as signs
use Rattle.mathprog_data.specs.declared.lexer.Kind.{Kind}
use Rattle.mathprog_data.specs.declared.lexer.Kind.TheVariants.{Sign, Bare, Quoted}
use Rattle.mathprog_data.specs.declared.lexer.Seen.{Seen}
use Rattle.mathprog_data.specs.declared.lexer.Seen.TheVariants.{Nothing, Token, Fault}
use Rattle.mathprog_data.specs.declared.lexer.pending.Pending.{Pending}
use Rattle.mathprog_data.specs.declared.lexer.pending.Pending.TheVariants as pendings
use Rattle.mathprog_data.specs.Characters.{hash, open_paren, close_paren, star, comma, slash, colon, semicolon, equals, open_bracket, close_bracket}
use Rattle.mathprog_data.specs.Faults.{bad_byte, open_string, open_comment}
use Rattle.mathprog_data.specs.Places.{is_line_feed}
use Rattle.mathprog_data.specs.LexingBytes.{is_separator, is_symbol_byte, is_quote, is_printable}

-- what is pending, how many bytes were taken, the line and column of the next byte, how many bytes stand before what is pending, the
-- line and column of its first byte, and those of the first byte that may not stand in the open quoted symbol
pub record State : Type 0 where
  pub pending : Pending
  pub place : ℕ
  pub mark : Mark
  pub from : ℕ
  pub start : Mark
  pub bad : Option Mark

-- the sign of one byte, ':' left out
abbrev pub sign_of : ℕ → Option TheSign
sign_of byte =
    if byte == semicolon then Some signs.Semicolon else
    if byte == comma then Some signs.Comma else
    if byte == open_bracket then Some signs.OpenBracket else
    if byte == close_bracket then Some signs.CloseBracket else
    if byte == open_paren then Some signs.OpenParen else
    if byte == close_paren then Some signs.CloseParen else
    if byte == star then Some signs.Star else None

-- what is pending goes on with this byte
abbrev pub continues : Pending → ℕ → Bool
continues pendings.Gap byte = true
continues pendings.LineComment byte = not (is_line_feed byte)
continues pendings.Slash byte = byte == star
continues pendings.BlockComment byte = true
continues pendings.Star byte = true
continues pendings.Colon byte = byte == equals
continues pendings.Bare byte = is_symbol_byte byte
continues (pendings.Quoted quote) byte = true
continues (pendings.Quote quote) byte = byte == quote

-- what is pending after a byte of a comment
abbrev pub in_comment : ℕ → Pending
in_comment byte = if byte == star then pendings.Star else pendings.BlockComment

-- what is pending after a byte that ends nothing, begins nothing and makes nothing whole
abbrev pub quiet : Pending → ℕ → Option Pending
quiet pendings.Gap byte = if is_separator byte then Some pendings.Gap else None
quiet pendings.Bare byte = if is_symbol_byte byte then Some pendings.Bare else None
quiet pendings.LineComment byte = if is_line_feed byte then None else Some pendings.LineComment
quiet pendings.BlockComment byte = Some (in_comment byte)
quiet _ byte = None

-- the place after a byte at this place
abbrev pub next_mark : Mark → ℕ → Mark
next_mark mark byte =
    if is_line_feed byte then record { line = mark.line + 1; column = 1 } else record { line = mark.line; column = mark.column + 1 }

-- the byte is taken, and this is pending then
abbrev pub passed : State → ℕ → Pending → State
passed s byte pending = record s { pending = pending; place = s.place + 1; mark = next_mark s.mark byte }

-- so many bytes are taken of which none ends a line, with all of which what is pending goes on
abbrev pub symbols_passed : State → ℕ → State
symbols_passed s count = record s { place = s.place + count; mark = record { line = s.mark.line; column = s.mark.column + count } }

-- the byte is taken and is the first of what is pending then
abbrev pub begun : State → ℕ → Pending → State
begun s byte pending =
    record { pending = pending; place = s.place + 1; mark = next_mark s.mark byte; from = s.place; start = s.mark; bad = None }

-- the byte is taken inside quotes; the first that may not stand there is kept
abbrev pub quoted : State → ℕ → Pending → State
quoted s byte pending =
    record (passed s byte pending) { bad = if is_some s.bad || is_printable byte then s.bad else Some s.mark }

-- what has ended as a token of this kind
abbrev pub token_of : State → Kind → Seen
token_of s kind = Token (record { kind = kind; from = s.from; to = s.place; at = s.start })

-- a fault at the beginning of what is pending
abbrev pub fault_of : State → ℕ → Seen
fault_of s number = Fault (record { no = number; at = s.start })

-- a quoted symbol is closed, which has this for its first byte that may not stand there
abbrev pub closed : State → ℕ → Option Mark → Seen
closed s quote None = token_of s (Quoted quote)
closed s quote (Some at) = Fault (record { no = bad_byte; at = at })

-- what is pending ends here
abbrev pub ended : State → Pending → Seen
ended s pendings.Gap = Nothing
ended s pendings.LineComment = Nothing
ended s pendings.Slash = fault_of s bad_byte
ended s pendings.BlockComment = fault_of s open_comment
ended s pendings.Star = fault_of s open_comment
ended s pendings.Colon = token_of s (Sign signs.Colon)
ended s pendings.Bare = token_of s Bare
ended s (pendings.Quoted quote) = fault_of s open_string
ended s (pendings.Quote quote) = closed s quote s.bad

-- a state, and what was seen on the way to it
pub record Step : Type 0 where
  pub state : State
  pub seen : Seen

-- a state to which nothing was seen
abbrev pub silent : State → Step
silent s = record { state = s; seen = Nothing }

-- nothing is pending any more
abbrev pub settled : State → State
settled s = record s { pending = pendings.Gap }

-- what a byte ends, before it is taken
abbrev pub before : State → ℕ → Step
before s byte = if continues s.pending byte then silent s else record { state = settled s; seen = ended s s.pending }

-- a sign of one byte is taken, or a byte with which nothing begins
abbrev pub sign_taken : State → ℕ → Option TheSign → Step
sign_taken s byte None = record { state = passed s byte pendings.Gap; seen = Fault (record { no = bad_byte; at = s.mark }) }
sign_taken s byte (Some sign) =
    let next = begun s byte pendings.Gap in record { state = next; seen = token_of next (Sign sign) }

-- a byte is taken where nothing is pending
abbrev pub opened : State → ℕ → Step
opened s byte =
    if is_symbol_byte byte then silent (begun s byte pendings.Bare) else
    if is_separator byte then silent (passed s byte pendings.Gap) else
    if byte == colon then silent (begun s byte pendings.Colon) else
    if is_quote byte then silent (begun s byte (pendings.Quoted byte)) else
    if byte == hash then silent (begun s byte pendings.LineComment) else
    if byte == slash then silent (begun s byte pendings.Slash) else
    sign_taken s byte (sign_of byte)

-- a byte is taken inside quotes of this byte
abbrev pub quoted_taken : State → ℕ → ℕ → Step
quoted_taken s quote byte =
    if is_line_feed byte then record { state = passed s byte pendings.Gap; seen = fault_of s open_string } else
    if byte == quote then silent (passed s byte (pendings.Quote quote)) else
    silent (quoted s byte (pendings.Quoted quote))

-- what is pending after a byte that stands after '*' in a comment
abbrev pub after_star : ℕ → Pending
after_star byte = if byte == slash then pendings.Gap else in_comment byte

-- a byte is taken with which this goes on
abbrev pub taken_in : State → ℕ → Pending → Step
taken_in s byte pendings.Gap = opened s byte
taken_in s byte pendings.LineComment = silent (passed s byte pendings.LineComment)
taken_in s byte pendings.Slash = silent (passed s byte pendings.BlockComment)
taken_in s byte pendings.BlockComment = silent (passed s byte (in_comment byte))
taken_in s byte pendings.Star = silent (passed s byte (after_star byte))
taken_in s byte pendings.Colon =
    let next = passed s byte pendings.Gap in record { state = next; seen = token_of next (Sign signs.Gives) }
taken_in s byte pendings.Bare = silent (passed s byte pendings.Bare)
taken_in s byte (pendings.Quoted quote) = quoted_taken s quote byte
taken_in s byte (pendings.Quote quote) = silent (passed s byte (pendings.Quoted quote))

-- a byte is taken
abbrev pub taken : State → ℕ → Step
taken s byte = taken_in s byte s.pending

-- before the first byte
abbrev pub first : State
first = record {
  pending = pendings.Gap;
  place = 0;
  mark = record { line = 1; column = 1 };
  from = 0;
  start = record { line = 1; column = 1 };
  bad = None;
}

-- how many bytes at least stand before the next one since the first byte of what is pending
abbrev pub least_length : Pending → ℕ
least_length (pendings.Quoted quote) = 1
least_length (pendings.Quote quote) = 2
least_length _ = 0

-- how many bytes a token of this kind has at least
abbrev pub least_span : Kind → ℕ
least_span (Quoted quote) = 2
least_span _ = 0

-- a token that is seen ends after so many bytes at least and so many at most
abbrev pub IsWithin : (least most : ℕ) → Seen → Type 0
IsWithin least most (Token span) = (span.from + least_span span.kind ≤ span.to) × (least ≤ span.to) × (span.to ≤ most)
IsWithin least most _ = ⊤

-- a token is pending
abbrev pub is_token : Pending → Bool
is_token pendings.Colon = true
is_token pendings.Bare = true
is_token (pendings.Quoted quote) = true
is_token (pendings.Quote quote) = true
is_token _ = false

-- how many bytes stand before the token that is pending, if one is
abbrev pub token_from : State → Option ℕ
token_from s = if is_token s.pending then Some s.from else None

-- the token that is pending then, if one is, was pending before, or it begins here at the earliest
abbrev pub GoesOn : (s next : State) → Type 0
GoesOn s next = IfSome (token_from next) (λ from. from < s.place → token_from s ≡ Some from)
