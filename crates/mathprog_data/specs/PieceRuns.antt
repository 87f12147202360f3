-- What becomes of a text from a state in the middle of it on, where only a piece of it is at hand. Private functions alone cite it.
use Rattle.std.specs.Prelude.{◌≡◌, ℕ, ◌+◌, ◌<◌, List, length, slice_range, Option, None, Some, IfSome}
use Rattle.mathprog_data.specs.declared.lexer.Seen.{Seen}
use Rattle.mathprog_data.specs.declared.lexer.Seen.TheVariants.{Token}
use Rattle.mathprog_data.specs.declared.span_reader.TextPiece.{TextPiece}
use Rattle.mathprog_data.specs.declared.token_reader.TokenReader.{TokenReader}
use Rattle.mathprog_data.specs.LexingRuns.{Run, lexed_run}
use Rattle.mathprog_data.specs.MachineViews.{reader_view}
use Rattle.mathprog_data.specs.ReadingRuns.{Outcome, outcome_from}

-- what is made of the text where the reader takes what is seen of the rest
abbrev pub outcome_after : List ℕ → TokenReader → Run → Outcome
outcome_after text reader seen = outcome_from text (reader_view reader.statements) (lexed_run text reader.closing seen)

-- this holds of the place where a token begins, if there is one and it begins before `start`
abbrev pub IfEarlier : (start : ℕ) → (ℕ → Type 0) → Option ℕ → Type 0
IfEarlier start P began = IfSome began (λ from. from < start → P from)

-- where the token begins that is seen
abbrev pub seen_from : Seen → Option ℕ
seen_from (Token span) = Some span.from
seen_from _ = None

-- of a token that begins before `start` so many bytes are kept as stand from there up to `start`
abbrev pub IsKept : (start : ℕ) → (kept : List ℕ) → (began : Option ℕ) → Type 0
IsKept start kept began = IfEarlier start (λ from. from + length kept ≡ start) began

-- of a token that begins before `start` the bytes of the text from there up to `start` are kept
abbrev pub AreKept : (text : List ℕ) → (start : ℕ) → (kept : List ℕ) → (began : Option ℕ) → Type 0
AreKept text start kept began = IfEarlier start (λ from. slice_range text from start ≡ kept) began

-- the piece is one of the text, and with the bytes that are kept it shows a token that begins there
abbrev pub IsShown : (text : List ℕ) → TextPiece → (kept : List ℕ) → (began : Option ℕ) → Type 0
IsShown text piece kept began =
    (slice_range text piece.start (piece.start + length piece.bytes.now) ≡ piece.bytes.now) × AreKept text piece.start kept began
