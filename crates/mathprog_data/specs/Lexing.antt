-- The tokens of a text, each with its place (GNU MathProg manual, "Model data"): the text is separators, comments and tokens in turn.
use Rattle.std.specs.Prelude.{◌≡◌, ℕ, ◌+◌, Bool, true, false, ◌||◌, ◌&&◌, List, [], ◌∷◌, ◌++◌, length, map, codes, ⊤, ◌⊎◌}
use Rattle.std.specs.List.{flat_map}
use Rattle.std.specs.Str.{bytes_eq}
use Rattle.mathprog_data.specs.declared.blocks.Mark.{Mark}
use Rattle.mathprog_data.specs.declared.lexeme.Sign.TheVariants.{Semicolon}
use Rattle.mathprog_data.specs.Faults.{bad_byte, open_string, open_comment}
use Rattle.mathprog_data.specs.Places.{place_after}
use Rattle.mathprog_data.specs.Lexemes.{Lexeme, Sign, Bare, Quoted, Placed}
use Rattle.mathprog_data.specs.LexingPieces.{Piece, SignToken, BareToken, QuotedToken, spelling, doubled, IsWhole, Flaw, StrayByte, BadInQuotes, OpenQuotes, OpenBlock, flawed, IsFlaw}

-- how a lexing ends: with the text, after the closing `end ;`, or at a lexical fault, with its number and place
pub data LexingEnd : Type 0 where
  TextEnds : LexingEnd
  Closes : LexingEnd
  Fails : (number : ℕ) → (at : Mark) → LexingEnd

-- the lexeme of a piece, if it is a token
abbrev pub lexemes_of : Piece → List Lexeme
lexemes_of (SignToken sign) = Sign sign ∷ []
lexemes_of (BareToken bytes) = Bare bytes ∷ []
lexemes_of (QuotedToken quote bytes) = Quoted bytes ∷ []
lexemes_of _ = []

-- the lexeme of a piece with its place, these bytes being before it
abbrev pub placed_at : (front : List ℕ) → Piece → List Placed
placed_at front piece =
    map (λ lexeme. record { lexeme = lexeme; from = length front; to = length front + length (spelling piece); at = place_after front })
    (lexemes_of piece)

-- the lexemes of pieces in turn, these bytes being before them
abbrev pub placed_after : (front : List ℕ) → List Piece → List Placed
placed_after front [] = []
placed_after front (piece ∷ pieces) = placed_at front piece ++ placed_after (front ++ spelling piece) pieces

-- the lexemes among pieces, in order
abbrev pub lexemes_in : List Piece → List Lexeme
lexemes_in pieces = flat_map lexemes_of pieces

-- the bytes of pieces in turn
abbrev pub spellings : List Piece → List ℕ
spellings pieces = flat_map spelling pieces

-- each piece is whole before the pieces after it and the rest
abbrev pub AreWhole : List Piece → (rest : List ℕ) → Type 0
AreWhole [] rest = ⊤
AreWhole (piece ∷ pieces) rest = IsWhole piece (spellings pieces ++ rest) × AreWhole pieces rest

-- `;`
abbrev pub is_semicolon : Lexeme → Bool
is_semicolon (Sign Semicolon) = true
is_semicolon _ = false

-- a bare `end`
abbrev pub is_end : Lexeme → Bool
is_end (Bare bytes) = bytes_eq bytes (codes "end")
is_end _ = false

-- somewhere `;`, a bare `end` and `;` stand in turn
abbrev pub closes_after : List Lexeme → Bool
closes_after (first ∷ second ∷ third ∷ more) =
    (is_semicolon first && is_end second && is_semicolon third) || closes_after (second ∷ third ∷ more)
closes_after _ = false

-- somewhere a closing `end ;` stands: a bare `end` that is the first lexeme or stands directly after `;`, and `;` directly after it
abbrev pub has_closing : List Lexeme → Bool
has_closing lexemes = closes_after (Sign Semicolon ∷ lexemes)

-- the number of a lexical fault
abbrev pub fault_of : Flaw → ℕ
fault_of (StrayByte byte rest) = bad_byte
fault_of (BadInQuotes quote before byte after rest) = bad_byte
fault_of (OpenQuotes quote bytes rest) = open_string
fault_of (OpenBlock bytes) = open_comment

-- what stands between the beginning of a flaw and the place at which it is answered: a byte that may not stand in a quoted
-- symbol is answered at its own place, all else at its first byte
abbrev pub bytes_passed : Flaw → List ℕ
bytes_passed (BadInQuotes quote before byte after rest) = quote ∷ doubled quote before
bytes_passed _ = []

-- the pieces end so before this rest of the text: at its end, with the `;` of the first closing `end ;`, or at a flaw; nothing
-- closes earlier
abbrev pub Ends : List Piece → (rest : List ℕ) → LexingEnd → Type 0
Ends pieces rest TextEnds = (has_closing (lexemes_in pieces) ≡ false) × (rest ≡ [])
Ends pieces rest Closes =
    (before : List Piece) × (pieces ≡ before ++ SignToken Semicolon ∷ [])
    × (has_closing (lexemes_in before) ≡ false) × (has_closing (lexemes_in pieces) ≡ true)
Ends pieces rest (Fails number at) =
    (flaw : Flaw) × IsFlaw flaw × (has_closing (lexemes_in pieces) ≡ false) × (rest ≡ flawed flaw)
    × (number ≡ fault_of flaw) × (at ≡ place_after (spellings pieces ++ bytes_passed flaw))

-- the text is pieces in turn up to this end, and these are the tokens among them with their places
pub record Lexes (text : List ℕ) (placed : List Placed) (end : LexingEnd) : Type 0 where
  pub pieces : List Piece
  pub rest : List ℕ
  pub parts : text ≡ spellings pieces ++ rest
  pub whole : AreWhole pieces rest
  pub tokens : placed ≡ placed_after [] pieces
  pub ends : Ends pieces rest end

-- the text, up to its closing `end ;` or its end, is gaps and tokens in turn, and these are the tokens
abbrev pub Tokens : List ℕ → List Placed → Type 0
Tokens text placed = Lexes text placed TextEnds ⊎ Lexes text placed Closes
