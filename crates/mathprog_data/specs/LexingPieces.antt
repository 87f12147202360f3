-- What a data section is made of: separators, comments and tokens (GNU MathProg manual, "Model data").
use Rattle.std.specs.Prelude.{◌≡◌, ◌≢◌, ℕ, Bool, true, false, not, ◌||◌, ◌&&◌, ◌==◌, List, [], ◌∷◌, ◌++◌, codes, if◌then◌else◌, ⊤}
use Rattle.std.specs.List.{list_all, flat_map}
use Rattle.mathprog_data.specs.declared.lexeme.Sign.{Sign}
use Rattle.mathprog_data.specs.declared.lexeme.Sign.TheVariants.{Semicolon, Comma, Colon, Gives, OpenBracket, CloseBracket, OpenParen, CloseParen, Star}
use Rattle.mathprog_data.specs.Characters.{hash, star, slash, equals}
use Rattle.mathprog_data.specs.Places.{is_line_feed}
use Rattle.mathprog_data.specs.LexingBytes.{is_separator, is_sign_byte, is_symbol_byte, is_quote, is_printable, stops}

-- a byte that separates, a comment with its text, or a token
pub data Piece : Type 0 where
  Separator : (byte : ℕ) → Piece
  -- '#' and these bytes
  LineComment : (bytes : List ℕ) → Piece
  -- '/*', these bytes and '*/'
  BlockComment : (bytes : List ℕ) → Piece
  SignToken : Sign → Piece
  BareToken : (bytes : List ℕ) → Piece
  -- between two such quotes the bytes that it names
  QuotedToken : (quote : ℕ) → (bytes : List ℕ) → Piece

-- the bytes of a sign
abbrev pub sign_bytes : Sign → List ℕ
sign_bytes Semicolon = codes ";"
sign_bytes Comma = codes ","
sign_bytes Colon = codes ":"
sign_bytes Gives = codes ":="
sign_bytes OpenBracket = codes "["
sign_bytes CloseBracket = codes "]"
sign_bytes OpenParen = codes "("
sign_bytes CloseParen = codes ")"
sign_bytes Star = codes "*"

-- the bytes as they stand between quotes: each quote among them twice
abbrev pub doubled : ℕ → List ℕ → List ℕ
doubled quote bytes = flat_map (λ byte. if byte == quote then byte ∷ byte ∷ [] else byte ∷ []) bytes

-- how a piece is written
abbrev pub spelling : Piece → List ℕ
spelling (Separator byte) = byte ∷ []
spelling (LineComment bytes) = codes "#" ++ bytes
spelling (BlockComment bytes) = codes "/*" ++ (bytes ++ codes "*/")
spelling (SignToken sign) = sign_bytes sign
spelling (BareToken bytes) = bytes
spelling (QuotedToken quote bytes) = quote ∷ (doubled quote bytes ++ quote ∷ [])

-- whether '*' stands directly before '/' somewhere
abbrev pub has_comment_end : List ℕ → Bool
has_comment_end [] = false
has_comment_end (byte ∷ rest) = (byte == star && not (stops (λ next. next == slash) rest)) || has_comment_end rest

-- no line feed is among the bytes
abbrev pub is_one_line : List ℕ → Bool
is_one_line bytes = list_all (λ byte. not (is_line_feed byte)) bytes

-- Before this rest the piece is whole: a comment that '#' began goes on to the end of its line, one that '/*' began
-- ends at the next '*/', ':' is not followed by '=', a bare symbol goes on as long as it can, and a quoted symbol is not
-- followed by its own quote.
abbrev pub IsWhole : Piece → (rest : List ℕ) → Type 0
IsWhole (Separator byte) rest = is_separator byte ≡ true
IsWhole (LineComment bytes) rest = (is_one_line bytes ≡ true) × (stops (λ next. not (is_line_feed next)) rest ≡ true)
IsWhole (BlockComment bytes) rest = has_comment_end (bytes ++ codes "*") ≡ false
IsWhole (SignToken Colon) rest = stops (λ next. next == equals) rest ≡ true
IsWhole (SignToken sign) rest = ⊤
IsWhole (BareToken bytes) rest = (bytes ≢ []) × (list_all is_symbol_byte bytes ≡ true) × (stops is_symbol_byte rest ≡ true)
IsWhole (QuotedToken quote bytes) rest =
    (is_quote quote ≡ true) × (list_all is_printable bytes ≡ true) × (stops (λ next. next == quote) rest ≡ true)

-- what stands where no piece does, each with the whole rest of the text
pub data Flaw : Type 0 where
  -- a byte with which no piece can begin
  StrayByte : (byte : ℕ) → (rest : List ℕ) → Flaw
  -- a quoted symbol that is closed, and its first byte that may not stand there, with the bytes before and after that
  BadInQuotes : (quote : ℕ) → (before : List ℕ) → (byte : ℕ) → (after : List ℕ) → (rest : List ℕ) → Flaw
  -- a quoted symbol with these bytes that isn't closed on its line
  OpenQuotes : (quote : ℕ) → (bytes : List ℕ) → (rest : List ℕ) → Flaw
  -- a comment that isn't closed, from after its '/*' on
  OpenBlock : (bytes : List ℕ) → Flaw

-- the text from the flaw on
abbrev pub flawed : Flaw → List ℕ
flawed (StrayByte byte rest) = byte ∷ rest
flawed (BadInQuotes quote before byte after rest) = quote ∷ (doubled quote (before ++ byte ∷ after) ++ quote ∷ rest)
flawed (OpenQuotes quote bytes rest) = quote ∷ (doubled quote bytes ++ rest)
flawed (OpenBlock bytes) = codes "/*" ++ bytes

-- whether a separator, a comment or a token can begin with the byte, before this rest
abbrev pub begins_piece : ℕ → (rest : List ℕ) → Bool
begins_piece byte rest =
    is_separator byte || is_sign_byte byte || is_symbol_byte byte || is_quote byte
    || byte == hash || (byte == slash && not (stops (λ next. next == star) rest))

-- the flaw is one
abbrev pub IsFlaw : Flaw → Type 0
IsFlaw (StrayByte byte rest) = begins_piece byte rest ≡ false
IsFlaw (BadInQuotes quote before byte after rest) =
    (is_quote quote ≡ true) × (list_all is_printable before ≡ true) × (is_printable byte ≡ false)
    × (is_one_line (byte ∷ after) ≡ true) × (stops (λ next. next == quote) rest ≡ true)
IsFlaw (OpenQuotes quote bytes rest) =
    (is_quote quote ≡ true) × (is_one_line bytes ≡ true) × (stops (λ next. not (is_line_feed next)) rest ≡ true)
IsFlaw (OpenBlock bytes) = has_comment_end bytes ≡ false
