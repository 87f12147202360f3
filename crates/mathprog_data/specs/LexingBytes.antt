-- The bytes of a data section by kind (GNU MathProg manual, "Model data", in the profile of docs/DATA.md).
use Rattle.std.specs.Prelude.{ℕ, Bool, true, not, ◌||◌, ◌&&◌, ◌==◌, nat_le, List, [], ◌∷◌}
use Rattle.std.specs.Char.{is_ascii_alphanumeric}
use Rattle.mathprog_data.specs.Characters.{tab, line_feed, carriage_return, blank, double_quote, single_quote, open_paren, close_paren, star, plus, comma, minus, point, colon, semicolon, open_bracket, close_bracket, underscore, tilde}

-- a blank, a tab, a carriage return or a line feed
abbrev pub is_separator : ℕ → Bool
is_separator byte = byte == blank || byte == tab || byte == carriage_return || byte == line_feed

-- one of the signs of one byte: ';' ',' ':' '[' ']' '(' ')' '*'
abbrev pub is_sign_byte : ℕ → Bool
is_sign_byte byte =
    byte == semicolon || byte == comma || byte == colon || byte == open_bracket || byte == close_bracket
    || byte == open_paren || byte == close_paren || byte == star

-- a byte of bare symbols: an ASCII letter or digit, '+', '-', '.' or '_'
abbrev pub is_symbol_byte : ℕ → Bool
is_symbol_byte byte = is_ascii_alphanumeric byte || byte == plus || byte == minus || byte == point || byte == underscore

-- a quote: ' or "
abbrev pub is_quote : ℕ → Bool
is_quote byte = byte == single_quote || byte == double_quote

-- a byte that may stand in a quoted symbol: from the blank (32) to the tilde (126)
abbrev pub is_printable : ℕ → Bool
is_printable byte = nat_le blank byte && nat_le byte tilde

-- the text has no byte here, or one that fails the test
abbrev pub stops : (ℕ → Bool) → List ℕ → Bool
stops test [] = true
stops test (byte ∷ rest) = not (test byte)
