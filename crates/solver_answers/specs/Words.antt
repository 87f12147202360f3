-- The words of a line: its longest pieces without blanks.
use Rattle.std.specs.Prelude.{ℕ, Bool, true, false, ◌||◌, ◌==◌, List, [], ◌∷◌, filter}
use Rattle.std.specs.List.{slice_split}
use Rattle.std.specs.Str.{str_eq_ignore_ascii_case}

-- a word, by its bytes
abbrev pub Word : Type 0
Word = List ℕ

-- the byte is a space, a tab or a carriage return
abbrev pub is_blank : ℕ → Bool
is_blank byte = byte == 32 || (byte == 9 || byte == 13)

-- there is a byte in the piece
abbrev pub is_word : Word → Bool
is_word [] = false
is_word (byte ∷ bytes) = true

-- the words of a line
unfoldable pub words : List ℕ → List Word
words line = filter is_word (slice_split is_blank line)

-- the word is this text, without regard to case
abbrev pub says : Word → List ℕ → Bool
says word text = str_eq_ignore_ascii_case word text
