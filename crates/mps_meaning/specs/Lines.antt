-- The lines of a text, and the fields of a line (free MPS: fields are separated by blanks).
use Rattle.std.specs.Prelude.{ℕ, Bool, true, false, ◌||◌, not, ◌==◌, List, [], ◌∷◌, if◌then◌else◌}
use Rattle.std.specs.List.{list_all}

-- a name or another field, by its bytes
abbrev pub Name : Type 0
Name = List ℕ

-- the byte is a line feed
abbrev pub ends_line : ℕ → Bool
ends_line byte = byte == 10

-- no line ends in the text
abbrev pub is_one_line : List ℕ → Bool
is_one_line text = list_all (λ byte. not (ends_line byte)) text

-- the byte is a space or a tab
abbrev pub is_blank : ℕ → Bool
is_blank byte = byte == 32 || byte == 9

-- the pieces, with the byte before all of the first one
abbrev pub onto_first : ℕ → List (List ℕ) → List (List ℕ)
onto_first byte [] = (byte ∷ []) ∷ []
onto_first byte (piece ∷ pieces) = (byte ∷ piece) ∷ pieces

-- the lines of a text that begins with this byte, from the lines of its rest
abbrev pub with_byte : ℕ → List (List ℕ) → List (List ℕ)
with_byte byte rest = if ends_line byte then [] ∷ rest else onto_first byte rest

-- the lines of a text, without their line feeds
abbrev pub lines : List ℕ → List (List ℕ)
lines [] = []
lines (byte ∷ bytes) = with_byte byte (lines bytes)

-- no field goes on here: the line ends, or a blank follows
abbrev pub ends_field : List ℕ → Bool
ends_field [] = true
ends_field (byte ∷ bytes) = is_blank byte

-- the fields of a line that begins with this byte, from what follows it and the fields of its rest
abbrev pub with_field : ℕ → Bool → List Name → List Name
with_field byte ends rest = if is_blank byte then rest else if ends then (byte ∷ []) ∷ rest else onto_first byte rest

-- the fields of a line: its longest pieces without blanks
abbrev pub fields : List ℕ → List Name
fields [] = []
fields (byte ∷ bytes) = with_field byte (ends_field bytes) (fields bytes)

-- the line begins with '*': it is a comment
abbrev pub is_comment : List ℕ → Bool
is_comment [] = false
is_comment (byte ∷ bytes) = byte == 42

-- the line begins with a blank
abbrev pub is_indented : List ℕ → Bool
is_indented [] = false
is_indented (byte ∷ bytes) = is_blank byte
