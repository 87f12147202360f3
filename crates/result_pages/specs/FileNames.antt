-- The name of a file without its folders.
use Rattle.std.specs.Prelude.{ℕ, Bool, List, [], ◌∷◌, ◌==◌, if◌then◌else◌}
use Rattle.std.specs.List.{list_any}

-- the byte is '/'
abbrev pub is_slash : ℕ → Bool
is_slash byte = byte == 47

-- what comes after the last '/', or the whole where there is none
abbrev pub last_segment : List ℕ → List ℕ
last_segment [] = []
last_segment (byte ∷ path) = if list_any is_slash (byte ∷ path) then last_segment path else byte ∷ path
