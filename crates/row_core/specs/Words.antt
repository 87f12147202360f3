-- What the words of kinds and equations keep, so that a name can be read back.
use Rattle.std.specs.Prelude.{ℕ, Bool, List, not, codes, nat_eq, IsTrue}
use Rattle.std.specs.List.{list_all, list_any}

-- the byte is a bracket or comma, which stand round the members in a name
abbrev pub is_mark : ℕ → Bool
is_mark byte = list_any (nat_eq byte) (codes "[,]")

-- the word has no bracket and no comma
abbrev pub is_plain : List ℕ → Bool
is_plain word = list_all (λ byte. not (is_mark byte)) word

-- no byte of the word is a bracket or a comma
abbrev pub IsPlain : List ℕ → Type 0
IsPlain word = IsTrue (is_plain word)
