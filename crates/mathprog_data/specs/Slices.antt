-- Slices: which subscripts of a parameter are fixed, and which are free (the data section of GNU MathProg).
use Rattle.std.specs.Prelude.{ℕ, zero, suc, List, [], ◌∷◌, Option, Some, None, replicate}
use Rattle.mathprog_data.specs.declared.lexeme.Sign.TheVariants as signs
use Rattle.mathprog_data.specs.Lexemes.{Placed}
use Rattle.mathprog_data.specs.Symbols.{Name, IsSign, IsSymbol}

-- a place for each subscript: the name that fixes it, or none where it is free
abbrev pub Slice : Type 0
Slice = List (Option Name)

-- all of these many subscripts are free
abbrev pub all_free : ℕ → Slice
all_free count = replicate count None

-- how many subscripts are free
abbrev pub free_count : Slice → ℕ
free_count [] = 0
free_count (Some name ∷ places) = free_count places
free_count (None ∷ places) = suc (free_count places)

-- the full index: the fixed names in their places, and the others in the free places from the first on; there are as many of
-- these as free places (`Subscripts`, `Table`)
abbrev pub index_at : Slice → List Name → List Name
index_at [] names = []
index_at (Some name ∷ places) names = name ∷ index_at places names
index_at (None ∷ places) [] = []
index_at (None ∷ places) (name ∷ names) = name ∷ index_at places names

-- a place of a slice: '*' leaves it free, a SYMBOL fixes it
pub data IsPlace : Placed → Option Name → Type 0 where
  star : {t : Placed} → IsSign signs.Star t → IsPlace t None
  symbol : {t : Placed} {name : Name} → IsSymbol t name → IsPlace t (Some name)

-- these many places with commas between them, and the closing bracket
pub data Places : (count : ℕ) → List Placed → List Placed → Slice → Type 0 where
  -- place ']'
  last : {t u : Placed} {rest : List Placed} {place : Option Name}
      → IsPlace t place → IsSign signs.CloseBracket u
      → Places (suc zero) (t ∷ u ∷ rest) rest (place ∷ [])
  -- place ',' places
  more : {count : ℕ} {t u : Placed} {ts rest : List Placed} {place : Option Name} {places : Slice}
      → IsPlace t place → IsSign signs.Comma u → Places count ts rest places
      → Places (suc count) (t ∷ u ∷ ts) rest (place ∷ places)
