-- Which fault a list of tokens has: the first token that no data section could have there, and its number.
use Rattle.std.specs.Prelude.{◌≡◌, ℕ, ◌⊎◌, List, [], ◌∷◌, ◌++◌, codes, Some, None}
use Rattle.mathprog_data.specs.declared.blocks.Mark.{Mark}
use Rattle.mathprog_data.specs.declared.lexeme.Sign.TheVariants as signs
use Rattle.mathprog_data.specs.Faults.{unexpected, unknown_name, given_twice, wrong_slice, row_too_short, bad_number, tabbing}
use Rattle.mathprog_data.specs.Lexemes.{Lexeme, Sign, Bare, Placed}
use Rattle.mathprog_data.specs.Meaning.{Blocks, IsLoose, NoNameTwice, Means}
use Rattle.model_sets.specs.Names.{set_number}
use Rattle.model_sets.specs.Params.{param_number, subscript_count}
use Rattle.mathprog_data.specs.Statements.{Statement}
use Rattle.mathprog_data.specs.Symbols.{Name, IsSign, IsKeyword, IsSymbol}
use Rattle.mathprog_data.specs.Tables.{EndsTable}

-- the list begins one that is loose
pub record BeginsLoose (ts : List Placed) : Type 0 where
  pub more : List Placed
  pub statements : List Statement
  pub loose : IsLoose (ts ++ more) statements

-- the list is good: it begins one that is loose, and no name in it begins a second statement
pub record IsGood (ts : List Placed) : Type 0 where
  pub begins : BeginsLoose ts
  pub names : NoNameTwice ts

-- this lexeme could stand after these tokens, at the place of t
abbrev pub CouldStand : List Placed → Placed → Lexeme → Type 0
CouldStand front t lexeme = BeginsLoose (front ++ record t { lexeme = lexeme } ∷ [])

-- nothing, or tokens through a semicolon
pub data IsClosed : List Placed → Type 0 where
  nothing : IsClosed []
  semicolon : (t : Placed) (ts : List Placed) → IsSign signs.Semicolon t → IsClosed (ts ++ t ∷ [])

-- no token is a semicolon
abbrev pub HasNoSemicolon : List Placed → Type 0
HasNoSemicolon [] = Unit {0}
HasNoSemicolon (t ∷ ts) = (IsSign signs.Semicolon t → ⊥) × HasNoSemicolon ts

-- what stands after the last semicolon begins with `param` and the name of a parameter without subscripts
pub record LacksSubscripts (front : List Placed) : Type 0 where
  pub before : List Placed
  pub word : Placed
  pub symbol : Placed
  pub after : List Placed
  pub name : Name
  pub param : ℕ
  pub parts : front ≡ before ++ word ∷ symbol ∷ after
  pub closed : IsClosed before
  pub open_still : HasNoSemicolon after
  pub begins : IsKeyword (codes "param") word
  pub names : IsSymbol symbol name
  pub numbered : param_number name ≡ Some param
  pub none : subscript_count param ≡ 0

-- a name of neither list, where that of a set or that of a parameter could stand
pub data IsUnknownName (front : List Placed) (t : Placed) : Type 0 where
  -- set YEARS          column 5: the name
  unknown : (name : Name) → IsSymbol t name → set_number name ≡ None → param_number name ≡ None
      → CouldStand front t (Bare (codes "REGION")) ⊎ CouldStand front t (Bare (codes "YearSplit"))
      → IsUnknownName front t

-- a slice or a table that doesn't fit its parameter
pub data IsWrongSlice (front : List Placed) (t : Placed) : Type 0 where
  -- a comma after the last due place of a slice
  -- param CapitalCost [R,T,2020,          column 28: the third comma
  place_too_many : IsSign signs.Comma t → CouldStand front t (Sign signs.CloseBracket) → IsWrongSlice front t
  -- a closing bracket where a place is due
  -- param CapitalCost [R, ]               column 23: the bracket
  place_due : IsSign signs.CloseBracket t → CouldStand front t (Sign signs.Star) → IsWrongSlice front t
  -- a closing bracket where a comma and a place are due
  -- param CapitalCost := [R,T]            column 26: the bracket
  more_places_due : IsSign signs.CloseBracket t
      → BeginsLoose (front ++ record t { lexeme = Sign signs.Comma } ∷ record t { lexeme = Sign signs.Star } ∷ [])
      → IsWrongSlice front t
  -- an opening bracket where a record could begin, for a parameter without subscripts
  -- param ResultsPath := [                column 22: the bracket
  no_places : IsSign signs.OpenBracket t → LacksSubscripts front → CouldStand front t (Sign signs.Gives) → IsWrongSlice front t
  -- the beginning of a table where a slice could begin
  -- param CapitalCost : 2020 := T 5;      column 19: the colon
  -- param CapitalCost (tr) :              column 19: the parenthesis
  no_table : IsSign signs.Colon t ⊎ IsSign signs.OpenParen t → CouldStand front t (Sign signs.OpenBracket) → IsWrongSlice front t
  -- the beginning of a table where a record could begin, for a parameter without subscripts
  -- param ResultsPath :                   column 19: the colon
  no_free_places : IsSign signs.Colon t ⊎ IsSign signs.OpenParen t → LacksSubscripts front → CouldStand front t (Sign signs.Gives)
      → IsWrongSlice front t

-- what ends a table stands where a value of a row is due: `.` could stand there, and `x`, which is no number, couldn't
pub data IsRowTooShort (front : List Placed) (t : Placed) : Type 0 where
  -- param OperationalLife : T U := R 1;   column 35: the semicolon, where the value for U is due
  short : EndsTable (t ∷ []) → CouldStand front t (Bare (codes ".")) → (CouldStand front t (Bare (codes "x")) → ⊥) → IsRowTooShort front t

-- a symbol stands where a number could
pub data IsBadNumber (front : List Placed) (t : Placed) : Type 0 where
  -- param CapitalCost R T 2020 '5';       column 28: the quoted symbol
  bad : (name : Name) → IsSymbol t name → CouldStand front t (Bare (codes "0")) → IsBadNumber front t

-- a symbol or `:` stands where `:=` is due: no symbol could stand there, not even `0`
pub data IsTabbing (front : List Placed) (t : Placed) : Type 0 where
  -- param : CapitalCost FixedCost := R    column 21: the second name
  symbol : (name : Name) → IsSymbol t name → CouldStand front t (Sign signs.Gives) → (CouldStand front t (Bare (codes "0")) → ⊥)
      → IsTabbing front t
  -- param : CapitalCost : := ;            column 21: the second colon
  colon : IsSign signs.Colon t → CouldStand front t (Sign signs.Gives) → (CouldStand front t (Bare (codes "0")) → ⊥) → IsTabbing front t

-- the token can't stand after these tokens, names aside
abbrev pub IsRefused : List Placed → Placed → Type 0
IsRefused front t = BeginsLoose (front ++ t ∷ []) → ⊥

-- the number of the fault that a token carries after a good list
pub data Carries (front : List Placed) (t : Placed) : ℕ → Type 0 where
  -- but for the names it could stand there: it is the name of a second statement
  -- set YEAR; set YEAR                    column 15: the second name
  a_second_statement : BeginsLoose (front ++ t ∷ []) → (NoNameTwice (front ++ t ∷ []) → ⊥) → Carries front t given_twice
  -- one of the kinds above
  an_unknown_name : IsRefused front t → IsUnknownName front t → Carries front t unknown_name
  a_wrong_slice : IsRefused front t → IsWrongSlice front t → Carries front t wrong_slice
  a_short_row : IsRefused front t → IsRowTooShort front t → Carries front t row_too_short
  a_bad_number : IsRefused front t → IsBadNumber front t → Carries front t bad_number
  a_second_name : IsRefused front t → IsTabbing front t → Carries front t tabbing
  -- none of them
  -- set := a                              column 5: the `:=`
  no_other : IsRefused front t → (IsUnknownName front t → ⊥) → (IsWrongSlice front t → ⊥) → (IsRowTooShort front t → ⊥)
      → (IsBadNumber front t → ⊥) → (IsTabbing front t → ⊥)
      → Carries front t unexpected

-- the list has this fault at this mark: at the first token with which it stops being good
pub record FaultIn (ts : List Placed) (no : ℕ) (at : Mark) : Type 0 where
  pub front : List Placed
  pub token : Placed
  pub more : List Placed
  pub parts : ts ≡ front ++ token ∷ more
  pub good : IsGood front
  pub stops : IsGood (front ++ token ∷ []) → ⊥
  pub carries : Carries front token no
  pub at_is : at ≡ token.at

-- the list is good, but means nothing: more is to come
pub record EndsTooSoon (ts : List Placed) : Type 0 where
  pub good : IsGood ts
  pub means_nothing : (blocks : Blocks) → Means ts blocks → ⊥
