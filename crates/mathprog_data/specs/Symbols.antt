-- What a token may be in a statement: a sign, a keyword, a symbol, or a number (the data section of GNU MathProg).
use Rattle.std.specs.Prelude.{◌≡◌, ℕ, ℤ, pos, Bool, true, false, List, [], ◌∷◌, Option, Some, None, Ok, nat_eq}
use Rattle.scaled_decimals.specs.DecimalReading.{Reads}
use Rattle.mathprog_data.specs.declared.lexeme.Sign.{Sign as TheSign}
use Rattle.mathprog_data.specs.declared.lexeme.Sign.TheVariants as signs
use Rattle.mathprog_data.specs.Lexemes.{Lexeme, Sign, Bare, Quoted, Placed, bare_name}
use Rattle.model_sets.specs.Params.{results_path}

-- the name of a member
abbrev pub Name : Type 0
Name = List ℕ

-- a number: its value in billionths, and whether that differs from the exact value
abbrev pub Number : Type 0
Number = ℤ × Bool

-- the token is this sign
abbrev pub IsSign : TheSign → Placed → Type 0
IsSign sign t = t.lexeme ≡ Sign sign

-- the token is this keyword: a bare symbol of these bytes, for a quoted symbol is no keyword
abbrev pub IsKeyword : List ℕ → Placed → Type 0
IsKeyword word t = t.lexeme ≡ Bare word

-- what a symbol names, where the lexeme is a symbol; a sign is none, nor is a quoted symbol without characters
abbrev pub symbol_name : Lexeme → Option Name
symbol_name (Sign s) = None
symbol_name (Bare bytes) = Some (bare_name bytes)
symbol_name (Quoted []) = None
symbol_name (Quoted (c ∷ cs)) = Some (c ∷ cs)

-- the token is a symbol of this name
abbrev pub IsSymbol : Placed → Name → Type 0
IsSymbol t name = symbol_name t.lexeme ≡ Some name

-- the token is this number: a bare symbol that reads as it, at most 10^15 in absolute value
abbrev pub IsNumberToken : Placed → Number → Type 0
IsNumberToken t number = (bytes : List ℕ) × (t.lexeme ≡ Bare bytes) × Reads bytes (Ok number)

-- the token is this value of the parameter
pub data IsValue : (param : ℕ) → Placed → Number → Type 0 where
  -- a number for every parameter but ResultsPath
  numeric : {param : ℕ} {t : Placed} {n : Number} → nat_eq param results_path ≡ false → IsNumberToken t n → IsValue param t n
  -- any symbol for ResultsPath, kept as 0 and never rounded
  any_symbol : {param : ℕ} {t : Placed}
      → (name : Name) → nat_eq param results_path ≡ true → IsSymbol t name
      → IsValue param t (pos 0, false)

-- [','], after which the second list of tokens follows
pub data Comma : List Placed → List Placed → Type 0 where
  none : {ts : List Placed} → Comma ts ts
  one : {t : Placed} {ts : List Placed} → IsSign signs.Comma t → Comma (t ∷ ts) ts
