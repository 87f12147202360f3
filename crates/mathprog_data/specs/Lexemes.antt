-- Tokens by what they say: a sign, a bare symbol, or a quoted symbol (the data section of GNU MathProg).
use Rattle.std.specs.Prelude.{ℕ, Bool, true, false, ◌&&◌, ◌==◌, nat_lt, not, List, [], ◌∷◌, length, if◌then◌else◌}
use Rattle.std.specs.Str.{all_ascii_digits}
use Rattle.mathprog_data.specs.Characters.{zero_digit}
use Rattle.mathprog_data.specs.declared.blocks.Mark.{Mark}
use Rattle.mathprog_data.specs.declared.lexeme.Sign.{Sign as TheSign}
use Rattle.mathprog_data.specs.declared.lexeme.Lexeme.{Lexeme as SlicedLexeme}
use Rattle.mathprog_data.specs.declared.lexeme.Lexeme.TheVariants as sliced

-- a sign, a bare symbol with its bytes, or a quoted symbol with the bytes that it names, in which a doubled quote is one already
pub data Lexeme : Type 0 where
  Sign : TheSign → Lexeme
  Bare : List ℕ → Lexeme
  Quoted : List ℕ → Lexeme

-- a lexeme, the span of its bytes in the text, and the line and column of the first of them
pub record Placed : Type 0 where
  pub lexeme : Lexeme
  pub from : ℕ
  pub to : ℕ
  pub at : Mark

-- digits without leading zeros; one digit always stays
abbrev pub without_leading_zeros : List ℕ → List ℕ
without_leading_zeros [] = []
without_leading_zeros (c ∷ cs) = if (c == zero_digit) && nat_lt 0 (length cs) then without_leading_zeros cs else c ∷ cs

-- the name of a bare symbol: one of digits alone names the digits without leading zeros
abbrev pub bare_name : List ℕ → List ℕ
bare_name bytes = if all_ascii_digits bytes then without_leading_zeros bytes else bytes

-- the bytes between quotes with each doubled quote as one: of each pair of quotes the first is left out
abbrev pub undoubled : (quote : ℕ) → (second : Bool) → List ℕ → List ℕ
undoubled quote second [] = []
undoubled quote second (c ∷ cs) = if (c == quote) && not second then undoubled quote true cs else c ∷ undoubled quote false cs

-- what a symbol names; a sign names nothing
abbrev pub name_of : Lexeme → List ℕ
name_of (Sign s) = []
name_of (Bare bytes) = bare_name bytes
name_of (Quoted bytes) = bytes

-- a token's lexeme, without where its bytes lie in memory
abbrev pub lexeme_of : SlicedLexeme → Lexeme
lexeme_of (sliced.Sign s) = Sign s
lexeme_of (sliced.Bare bytes) = Bare bytes.now
lexeme_of (sliced.Quoted quote inner) = Quoted (undoubled quote false inner.now)
