-- The tokens of a text as slices of it.
use Rattle.std.specs.Prelude.{◌≡◌, ℕ, ◌<◌, ◌≤◌, List, [], ◌∷◌, map, slice_range, ⊤}
use Rattle.mathprog_data.specs.declared.blocks.Mark.{Mark}
use Rattle.mathprog_data.specs.declared.fault.ReadFail.{ReadFail}
use Rattle.mathprog_data.specs.declared.fault.ReadFail.TheVariants as fails
use Rattle.mathprog_data.specs.declared.token.Token.{Token}
use Rattle.mathprog_data.specs.Lexemes.{Lexeme, Sign, Bare, Quoted, Placed}
use Rattle.mathprog_data.specs.Lexing.{Fails, Lexes}

-- a token without where its bytes lie in memory
pub record Slice : Type 0 where
  pub kind : ℕ
  pub bytes : List ℕ
  pub from : ℕ
  pub to : ℕ

abbrev pub slice_of : Token → Slice
slice_of token = record { kind = token.kind; bytes = token.text.now; from = token.from; to = token.to }

-- 1 for a sign, 2 for a bare symbol, 3 for a quoted symbol
abbrev pub kind_of : Lexeme → ℕ
kind_of (Sign sign) = 1
kind_of (Bare bytes) = 2
kind_of (Quoted bytes) = 3

-- the token's kind, the bytes of the text from its first up to the one after it, and where these two stand
abbrev pub slice_at : List ℕ → Placed → Slice
slice_at text token = record {
  kind = kind_of token.lexeme;
  bytes = slice_range text token.from token.to;
  from = token.from;
  to = token.to;
}

-- these are the tokens, as slices of the text
abbrev pub AreSlices : List ℕ → List Token → List Placed → Type 0
AreSlices text tokens placed = map slice_of tokens ≡ map (slice_at text) placed

-- each slice has bytes, begins where the one before it ends or after that, and ends within the text
abbrev pub AreApart : (from size : ℕ) → List Slice → Type 0
AreApart from size [] = from ≤ size
AreApart from size (slice ∷ slices) = (from ≤ slice.from) × (slice.from < slice.to) × AreApart slice.to size slices

-- it is the lexical fault of the text; running out of memory says nothing of the text
abbrev pub IsLexicalFault : List ℕ → ReadFail → Type 0
IsLexicalFault text (fails.Fault fault) = (placed : List Placed) × Lexes text placed (Fails fault.no fault.at)
IsLexicalFault text fails.Memory = ⊤

-- out of memory, and no fault
abbrev pub IsMemory : ReadFail → Type 0
IsMemory (fails.Fault fault) = ⊥
IsMemory fails.Memory = ⊤

-- this fault, or out of memory
abbrev pub IsFaultOrMemory : ℕ → Mark → ReadFail → Type 0
IsFaultOrMemory number at (fails.Fault fault) = fault ≡ record { no = number; at = at }
IsFaultOrMemory number at fails.Memory = ⊤
