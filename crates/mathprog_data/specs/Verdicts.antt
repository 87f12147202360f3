-- What a text says, or which fault it has (the data section of GNU MathProg).
use Rattle.std.specs.Prelude.{ℕ, List}
use Rattle.mathprog_data.specs.declared.blocks.Mark.{Mark}
use Rattle.mathprog_data.specs.Faults.{end_too_soon}
use Rattle.mathprog_data.specs.Lexemes.{Placed}
use Rattle.mathprog_data.specs.Lexing.{LexingEnd, Fails, Lexes, Tokens}
use Rattle.mathprog_data.specs.Meaning.{Blocks, Means}
use Rattle.mathprog_data.specs.Places.{place_after}
use Rattle.mathprog_data.specs.StatementFaults.{IsGood, FaultIn, EndsTooSoon}

-- the text is tokens that mean these blocks
pub record Says (text : List ℕ) (blocks : Blocks) : Type 0 where
  pub placed : List Placed
  pub tokens : Tokens text placed
  pub means : Means placed blocks

-- the text has this fault at this place
pub data FaultAt (text : List ℕ) : ℕ → Mark → Type 0 where
  -- the first token with which the tokens stop being good carries it; all of them stand before the first lexical fault
  at_token : {number : ℕ} {at : Mark} (placed : List Placed) (end : LexingEnd)
      → Lexes text placed end → FaultIn placed number at
      → FaultAt text number at
  -- it is the first lexical fault, and the tokens before it are good
  lexical : {number : ℕ} {at : Mark} (placed : List Placed)
      → Lexes text placed (Fails number at) → IsGood placed
      → FaultAt text number at
  -- there is no lexical fault, and the tokens are good but mean nothing: it stands one place after the last byte
  too_soon : (placed : List Placed)
      → Tokens text placed → EndsTooSoon placed
      → FaultAt text end_too_soon (place_after text)
