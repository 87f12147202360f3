-- The machine that reads statements, over a list of tokens.
use Rattle.std.specs.Prelude.{ℕ, List, [], ◌∷◌, Result, Ok, Err}
use Rattle.mathprog_data.specs.declared.blocks.Mark.{Mark}
use Rattle.mathprog_data.specs.Lexemes.{Placed}
use Rattle.mathprog_data.specs.MachineStates.{Reader}
use Rattle.mathprog_data.specs.MachineSteps.{step}

-- where the machine stopped, and with which fault
pub record Stopped : Type 0 where
  pub number : ℕ
  pub at : Mark

-- what becomes of the machine after a token
abbrev pub after : (Reader → Result Reader Stopped) → Mark → Result Reader ℕ → Result Reader Stopped
after next at (Ok r) = next r
after next at (Err number) = Err (record { number = number; at = at })

-- the machine after these tokens
abbrev pub run : Reader → List Placed → Result Reader Stopped
run r [] = Ok r
run r (t ∷ ts) = after (λ next. run next ts) t.at (step r t.lexeme t.at)
