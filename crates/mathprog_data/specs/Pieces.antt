-- A text that comes in pieces: what a reader of pieces stands for.
use Rattle.std.specs.Prelude.{◌≡◌, ℕ, List, ◌++◌, length, ⊤}
use Rattle.mathprog_data.specs.declared.closing.Closing.{Closing}
use Rattle.mathprog_data.specs.LexingMachine.{State, token_from}
use Rattle.mathprog_data.specs.LexingRuns.{run, lexed_run}
use Rattle.mathprog_data.specs.MachineStates.{Reader}
use Rattle.mathprog_data.specs.PieceRuns.{AreKept}
use Rattle.mathprog_data.specs.Places.{place_after}
use Rattle.mathprog_data.specs.ReadingRuns.{Outcome, outcome_from, outcome_of}

-- what is known of the text from its bytes so far
pub data Standing : Type 0 where
  -- it goes on in this state: that of the lexer, what the tokens say of the closing `end ;`, that of the statements, and the bytes so
  -- far of the token that is open
  Going : State → Closing → Reader → (kept : List ℕ) → Standing
  -- this is made of it, whatever follows
  Settled : Outcome → Standing
  -- nothing any more, since memory ran out
  Failed : Standing

-- a reader of pieces: how many bytes it was fed, and what it knows
pub record PieceState : Type 0 where
  pub fed : ℕ
  pub standing : Standing

-- of this text it is known so: whatever bytes follow, the same is made of the whole text
abbrev pub IsKnownOf : Standing → List ℕ → Type 0
IsKnownOf (Going s closing r kept) text =
    (s.place ≡ length text) × (s.mark ≡ place_after text) × AreKept text (length text) kept (token_from s)
    × ((rest : List ℕ) → outcome_from (text ++ rest) r (lexed_run (text ++ rest) closing (run s rest)) ≡ outcome_of (text ++ rest))
IsKnownOf (Settled outcome) text = (rest : List ℕ) → outcome_of (text ++ rest) ≡ outcome
IsKnownOf Failed text = ⊤

-- the reader stands for the text
pub record StandsFor (reader : PieceState) (text : List ℕ) : Type 0 where
  pub size : reader.fed ≡ length text
  pub known : IsKnownOf reader.standing text

-- memory ran out
abbrev pub HasFailed : PieceState → Type 0
HasFailed reader = reader.standing ≡ Failed
