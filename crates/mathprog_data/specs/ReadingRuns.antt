-- What the lexer and the reader of statements make of a text. Private functions alone cite it.
use Rattle.std.specs.Prelude.{ℕ, List, Result, Ok, Err, if◌then◌else◌}
use Rattle.mathprog_data.specs.declared.blocks.Mark.{Mark}
use Rattle.mathprog_data.specs.Faults.{end_too_soon}
use Rattle.mathprog_data.specs.Lexing.{LexingEnd, TextEnds, Closes, Fails}
use Rattle.mathprog_data.specs.LexingRuns.{Lexed, lexed}
use Rattle.mathprog_data.specs.MachineRuns.{Stopped, run}
use Rattle.mathprog_data.specs.MachineStates.{Reader, drafted}
use Rattle.mathprog_data.specs.MachineSteps.{may_end, beginning}
use Rattle.mathprog_data.specs.Meaning.{Blocks}
use Rattle.mathprog_data.specs.Places.{place_after}

-- what is made of a text: blocks, or a fault with its number and place
pub data Outcome : Type 0 where
  Reads : Blocks → Outcome
  Refuses : ℕ → Mark → Outcome

-- the text ends after these statements
abbrev pub at_text_end : List ℕ → Reader → Outcome
at_text_end text r = if may_end r.open_part then Reads (drafted r.draft) else Refuses end_too_soon (place_after text)

-- the lexing ends so, after what was made of its tokens
abbrev pub outcome_at : List ℕ → LexingEnd → Result Reader Stopped → Outcome
outcome_at text end (Err stopped) = Refuses stopped.number stopped.at
outcome_at text TextEnds (Ok r) = at_text_end text r
outcome_at text Closes (Ok r) = Reads (drafted r.draft)
outcome_at text (Fails number at) (Ok r) = Refuses number at

-- what is made of these tokens from a state on
abbrev pub outcome_from : List ℕ → Reader → Lexed → Outcome
outcome_from text r lexed = outcome_at text lexed.end (run r lexed.placed)

-- what is made of the text
abbrev pub outcome_of : List ℕ → Outcome
outcome_of text = outcome_from text beginning (lexed text)
