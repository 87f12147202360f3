-- What is answered where the rows of the named equations can't be made.
use Rattle.std.specs.Prelude.{◌≡◌, List, ℕ}
use Rattle.model_sets.specs.Members.{SetLists}
use Rattle.row_book.specs.declared.fail.BookFail.{BookFail}
use Rattle.row_book.specs.declared.fail.BookFail.TheVariants as fails
use Rattle.command_answers.specs.declared.status.Status.{Status}
use Rattle.command_answers.specs.declared.status.Status.TheVariants.{Refused, Uncertified}
use Rattle.command_answers.specs.declared.status.Refusal.TheVariants.{TooManyEntries}
use Rattle.simplex_core.specs.declared.stops.Stop.TheVariants.{Width}
use Rattle.command_answers.specs.Lines.{entries_line, uncertified_line}

-- the status and the line tell why; none tell that memory ran out
abbrev pub TellsFail : SetLists → BookFail → Status → List ℕ → Type 0
TellsFail sets (fails.Width place) status line = (status ≡ Uncertified (Width place)) × (line ≡ uncertified_line sets (Width place))
TellsFail sets fails.TooManyEntries status line = (status ≡ Refused TooManyEntries) × (line ≡ entries_line)
TellsFail sets fails.Memory status line = ⊥
