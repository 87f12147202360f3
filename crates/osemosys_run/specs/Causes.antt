-- Why a status and a text came, over any shelf: what is due for the bytes that were moved, or where the reading stopped.
use Rattle.std.specs.Prelude.{◌≡◌, ◌⊎◌, ℕ, ◌+◌, List, Result, Ok}
use Rattle.command_answers.specs.declared.status.Status.{Status}
use Rattle.command_answers.specs.declared.status.Status.TheVariants.{Refused, ReadFault}
use Rattle.command_answers.specs.declared.status.Refusal.TheVariants as refusals
use Rattle.command_answers.specs.declared.status.ReadStop.TheVariants as stops
use Rattle.command_answers.specs.Lines.{stop_line, too_long_line}
use Rattle.command_words.specs.declared.fault.WordFault.{WordFault}
use Rattle.command_words.specs.Words.{Request, asked}
use Rattle.osemosys_run.specs.Due.{DueOverAsked, names_asked}
use Rattle.osemosys_run.specs.Replies.{CanBeSent, DueForReply, IsAsMade, IsForEquations, IsOwn}
use Rattle.osemosys_run.specs.declared.reply.Reply.{Reply}
use Rattle.request_files.specs.InTurn.{AreRead, StopsAt}
use Rattle.request_files.specs.Sights.{Sight}
use Rattle.request_files.specs.declared.whole.ReadEnd.{ReadEnd}
use Rattle.request_files.specs.declared.whole.ReadEnd.TheVariants.{NoFile, Failed, TooLong, Memory}

-- the status and the line tell this end at the file of this number; none tell that memory ran out
abbrev pub TellsEnd : ℕ → ReadEnd → Status → List ℕ → Type 0
TellsEnd number NoFile status line = (status ≡ ReadFault (stops.NoFile number)) × (line ≡ stop_line (stops.NoFile number))
TellsEnd number Failed status line = (status ≡ ReadFault (stops.Failed number)) × (line ≡ stop_line (stops.Failed number))
TellsEnd number TooLong status line = (status ≡ Refused (refusals.TooLong number)) × (line ≡ too_long_line number)
TellsEnd number Memory status line = ⊥

-- The files of a request were begun one after another and no others, each was read to its end before the next, and the status and the text are those that are due for their contents.
pub record IsAnswered (request : Result Request WordFault) (before after : Sight) (status : Status) (text : List ℕ) : Type 0 where
  pub contents : List (List ℕ)
  pub read : AreRead (names_asked request) contents before after
  pub due : DueOverAsked request contents status text
  pub own : IsOwn status

-- So were those before one of them, at which the reading stopped, for a cause outside or since it is too long; and the status and the text say where, with numbers from 1 on.
pub record IsStopped (request : Result Request WordFault) (before after : Sight) (status : Status) (text : List ℕ) : Type 0 where
  pub place : ℕ
  pub end : ReadEnd
  pub stops : StopsAt (names_asked request) place end before after
  pub told : TellsEnd (place + 1) end status text

abbrev pub CausedByRequest : Result Request WordFault → Sight → Sight → Status → List ℕ → Type 0
CausedByRequest request before after status text = IsAnswered request before after status text ⊎ IsStopped request before after status text

-- The cause that the status and the text of these words have.
abbrev pub Caused : List (List ℕ) → Sight → Sight → Status → List ℕ → Type 0
Caused words before after status text = CausedByRequest (asked words) before after status text

-- What comes of the reply has a cause. Only private functions cite this.
pub record IsReplyFor (request : Result Request WordFault) (before after : Sight) (reply : Reply) : Type 0 where
  pub caused : (status : Status) (text : List ℕ) → DueForReply reply status text → CausedByRequest request before after status text
  pub can_be_sent : CanBeSent reply
  pub as_made : IsAsMade reply → (asked_for : Request) × (request ≡ Ok asked_for) × IsForEquations asked_for
