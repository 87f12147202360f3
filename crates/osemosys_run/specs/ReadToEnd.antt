-- Each file that is asked for is read to its end before any answer on what a file says.
use Rattle.std.specs.Prelude.{◌≡◌, ◌≢◌, ℕ, ◌<◌, Contains, List, [], ◌⊎◌, Some, Result, Ok, ⊤}
use Rattle.io_edges.specs.Count.{Rose}
use Rattle.io_edges.specs.Edges.{Lacks}
use Rattle.command_answers.specs.declared.status.Status.{Status}
use Rattle.command_answers.specs.declared.status.Status.TheVariants.{Refused, Words, ReadFault, WriteFault, Memory}
use Rattle.command_answers.specs.declared.status.Refusal.TheVariants.{TooLong}
use Rattle.osemosys_run.specs.Complete.{AreThere}
use Rattle.osemosys_run.specs.Due.{names_asked}
use Rattle.request_files.specs.InTurn.{AreMoved}
use Rattle.request_files.specs.Reading.{HasNothingLeft}
use Rattle.request_files.specs.Sights.{Sight}
use Rattle.command_answers.specs.Accepted.{most_bytes}
use Rattle.command_words.specs.declared.fault.WordFault.{WordFault}
use Rattle.command_words.specs.Words.{Request, asked, names_of}

-- the words ask for a file
abbrev pub NamesFile : Result Request WordFault → Type 0
NamesFile request = names_asked request ≢ []

-- all files that are asked for were begun, each was read to its end before the next was begun, and nothing else was moved; nothing is left of the last one, where the rest is told
pub record HasReadAll (request : Result Request WordFault) (before after : Sight) : Type 0 where
  pub each : AreMoved (names_asked request) before.moved after.moved
  pub none_left : NamesFile request → HasNothingLeft before after

-- the shelf tells its files, none has the name of one that is asked for, and nothing is left to read
pub record IsOneMissing (request : Result Request WordFault) (before after : Sight) : Type 0 where
  pub name : List ℕ
  pub asked_for : Contains (names_asked request) name
  pub lacks : Lacks before.files name
  pub none_left : HasNothingLeft before after

-- where a write failed: all were read, or one is missing, or the shelf counted a fault, or too many bytes were taken of one
abbrev pub IsReadAtWriteFault : Result Request WordFault → Sight → Sight → Type 0
IsReadAtWriteFault request before after =
    HasReadAll request before after ⊎ IsOneMissing request before after ⊎ Rose before.faults after.faults ⊎ (most_bytes < after.taken)

-- an answer on what files say: none on the words, on a file that couldn't be read or on one that is too long
abbrev pub SpeaksOfFiles : Status → Type 0
SpeaksOfFiles (Refused (TooLong number)) = ⊥
SpeaksOfFiles (Words fault) = ⊥
SpeaksOfFiles (ReadFault stop) = ⊥
SpeaksOfFiles WriteFault = ⊥
SpeaksOfFiles Memory = ⊥
SpeaksOfFiles status = ⊤

-- All files that are asked for were read to their ends, over any shelf, at every answer on what files say; where memory ran out nothing is claimed.
pub record IsReadToEndFor (request : Result Request WordFault) (before after : Sight) (status : Status) : Type 0 where
  pub answered : SpeaksOfFiles status → HasReadAll request before after
  pub cut_off : status ≡ WriteFault → IsReadAtWriteFault request before after

abbrev pub IsReadToEnd : List (List ℕ) → Sight → Sight → Status → Type 0
IsReadToEnd words before after status = IsReadToEndFor (asked words) before after status

-- files that are there and aren't too long were read to their ends, unless memory ran out; over a shelf that tells its files and had no fault
abbrev pub ReadsWhole : List (List ℕ) → List (List ℕ × List ℕ) → Status → Sight → Sight → Type 0
ReadsWhole words files status before after = (request : Request) (contents : List (List ℕ)) → asked words ≡ Ok request → names_of request ≢ [] → AreThere files (names_of request) contents → status ≢ Memory
    → AreMoved (names_of request) before.moved after.moved × (after.rest ≡ Some [])
