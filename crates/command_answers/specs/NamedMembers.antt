-- Words that name members of a set, byte by byte.
use Rattle.std.specs.Prelude.{◌≡◌, ℕ, ◌<◌, List, length, None, Some}
use Rattle.model_sets.specs.Members.{SetLists, index_of, members}
use Rattle.command_answers.specs.declared.status.Status.{Status}
use Rattle.command_answers.specs.declared.status.Status.TheVariants.{Refused}
use Rattle.command_answers.specs.declared.status.Refusal.TheVariants.{NoSuch}
use Rattle.command_answers.specs.RefusalLines.{no_such_line}

-- the word is the name of the member at this position of the set
pub record IsMemberAt (sets : SetLists) (set : ℕ) (word : List ℕ) (position : ℕ) : Type 0 where
  pub found : index_of (members sets set) word ≡ Some position
  pub within : position < length (members sets set)

-- the word is the name of no member of the set, and the status and the line say of which set
pub record IsNoMember (sets : SetLists) (set : ℕ) (word : List ℕ) (status : Status) (line : List ℕ) : Type 0 where
  pub missing : index_of (members sets set) word ≡ None
  pub status_is : status ≡ Refused (NoSuch set)
  pub line_is : line ≡ no_such_line set
