-- What was written of the text that is due.
use Rattle.std.specs.Prelude.{◌≡◌, ℕ, List, ◌⊎◌}
use Rattle.io_edges.specs.Count.{Rose}
use Rattle.io_edges.specs.Outputs.{Output, Took, TookPrefix, output}
use Rattle.io_edges.specs.declared.traits.Sink.{Ghosts}
use Rattle.command_answers.specs.declared.status.Status.{Status}
use Rattle.command_answers.specs.declared.status.Status.TheVariants.{Done, WriteFault, Memory}
use Rattle.osemosys_run.specs.Replies.{CanBeTold}

-- what is seen of a sink: what was written there, where it tells that, and what it took, which it always tells; and its count of faults
pub record Sent : Type 0 where
  pub output : Output
  pub faults : ℕ

-- of this sink
abbrev pub sent : {A : Type 0} → Ghosts A → A → Sent
sent told sink = record { output = output (told.written sink) (told.accepted sink); faults = told.faults sink }

-- the sink took the text that is due, and the status is the one that is due
pub record IsDelivered (Due : Status → List ℕ → Type 0) (status : Status) (before after : Sent) : Type 0 where
  pub text : List ℕ
  pub due : Due status text
  pub told : CanBeTold status
  pub took : Took before.output after.output text

-- a write failed, which the sink counted, and it took a prefix of a text that is due
pub record IsCutOff (Due : Status → List ℕ → Type 0) (status : Status) (before after : Sent) : Type 0 where
  pub status_is : status ≡ WriteFault
  pub rose : Rose before.faults after.faults
  pub said : Status
  pub text : List ℕ
  pub due : Due said text
  pub took : TookPrefix before.output after.output text

-- a text that is due with status 0 was begun, and a prefix of it was taken
pub record IsBegun (Due : Status → List ℕ → Type 0) (before after : Sent) : Type 0 where
  pub text : List ℕ
  pub due : Due Done text
  pub took : TookPrefix before.output after.output text

-- memory ran out, and the sink took nothing, or, where the text is written as it is made, a prefix of it
pub record IsLost (IsAsMade : Type 0) (Due : Status → List ℕ → Type 0) (status : Status) (before after : Sent) : Type 0 where
  pub status_is : status ≡ Memory
  pub left : (after.output ≡ before.output) ⊎ (IsAsMade × IsBegun Due before after)

-- what comes of what is due
abbrev pub Delivers : (IsAsMade : Type 0) → (Status → List ℕ → Type 0) → Status → Sent → Sent → Type 0
Delivers IsAsMade Due status before after = IsDelivered Due status before after ⊎ IsCutOff Due status before after ⊎ IsLost IsAsMade Due status before after
