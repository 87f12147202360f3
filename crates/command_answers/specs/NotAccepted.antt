-- What is due where a data file isn't accepted, or its changes: the first refusal, of the text, of its sets, of its data, or of the changes. It is the
-- same for every command.
use Rattle.std.specs.Prelude.{◌≡◌, ℕ, List, ◌⊎◌, Some, None, Result, Err}
use Rattle.data_changes.specs.Faults as rule
use Rattle.data_changes.specs.Told.{NamesIndex, fault_told}
use Rattle.data_changes.specs.declared.fault.ChangesFault.{ChangesFault}
use Rattle.mathprog_data.specs.declared.fault.DataFault.{DataFault}
use Rattle.mathprog_data.specs.Meaning.{Blocks}
use Rattle.mathprog_data.specs.Verdicts.{Says, FaultAt}
use Rattle.model_sets.specs.declared.fault.SetFault.{SetFault}
use Rattle.model_sets.specs.Members.{SetLists}
use Rattle.param_tables.specs.BlockData.{set_lists}
use Rattle.param_tables.specs.Built.{Built}
use Rattle.param_tables.specs.Refusals.{Refusal, first_refusal}
use Rattle.param_tables.specs.SetRefusals.{first_set_refusal}
use Rattle.param_tables.specs.Told.{NamesCell, refusal_told}
use Rattle.param_tables.specs.declared.fault.BuildFault.{BuildFault}
use Rattle.command_answers.specs.declared.status.Status.{Status}
use Rattle.command_answers.specs.declared.status.Status.TheVariants.{Refused}
use Rattle.command_answers.specs.declared.status.Refusal.TheVariants.{Text, Sets, Build, Changes}
use Rattle.command_answers.specs.Accepted.{SaysData, Source, built_of, changed_by}
use Rattle.command_answers.specs.RefusalLines.{changes_line, text_line, set_line, data_line}

-- the text has this fault first
pub record RefusesText (text : List ℕ) (status : Status) (line : List ℕ) : Type 0 where
  pub fault : DataFault
  pub first : FaultAt text fault.no fault.at
  pub status_is : status ≡ Refused (Text fault)
  pub line_is : line ≡ text_line fault.no fault.at

-- this is the first refusal of the blocks' sets
pub record RefusesSets (blocks : Blocks) (status : Status) (line : List ℕ) : Type 0 where
  pub fault : SetFault
  pub first : first_set_refusal blocks ≡ Some fault
  pub status_is : status ≡ Refused (Sets fault)
  pub line_is : line ≡ set_line fault

-- the sets aren't refused, and this is the first refusal of the data; where it names an index, that is one of the parameter's own
pub record RefusesData (blocks : Blocks) (status : Status) (line : List ℕ) : Type 0 where
  pub refusal : Refusal
  pub fault : BuildFault
  pub sets_accepted : first_set_refusal blocks ≡ None
  pub first : first_refusal blocks ≡ Some refusal
  pub told : refusal_told (set_lists blocks) fault ≡ refusal
  pub names : NamesCell (set_lists blocks) fault
  pub status_is : status ≡ Refused (Build fault)
  pub line_is : line ≡ data_line refusal

-- the blocks that a text says are refused
abbrev pub RefusesBlocks : Blocks → Status → List ℕ → Type 0
RefusesBlocks blocks status line = RefusesSets blocks status line ⊎ RefusesData blocks status line

-- the status and the line tell the first refusal of the text
abbrev pub RefusesFile : List ℕ → Status → List ℕ → Type 0
RefusesFile text status line = RefusesText text status line ⊎ ((blocks : Blocks) × Says text blocks × RefusesBlocks blocks status line)

-- changes come to this fault, and the status and the line tell it by the names of these sets; where it names an index, that is one of the parameter's own
pub record RefusesTold (outcome : Result Built rule.ChangesFault) (sets : SetLists) (status : Status) (line : List ℕ) : Type 0 where
  pub fault : ChangesFault
  pub first : outcome ≡ Err (fault_told sets fault)
  pub names : NamesIndex sets fault.fault
  pub status_is : status ≡ Refused (Changes fault)
  pub line_is : line ≡ changes_line (fault_told sets fault)

-- the text isn't refused, and its changes are
pub record RefusesChanges (source : Source) (status : Status) (line : List ℕ) : Type 0 where
  pub says : SaysData source.text
  pub refused : RefusesTold (changed_by source.changes (built_of says.blocks)) (set_lists says.blocks) status line

-- The status and the line tell the first refusal of the text, or that of the changes.
abbrev pub DueWhereNotAccepted : Source → Status → List ℕ → Type 0
DueWhereNotAccepted source status line = RefusesFile source.text status line ⊎ RefusesChanges source status line
