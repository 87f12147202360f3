-- What a call of the program comes to, of the words, what is seen of the shelf and of the sink before and after, and the status.
use Rattle.std.specs.Prelude.{◌≡◌, ℕ, ◌≤◌, List}
use Rattle.io_edges.specs.Count.{Rose}
use Rattle.io_edges.specs.Told.{WhereTold}
use Rattle.command_answers.specs.declared.status.ReadStop.{ReadStop}
use Rattle.command_answers.specs.declared.status.Status.{Status}
use Rattle.osemosys_run.specs.Causes.{Caused}
use Rattle.osemosys_run.specs.Complete.{Completes}
use Rattle.osemosys_run.specs.Due.{AskForEquations, Due}
use Rattle.request_files.specs.Sights.{Sight}
use Rattle.osemosys_run.specs.ReadToEnd.{IsReadToEnd, ReadsWhole}
use Rattle.osemosys_run.specs.Sending.{Delivers, Sent}

-- Each field is the clause of `osemosys` that has its name.
pub record IsRun (words : List (List ℕ)) (before after : Sight) (status : Status) (sink_before sink_after : Sent) : Type 0 where
  pub due : WhereTold before.files (λ files. ¬ Rose before.faults after.faults → Delivers (AskForEquations words) (Due words files) status sink_before sink_after)
  pub caused : Delivers (AskForEquations words) (Caused words before after) status sink_before sink_after
  pub read_whole : WhereTold before.files (λ files. ¬ Rose before.faults after.faults → ReadsWhole words files status before after)
  pub complete : WhereTold before.files (λ files. ¬ Rose before.faults after.faults → ¬ Rose sink_before.faults sink_after.faults → Completes words files status)
  pub read_to_end : IsReadToEnd words before after status
  pub failed_read : (file : ℕ) → status ≡ Status.ReadFault (ReadStop.Failed file) → Rose before.faults after.faults
  pub failed_write : status ≡ Status.WriteFault → Rose sink_before.faults sink_after.faults
  pub files : after.files ≡ before.files
  pub read_faults : before.faults ≤ after.faults
  pub write_faults : sink_before.faults ≤ sink_after.faults
