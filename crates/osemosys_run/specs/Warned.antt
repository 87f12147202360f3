-- What `warn` says of a data file with accepted data, of which so many numbers are rounded: a line for each finding, and their number.
use Rattle.std.specs.Prelude.{◌≡◌, ℕ, List}
use Rattle.mathprog_data.specs.Meaning.{Blocks}
use Rattle.mathprog_data.specs.Verdicts.{Says}
use Rattle.model_sets.specs.Data.{Data}
use Rattle.param_tables.specs.Built.{AreComplete}
use Rattle.command_answers.specs.declared.status.Status.{Status}
use Rattle.command_answers.specs.declared.status.Status.TheVariants.{Done}
use Rattle.data_warnings.specs.Findings.{findings}
use Rattle.data_warnings.specs.Lines.{lines_text}
use Rattle.data_warnings.specs.StorageUsers.{storage_users}
use Rattle.data_warnings.specs.declared.places.Finding.{Finding}

-- what is found in the data
abbrev pub findings_over : ℕ → Data → List Finding
findings_over rounded d = findings (record { facts = d; rounded = rounded })

-- Of a data file that says these data: the text has the lines of what is found in the data, whose sets are by the rules, and whose values are in their ranges,
-- and of the technologies that the file links with storages.
pub record IsWarned (file : List ℕ) (rounded : ℕ) (d : Data) (status : Status) (text : List ℕ) : Type 0 where
  pub complete : AreComplete d
  pub blocks : Blocks
  pub says : Says file blocks
  pub status_is : status ≡ Done
  pub text_is : text ≡ lines_text d.sets (findings_over rounded d) (storage_users d.sets blocks)
