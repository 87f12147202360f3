-- What a data file and its proof come to, of the two of `compare`. Only private functions cite these.
use Rattle.std.specs.Prelude.{◌≢◌, ◌⊎◌, ℕ, List}
use Rattle.model_sets.specs.Data.{Data}
use Rattle.model_sets.specs.Members.{SetLists}
use Rattle.named_equations.specs.Existence.{all_variables}
use Rattle.named_equations.specs.Instances.{instances}
use Rattle.plan_files.specs.Files.{records_of}
use Rattle.proof_files.specs.Proofs.{IsProof}
use Rattle.command_answers.specs.Accepted.{Source, source_of}
use Rattle.command_answers.specs.MadeBooks.{HasNoRows}
use Rattle.command_answers.specs.MadeRows.{IsMadeFor}
use Rattle.command_answers.specs.ShownProofs.{HasWorth}
use Rattle.command_answers.specs.declared.proved.AcceptedProof.{AcceptedProof}
use Rattle.command_answers.specs.declared.status.Status.{Status}
use Rattle.command_answers.specs.declared.status.Status.TheVariants.{Done}
use Rattle.compare_command.specs.Compare.{DueOfCheck, IsJudged}
use Rattle.compare_command.specs.Compared.{AreTablesFor, IsOf, Judged, Written}
use Rattle.command_words.specs.declared.command.CompareShow.{CompareShow}
use Rattle.result_pages.specs.Pages.{title_of}
use Rattle.osemosys_run.specs.declared.compared.CompareAsked.{CompareAsked}
use Rattle.osemosys_run.specs.Compared.{CheckedBy}

-- `check` accepts the proof over the data: rows of them, the proof with what it is worth and what `check` says of it, and the tables of its page
pub record AcceptsOver (show : CompareShow) (places gap : ℕ) (d : Data) (proof_bytes : List ℕ) (accepted : AcceptedProof) (tables : List ℕ) : Type 0 where
  pub made : IsMadeFor places d (λ rows. CheckedBy places gap proof_bytes d rows Done accepted.said.items)
  pub told : IsProof d.sets (all_variables d) (instances d) (records_of proof_bytes) accepted.proof
  pub worth : HasWorth d made.rows accepted.proof accepted.worth
  pub tabled : AreTablesFor show places d made.rows accepted.proof tables

-- it doesn't, and answers so
pub record RefusesOver (places gap : ℕ) (d : Data) (proof_bytes : List ℕ) (status : Status) (text : List ℕ) : Type 0 where
  pub due : IsMadeFor places d (λ rows. CheckedBy places gap proof_bytes d rows status text) ⊎ HasNoRows places d status text
  pub not_done : status ≢ Done

-- over the data file with its changes it accepts a scenario, of which these are the sets and the proof
pub record IsKept (show : CompareShow) (places gap : ℕ) (source : Source) (proof_bytes : List ℕ) (sets : SetLists) (accepted : AcceptedProof) (tables : List ℕ) : Type 0 where
  pub judged : Judged
  pub is : IsJudged places (CheckedBy places gap proof_bytes) source proof_bytes judged
  pub of : IsOf judged sets accepted
  pub tabled : AreTablesFor show places judged.data_of judged.rows judged.proof tables

-- or it doesn't
pub record IsUnkept (places gap : ℕ) (source : Source) (proof_bytes : List ℕ) (status : Status) (text : List ℕ) : Type 0 where
  pub due : DueOfCheck places (CheckedBy places gap proof_bytes) source status text
  pub not_done : status ≢ Done

-- how a comparison is written that is asked for so
abbrev pub written_by : CompareAsked → Written
written_by asked = record { show = asked.show; places = asked.places; title = title_of asked.first; title2 = title_of asked.second }

-- the data files of the two, of these texts and with the changes that are asked for
abbrev pub first_source : List ℕ → CompareAsked → Source
first_source text asked = source_of text asked.first.changes

abbrev pub second_source : List ℕ → CompareAsked → Source
second_source text asked = source_of text asked.second.changes
