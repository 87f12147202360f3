-- What is due over a data file with its changes, the same for every command but for what it says over accepted data.
use Rattle.std.specs.Prelude.{ℕ, List, ◌⊎◌}
use Rattle.model_sets.specs.Data.{Data}
use Rattle.command_answers.specs.declared.status.Status.{Status}
use Rattle.command_answers.specs.Accepted.{Accepted, Source}
use Rattle.command_answers.specs.NotAccepted.{DueWhereNotAccepted}

-- Over a data file with its changes: the first refusal, or what `Over` has of the number of its rounded numbers and over its data.
abbrev pub DueForText : (ℕ → Data → Status → List ℕ → Type 0) → Source → Status → List ℕ → Type 0
DueForText Over source status text = DueWhereNotAccepted source status text ⊎ ((d : Data) × (accepted : Accepted source d) × Over accepted.rounded d status text)
