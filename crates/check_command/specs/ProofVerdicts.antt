-- What the checks of a refutation, or of a plan and a direction, come to over the rows of the named equations.
use Rattle.std.specs.Prelude.{◌≡◌, ℕ, List, ⊤}
use Rattle.mps_writer.specs.MpsText.{line}
use Rattle.model_sets.specs.Members.{SetLists}
use Rattle.certificate_checker.specs.declared.verdicts.Verdict.{Verdict}
use Rattle.certificate_checker.specs.declared.verdicts.Verdict.TheVariants.{Yes, No, Width}
use Rattle.certificate_checker.specs.Conditions.{Condition, AllPass, FailsFor, IsWideAt}
use Rattle.certificate_checker.specs.Reasons.{reason_of}
use Rattle.command_answers.specs.declared.status.Status.{Status}
use Rattle.command_answers.specs.declared.status.Status.TheVariants.{Done, Uncertified, Rejected}
use Rattle.command_answers.specs.Lines.{uncertified_line}
use Rattle.command_answers.specs.PlacesWithin.{PlaceIsWithin}
use Rattle.simplex_core.specs.declared.stops.Stop.TheVariants as stops
use Rattle.check_command.specs.CheckLines.{CanBeSaid, rejected_line}

-- yes where all conditions hold, which is worth so much; no with the first that fails; or the place of the first number that doesn't fit
abbrev pub IsJudged : List Condition → Type 0 → Verdict → Type 0
IsJudged cs Worth (Yes value) = AllPass cs × Worth
IsJudged cs Worth (No rejection) = FailsFor cs (reason_of rejection)
IsJudged cs Worth (Width place) = IsWideAt cs place

-- the row or the variable of which it speaks is one of the sets
abbrev pub VerdictIsWithin : SetLists → Verdict → Type 0
VerdictIsWithin sets (Yes value) = ⊤
VerdictIsWithin sets (No rejection) = CanBeSaid sets rejection
VerdictIsWithin sets (Width place) = PlaceIsWithin sets place

-- the status and the text tell it; this is said where the answer is yes
abbrev pub TellsVerdict : SetLists → List ℕ → Verdict → Status → List ℕ → Type 0
TellsVerdict sets said (Yes value) status text = (status ≡ Done) × (text ≡ line said)
TellsVerdict sets said (No rejection) status text = (status ≡ Rejected rejection) × (text ≡ rejected_line sets rejection)
TellsVerdict sets said (Width place) status text = (status ≡ Uncertified (stops.Width place)) × (text ≡ uncertified_line sets (stops.Width place))
