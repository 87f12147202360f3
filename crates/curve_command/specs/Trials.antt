-- The trial of one limit: the data with that limit, their rows, and the end of the method that is asked for.
use Rattle.std.specs.Prelude.{◌≡◌, ◌⊎◌, ℕ, List}
use Rattle.model_sets.specs.Data.{Data}
use Rattle.row_core.specs.declared.RowName.{RowName}
use Rattle.row_core.specs.declared.place.Place.{Place}
use Rattle.named_equations.specs.Existence.{all_variables}
use Rattle.named_equations.specs.Instances.{instances}
use Rattle.row_book.specs.Books.{CanBeMade, IsTooWide}
use Rattle.simplex_core.specs.declared.stops.TrialStop.TheVariants.{Width}
use Rattle.command_answers.specs.declared.status.Status.{Status}
use Rattle.command_answers.specs.MadeRows.{IsMadeFor, IsTooLarge}
use Rattle.command_words.specs.declared.command.SolveMethod.TheVariants.{Rounded}
use Rattle.command_answers.specs.Limits.{IsWithinLimits, PassesLimits}
use Rattle.command_answers.specs.Definers.{definers}
use Rattle.emission_curve.specs.Ends.{IsStopped, PointEnd, point_end}
use Rattle.emission_curve.specs.Points.{EndIsRounded}
use Rattle.curve_command.specs.declared.trials.Wanted.{Wanted}
use Rattle.curve_command.specs.CurvePoints.{EndIsTrue}
use Rattle.curve_command.specs.CurveTexts.{Found}
use Rattle.curve_command.specs.Limited.{limit_at, with_limit}

-- the first row that can't be made is one in which a number doesn't fit: its place is the trial's stop
pub record HasWideRow (places : ℕ) (d : Data) (end : PointEnd) : Type 0 where
  pub name : RowName
  pub wide : IsTooWide places d 0 (instances d) name
  pub end_is : end ≡ IsStopped (Width (Place.Row name))

-- the rows can be made, their linear program isn't too large, and the exact method ends on them so
abbrev pub EndsExactly : ℕ → Data → RowName → ℕ → PointEnd → Type 0
EndsExactly places d limit pivots end =
    IsMadeFor places d (λ rows. IsWithinLimits rows (all_variables d) × (end ≡ point_end rows (definers rows) (all_variables d) limit pivots))

-- or the rounded method is asked for, and finds so much of the rows, whatever the size of their linear program
pub record EndsRounded (places : ℕ) (d : Data) (wanted : Wanted) (end : PointEnd) : Type 0 where
  pub asked : wanted.method ≡ Rounded
  pub made : CanBeMade places d 0 (instances d)
  pub rounded : EndIsRounded wanted.gap end

-- the trial ends so, for these causes
abbrev pub EndsSo : ℕ → Data → RowName → Wanted → PointEnd → Type 0
EndsSo places d limit wanted end = HasWideRow places d end ⊎ EndsExactly places d limit wanted.pivots end ⊎ EndsRounded places d wanted end

-- the trial of a limit, in billionths, comes to this end, and it is true of the plans of the named equations
pub record IsTrialOf (places : ℕ) (d : Data) (r e : ℕ) (wanted : Wanted) (found : Found) : Type 0 where
  pub cause : EndsSo places (with_limit d r e found.0) (limit_at r e) wanted found.1
  pub true_end : EndIsTrue places d r e found.0 found.1

-- the trial refuses: its rows have too many entries, or their linear program is too large, and by the rounded method no guess is accepted besides
abbrev pub RefusesTrial : ℕ → Wanted → Data → Status → List ℕ → Type 0
RefusesTrial places wanted d status text = IsTooLarge places d status text ⊎ IsMadeFor places d (λ rows. PassesLimits wanted.method wanted.pivots rows (all_variables d) status text)
