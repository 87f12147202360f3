-- What `explain` says over accepted data: that some plan meets the named equations; a few of them that can't be met together, each shown to be needed; which
-- trial stopped; or that the linear program is too large.
use Rattle.std.specs.Prelude.{◌≡◌, ℕ, List, ◌⊎◌, None, Some, ⊤}
use Rattle.exact_num.specs.Rational.{Rational}
use Rattle.exact_num.specs.Steps.{first_wide}
use Rattle.model_sets.specs.Data.{Data}
use Rattle.row_core.specs.declared.Row.{Row}
use Rattle.row_core.specs.declared.RowName.{RowName}
use Rattle.row_core.specs.declared.Var.{Var}
use Rattle.row_core.specs.Numbers.{keys_of}
use Rattle.named_equations.specs.Existence.{all_variables}
use Rattle.row_core.specs.declared.place.Place.{Place}
use Rattle.written_method.specs.Eliminated.{elimination_steps}
use Rattle.command_answers.specs.Definers.{definers}
use Rattle.simplex_core.specs.declared.stops.Stop.{Stop}
use Rattle.simplex_core.specs.declared.stops.Stop.TheVariants.{Width}
use Rattle.command_answers.specs.declared.status.Status.{Status}
use Rattle.command_answers.specs.declared.status.Status.TheVariants.{Done, Infeasible, Uncertified}
use Rattle.command_answers.specs.Lines.{uncertified_line}
use Rattle.command_answers.specs.MadeBooks.{DueBySize, DueForProgram}
use Rattle.command_words.specs.declared.command.SolveMethod.{SolveMethod}
use Rattle.command_words.specs.declared.command.SolveMethod.TheVariants.{Exact, Rounded}
use Rattle.conflict_sets.specs.RoundedStops.{IsStopOfSome}
use Rattle.conflict_sets.specs.Walks.{Explanation, IsConflicting, IsFeasible, IsStopped, explanation}
use Rattle.explain_command.specs.declared.explain.Wanted.{Wanted}
use Rattle.explain_command.specs.NamedConflicts.{IsNamedConflict, SomeIsFeasible}
use Rattle.explain_command.specs.ShownConflicts.{AreShown}
use Rattle.explain_command.specs.Texts.{conflict_text, feasible_text}

-- ---- why it ends so

-- By guesses the elimination stops first, or an exact trial of which no guess was accepted does.
abbrev pub StopsByGuesses : List Row → List Var → ℕ → Stop → Type 0
StopsByGuesses rows vars pivots stop =
    ((place : Place) × (first_wide (elimination_steps rows (definers rows)) ≡ Some place) × (stop ≡ Width place))
    ⊎ ((first_wide (elimination_steps rows (definers rows)) ≡ None) × IsStopOfSome rows (definers rows) vars pivots stop)

-- by the exact method it is the end of its trials; by guesses only a stop has a cause
abbrev pub IsCauseOf : SolveMethod → List Row → List Var → ℕ → Explanation → Type 0
IsCauseOf Exact rows vars pivots end = explanation rows (definers rows) vars pivots ≡ end
IsCauseOf Rounded rows vars pivots (IsStopped stop) = StopsByGuesses rows vars pivots stop
IsCauseOf Rounded rows vars pivots end = ⊤

-- nothing stops the method that is asked for
abbrev pub NothingStops : SolveMethod → List Row → List Var → ℕ → Type 0
NothingStops method rows vars pivots = (stop : Stop) → IsCauseOf method rows vars pivots (IsStopped stop) → ⊥

-- ---- the ends

-- some plan meets the named equations
pub record HasFeasible (places : ℕ) (d : Data) (rows : List Row) (wanted : Wanted) (status : Status) (text : List ℕ) : Type 0 where
  pub cause : IsCauseOf wanted.method rows (all_variables d) wanted.pivots IsFeasible
  pub some : SomeIsFeasible places d
  pub status_is : status ≡ Done
  pub text_is : text ≡ feasible_text

-- some of them can't be met together, and the multipliers that are printed are part of what shows it
pub record HasConflict (places : ℕ) (d : Data) (rows : List Row) (wanted : Wanted) (status : Status) (text : List ℕ) : Type 0 where
  pub members : List (RowName × Rational)
  pub plans : List (List (Var × Rational))
  pub cause : IsCauseOf wanted.method rows (all_variables d) wanted.pivots (IsConflicting members plans)
  pub conflict : IsNamedConflict places d (keys_of members) plans
  pub shown : AreShown rows (all_variables d) members
  pub status_is : status ≡ Infeasible
  pub text_is : text ≡ conflict_text d.sets members plans

-- the elimination, or a trial, stopped: a pivot is due after the last that it may make, or a number doesn't fit
pub record HasStopped (d : Data) (rows : List Row) (wanted : Wanted) (status : Status) (text : List ℕ) : Type 0 where
  pub stop : Stop
  pub cause : IsCauseOf wanted.method rows (all_variables d) wanted.pivots (IsStopped stop)
  pub status_is : status ≡ Uncertified stop
  pub line_is : text ≡ uncertified_line d.sets stop

-- ---- what is due

-- with the rounded method what guesses alone find, whatever the size of the linear program
abbrev pub Finds : SolveMethod → ℕ → Data → List Row → Wanted → Status → List ℕ → Type 0
Finds Exact places d rows wanted status text = ⊥
Finds Rounded places d rows wanted status text = HasFeasible places d rows wanted status text ⊎ HasConflict places d rows wanted status text

-- of a linear program within the limits
abbrev pub DueForMethod : ℕ → Data → List Row → Wanted → Status → List ℕ → Type 0
DueForMethod places d rows wanted status text = HasFeasible places d rows wanted status text ⊎ HasConflict places d rows wanted status text ⊎ HasStopped d rows wanted status text

-- of rows: what guesses find, or what is due by the size
abbrev pub DueForRows : ℕ → Data → List Row → Wanted → Status → List ℕ → Type 0
DueForRows places d rows wanted status text = DueBySize wanted.method wanted.pivots (Finds wanted.method places d rows wanted) (DueForMethod places d rows wanted) rows (all_variables d) status text

-- What is due over these data, for so many pivots at most in each trial, and the method that is asked for.
abbrev pub DueForExplain : ℕ → Wanted → Data → Status → List ℕ → Type 0
DueForExplain places wanted d status text = DueForProgram (λ rows. DueForRows places d rows wanted) places d status text
