-- What trials come to, as the code has it.
use Rattle.std.specs.Prelude.{◌≡◌, ◌⊎◌, ℕ, ℤ, List, map, IfSome}
use Rattle.std.specs.List.{AllByRecursion}
use Rattle.model_sets.specs.Data.{Data}
use Rattle.model_sets.specs.Members.{SetLists}
use Rattle.row_core.specs.declared.RowName.{RowName}
use Rattle.command_answers.specs.declared.status.Status.TheVariants.{Refused}
use Rattle.command_answers.specs.declared.status.Refusal.TheVariants.{TooManyEntries}
use Rattle.command_answers.specs.Lines.{entries_line}
use Rattle.command_answers.specs.PlacesWithin.{PlaceIsWithin, StopIsWithin}
use Rattle.command_words.specs.LimitLists.{IsLimit}
use Rattle.command_words.specs.declared.command.SolveMethod.TheVariants.{Rounded}
use Rattle.command_answers.specs.Definers.{definers}
use Rattle.emission_curve.specs.Ends.{PointEnd, point_end, point_seen}
use Rattle.emission_curve.specs.Points.{IsPointOf, IsRoundedPoint}
use Rattle.emission_curve.specs.declared.point.Point.{Point}
use Rattle.emission_curve.specs.declared.point.Point.TheVariants as points
use Rattle.row_book.specs.Books.{Book}
use Rattle.row_book.specs.declared.fail.BookFail.{BookFail}
use Rattle.row_book.specs.declared.fail.BookFail.TheVariants as fails
use Rattle.simplex_core.specs.declared.stops.TrialStop.TheVariants.{Width}
use Rattle.command_answers.specs.Limits.{IsWithinLimits, PassesLimits}
use Rattle.curve_command.specs.Curve.{HasRefusal, limits_in}
use Rattle.curve_command.specs.CurveTexts as texts
use Rattle.curve_command.specs.KeptRows.{IsBookAtSome, limited}
use Rattle.curve_command.specs.Trials.{IsTrialOf, RefusesTrial}
use Rattle.curve_command.specs.declared.trials.Found.{Found}
use Rattle.curve_command.specs.declared.trials.Limit.{Limit}
use Rattle.curve_command.specs.declared.trials.Member.{Member}
use Rattle.curve_command.specs.declared.trials.Outcome.{Outcome}
use Rattle.curve_command.specs.declared.trials.Outcome.TheVariants as outcomes
use Rattle.curve_command.specs.declared.trials.Trial.{Trial}
use Rattle.curve_command.specs.declared.trials.Trial.TheVariants as trials
use Rattle.curve_command.specs.declared.trials.Tried.{Tried}
use Rattle.curve_command.specs.declared.trials.Wanted.{Wanted}

-- the stop of an end, if it is one, can be named
abbrev pub EndIsWithin : SetLists → PointEnd → Type 0
EndIsWithin sets end = IfSome (texts.stop_of 0 end) (StopIsWithin sets)

-- ---- over the rows of a book

-- a point of the rows whose linear program is within the limits, by the exact method, or of any rows by the rounded one, where that is asked for
abbrev pub HasCause : Book → RowName → Wanted → Point → Type 0
HasCause book limit wanted point =
    (IsWithinLimits book.rows book.vars × (point_seen point ≡ point_end book.rows (definers book.rows) book.vars limit wanted.pivots))
    ⊎ ((wanted.method ≡ Rounded) × IsRoundedPoint wanted.gap point)

pub record IsPointBy (sets : SetLists) (book : Book) (limit : RowName) (wanted : Wanted) (point : Point) : Type 0 where
  pub worth : IsPointOf book.rows book.vars limit point
  pub cause : HasCause book limit wanted point
  pub within : EndIsWithin sets (point_seen point)

abbrev pub BookTells : SetLists → Book → RowName → Wanted → Trial → Type 0
BookTells sets book limit wanted (trials.Ended point) = IsPointBy sets book limit wanted point
BookTells sets book limit wanted (trials.Refused answer) = PassesLimits wanted.method wanted.pivots book.rows book.vars answer.status answer.text.items

-- why the rows can't be made: a width is the trial's stop, and too many entries are refused
abbrev pub FailTells : SetLists → BookFail → Trial → Type 0
FailTells sets (fails.Width place) trial = (trial ≡ trials.Ended (points.Stopped (Width place))) × PlaceIsWithin sets place
FailTells sets fails.TooManyEntries (trials.Refused answer) = (answer.status ≡ Refused TooManyEntries) × (answer.text.items ≡ entries_line)
FailTells sets fails.TooManyEntries (trials.Ended point) = ⊥
FailTells sets fails.Memory trial = ⊥

-- ---- over data

-- what was found at a limit
abbrev pub found_seen : Found → texts.Found
found_seen found = (found.limit, point_seen found.point)

-- its line can be written
abbrev pub IsPrintable : SetLists → Found → Type 0
IsPrintable sets found = IsLimit found.limit × EndIsWithin sets (point_seen found.point)

-- the trial of a limit of the member found so much
abbrev pub IsFoundOf : ℕ → Data → Member → Wanted → Found → Type 0
IsFoundOf places d member wanted found = IsTrialOf places d member.region member.emission wanted (found_seen found) × IsPrintable d.sets found

abbrev pub TrialTells : ℕ → Data → Limit → Wanted → Trial → Type 0
TrialTells places d limit wanted (trials.Ended point) = IsFoundOf places d limit.member wanted (record { limit = limit.most; point = point })
TrialTells places d limit wanted (trials.Refused answer) = RefusesTrial places wanted (limited d limit) answer.status answer.text.items

-- with the rows that the next trial may take
pub record TriedTells (places : ℕ) (d : Data) (limit : Limit) (wanted : Wanted) (tried : Tried) : Type 0 where
  pub trial : TrialTells places d limit wanted tried.trial
  pub book : IfSome tried.book (IsBookAtSome places d limit.member)

-- the trials of these limits
pub record AreFound (places : ℕ) (d : Data) (member : Member) (wanted : Wanted) (limits : List ℤ) (all : List Found) : Type 0 where
  pub whole : limits_in (map found_seen all) ≡ limits
  pub found : AllByRecursion (IsFoundOf places d member wanted) all

abbrev pub OutcomeTells : ℕ → Data → Member → Wanted → List ℤ → Outcome → Type 0
OutcomeTells places d member wanted limits (outcomes.Ended all) = AreFound places d member wanted limits all.items
OutcomeTells places d member wanted limits (outcomes.Refused answer) = HasRefusal places d member.region member.emission wanted limits answer.status answer.text.items
