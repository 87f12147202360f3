-- What `span` says over accepted data: between which values the capacity that is built in a year lies in plans near the best; that there is no plan, or no least cost;
-- which step stopped; or that the linear program is too large.
use Rattle.std.specs.Prelude.{◌≡◌, ℕ, Contains, List, [], ◌∷◌, Option, None, Some, ◌⊎◌, false, true}
use Rattle.exact_num.specs.Range.{all_fit}
use Rattle.exact_num.specs.Rational.{Rational}
use Rattle.model_sets.specs.Data.{Data}
use Rattle.model_sets.specs.declared.set_numbers.TheConstants.{REGION, TECHNOLOGY, YEAR}
use Rattle.row_core.specs.declared.Row.{Row}
use Rattle.row_core.specs.declared.RowName.{RowName}
use Rattle.row_core.specs.declared.Var.{Var}
use Rattle.row_core.specs.declared.place.Place.{Place}
use Rattle.row_core.specs.declared.place.Place.TheVariants.{SumGap}
use Rattle.row_core.specs.declared.kind_numbers.TheConstants.{NEW_CAPACITY}
use Rattle.named_equations.specs.Existence.{all_variables}
use Rattle.simplex_core.specs.declared.stops.Stop.{Stop}
use Rattle.simplex_core.specs.declared.stops.Stop.TheVariants.{Budget, Width}
use Rattle.exact_solver.specs.MethodEnds.{HasOptimum, IsPivotDue, IsWide}
use Rattle.command_answers.specs.BookMethods.{method_end}
use Rattle.certified_answers.specs.Worth.{plan_cost}
use Rattle.command_answers.specs.declared.status.Status.{Status}
use Rattle.command_answers.specs.declared.status.Status.TheVariants.{Done, Uncertified}
use Rattle.command_answers.specs.Lines.{uncertified_line}
use Rattle.command_answers.specs.MadeBooks.{DueBySize, DueForProgram}
use Rattle.command_answers.specs.NamedMembers.{IsMemberAt, IsNoMember}
use Rattle.command_words.specs.declared.command.SolveMethod.{SolveMethod}
use Rattle.command_words.specs.declared.command.SolveMethod.TheVariants.{Exact, Rounded}
use Rattle.command_answers.specs.SolvedEnds.{IsFoundInfeasible, IsInfeasible, IsUnbounded}
use Rattle.command_answers.specs.SolvedPlans.{IsNearOptimum, IsOptimum}
use Rattle.result_tables.specs.declared.attempts.FoundBy.TheVariants.{ByGuesses, ByMethod}
use Rattle.result_tables.specs.declared.attempts.Begun.TheVariants.{FromNothing}
use Rattle.result_tables.specs.Reports.{infeasible_text, unbounded_text}
use Rattle.command_answers.specs.Definers.{definers}
use Rattle.span_finder.specs.SpanEnds.{EndsSo, IsBounded, IsRising, Stops}
use Rattle.span_finder.specs.declared.found.SpanFail.TheVariants.{Stopped}
use Rattle.span_finder.specs.Slacks.{slack_formed, slack_limit}
use Rattle.span_command.specs.declared.wanted.TheConstants.{USUAL_GAPS}
use Rattle.span_command.specs.declared.wanted.Wanted.{Wanted}
use Rattle.span_command.specs.NearBest.{HasNoHighEnd, IsHighEnd, IsLowEnd, IsNearHighEnd, IsNearLowEnd}
use Rattle.span_command.specs.SpanTexts.{bounded_text, limited_line, rising_text, rounded_text}

-- the capacity of a technology that is built in a region in a year
abbrev pub built : ℕ → ℕ → ℕ → Var
built region technology year = record { kind = NEW_CAPACITY; index = record { region = region; other = 0; slice = 0; tech = technology; fuel = 0; emission = 0; mode = 0; year = year } }

-- ---- the least cost

-- the exact method stops before it
pub record HasStoppedBefore (d : Data) (rows : List Row) (pivots : ℕ) (status : Status) (text : List ℕ) : Type 0 where
  pub stop : Stop
  pub end : ((method_end rows (all_variables d) pivots ≡ IsPivotDue) × (stop ≡ Budget pivots)) ⊎ ((place : Place) × (method_end rows (all_variables d) pivots ≡ IsWide place) × (stop ≡ Width place))
  pub status_is : status ≡ Uncertified stop
  pub line_is : text ≡ uncertified_line d.sets stop

-- it comes to a plan of least cost, in whose words the rest is said
pub record HasLeastCost (places : ℕ) (d : Data) (rows : List Row) (pivots : ℕ) (cost : Rational) : Type 0 where
  pub plan : List (Var × Rational)
  pub multipliers : List (RowName × Rational)
  pub bound : Rational
  pub made : ℕ
  pub end : method_end rows (all_variables d) pivots ≡ HasOptimum plan multipliers made
  pub optimum : IsOptimum places d rows 0 plan multipliers cost bound

-- ---- after it

-- a number that is formed for the limit doesn't fit
pub record HasWideLimit (places : ℕ) (d : Data) (rows : List Row) (wanted : Wanted) (status : Status) (text : List ℕ) : Type 0 where
  pub cost : Rational
  pub least : HasLeastCost places d rows wanted.pivots cost
  pub wide : all_fit (slack_formed cost wanted.slack) ≡ false
  pub status_is : status ≡ Uncertified (Width SumGap)
  pub line_is : text ≡ uncertified_line d.sets (Width SumGap)

-- each plan near the best has at least as much of the variable as one of them and at most as much as another, and both are printed
pub record IsSpanned (places : ℕ) (d : Data) (rows : List Row) (var : Var) (wanted : Wanted) (status : Status) (text : List ℕ) : Type 0 where
  pub cost : Rational
  pub low : List (Var × Rational)
  pub high : List (Var × Rational)
  pub least : HasLeastCost places d rows wanted.pivots cost
  pub fits : all_fit (slack_formed cost wanted.slack) ≡ true
  pub ends : EndsSo rows (definers rows) (all_variables d) (slack_limit cost wanted.slack) var wanted.pivots (IsBounded low high)
  pub low_end : IsLowEnd places d (slack_limit cost wanted.slack) var low
  pub high_end : IsHighEnd places d (slack_limit cost wanted.slack) var high
  pub status_is : status ≡ Done
  pub text_is : text ≡ bounded_text d.sets cost (slack_limit cost wanted.slack) var low high

-- each has at least as much as one of them, and whatever the whole number, one has more
pub record IsEndless (places : ℕ) (d : Data) (rows : List Row) (var : Var) (wanted : Wanted) (status : Status) (text : List ℕ) : Type 0 where
  pub cost : Rational
  pub low : List (Var × Rational)
  pub high : List (Var × Rational)
  pub direction : List (Var × Rational)
  pub least : HasLeastCost places d rows wanted.pivots cost
  pub fits : all_fit (slack_formed cost wanted.slack) ≡ true
  pub ends : EndsSo rows (definers rows) (all_variables d) (slack_limit cost wanted.slack) var wanted.pivots (IsRising low high direction)
  pub low_end : IsLowEnd places d (slack_limit cost wanted.slack) var low
  pub no_high_end : HasNoHighEnd places d (slack_limit cost wanted.slack) var high
  pub status_is : status ≡ Done
  pub text_is : text ≡ rising_text d.sets cost (slack_limit cost wanted.slack) var low high direction

-- the row that limits the cost, the elimination, or the first trial that didn't end, stopped
pub record HasStoppedAfter (places : ℕ) (d : Data) (rows : List Row) (var : Var) (wanted : Wanted) (status : Status) (text : List ℕ) : Type 0 where
  pub cost : Rational
  pub stop : Stop
  pub least : HasLeastCost places d rows wanted.pivots cost
  pub fits : all_fit (slack_formed cost wanted.slack) ≡ true
  pub stops : Stops rows (definers rows) (all_variables d) (slack_limit cost wanted.slack) var wanted.pivots (Stopped stop)
  pub status_is : status ≡ Uncertified stop
  pub line_is : text ≡ limited_line d.sets stop

-- ---- what is found in numbers of limited accuracy, and proved

-- the gaps that are tried in turn: the one that is given, else the usual ones
abbrev pub gaps_of : Option ℕ → List ℕ
gaps_of None = USUAL_GAPS
gaps_of (Some gap) = gap ∷ []

-- A plan costs little more than a bound that no plan undercuts: so many millionths of the bound's absolute value as one of the gaps that are tried, which is told. Each plan whose cost is within the slack of the bound has at least
-- low of the variable and at most high, and such a plan near either end is printed.
pub record IsSpannedNearly (places : ℕ) (d : Data) (rows : List Row) (var : Var) (wanted : Wanted) (status : Status) (text : List ℕ) : Type 0 where
  pub plan : List (Var × Rational)
  pub multipliers : List (RowName × Rational)
  pub cost : Rational
  pub bound : Rational
  pub low : Rational
  pub high : Rational
  pub low_plan : List (Var × Rational)
  pub high_plan : List (Var × Rational)
  pub gap : ℕ
  pub tried : Contains (gaps_of wanted.gap) gap
  pub optimum : IsNearOptimum places d rows gap plan multipliers cost bound
  pub cost_is : cost ≡ plan_cost (all_variables d) plan
  pub low_end : IsNearLowEnd places d (slack_limit bound wanted.slack) var gap low_plan low
  pub high_end : IsNearHighEnd places d (slack_limit bound wanted.slack) var gap high_plan high
  pub status_is : status ≡ Done
  pub text_is : text ≡ rounded_text d.sets cost bound gap (slack_limit bound wanted.slack) low high low_plan high_plan

-- ---- what is due

-- by the exact method; no report of a least cost is shown, so that no price is formed
abbrev pub DueForEnd : ℕ → Data → List Row → Var → Wanted → ℕ → Status → List ℕ → Type 0
DueForEnd places d rows var wanted rounded status text =
    IsSpanned places d rows var wanted status text
    ⊎ IsEndless places d rows var wanted status text
    ⊎ IsInfeasible places d rows wanted.pivots (λ multipliers made. infeasible_text made rounded places ByMethod) status text
    ⊎ IsUnbounded places d rows wanted.pivots (λ plan direction made. unbounded_text d.sets direction made rounded places) status text
    ⊎ HasStoppedBefore d rows wanted.pivots status text
    ⊎ HasWideLimit places d rows wanted status text
    ⊎ HasStoppedAfter places d rows var wanted status text

-- what the rounded method finds
abbrev pub DueForFound : ℕ → Data → List Row → Var → Wanted → ℕ → Status → List ℕ → Type 0
DueForFound places d rows var wanted rounded status text =
    IsSpannedNearly places d rows var wanted status text
    ⊎ IsFoundInfeasible places d rows wanted.pivots (λ multipliers made. infeasible_text made rounded places (ByGuesses FromNothing)) status text

-- of a linear program within the limits: with the rounded method what it finds, and where it finds nothing, as with the exact one, its end
abbrev pub DueBy : SolveMethod → ℕ → Data → List Row → Var → Wanted → ℕ → Status → List ℕ → Type 0
DueBy Exact places d rows var wanted rounded status text = DueForEnd places d rows var wanted rounded status text
DueBy Rounded places d rows var wanted rounded status text = DueForFound places d rows var wanted rounded status text ⊎ DueForEnd places d rows var wanted rounded status text

abbrev pub DueForMethod : ℕ → Data → List Row → Var → Wanted → ℕ → Status → List ℕ → Type 0
DueForMethod places d rows var wanted rounded status text = DueBy wanted.method places d rows var wanted rounded status text

-- with the rounded method what it finds, whatever the size of the linear program
abbrev pub Finds : SolveMethod → ℕ → Data → List Row → Var → Wanted → ℕ → Status → List ℕ → Type 0
Finds Exact places d rows var wanted rounded status text = ⊥
Finds Rounded places d rows var wanted rounded status text = DueForFound places d rows var wanted rounded status text

-- of rows: what the rounded method finds, or what is due by the size
abbrev pub DueForRows : ℕ → Data → List Row → Var → Wanted → ℕ → Status → List ℕ → Type 0
DueForRows places d rows var wanted rounded status text =
    DueBySize wanted.method wanted.pivots (Finds wanted.method places d rows var wanted rounded) (DueForMethod places d rows var wanted rounded) rows (all_variables d) status text

-- over the data, for the capacity of a technology in a region and a year
abbrev pub DueForMember : ℕ → Wanted → Var → ℕ → Data → Status → List ℕ → Type 0
DueForMember places wanted var rounded d status text = DueForProgram (λ rows. DueForRows places d rows var wanted rounded) places d status text

-- ---- the words

-- those that name a region, a technology and a year
pub record Names : Type 0 where
  pub region : List ℕ
  pub technology : List ℕ
  pub year : List ℕ

-- all three are members
pub record HasMembers (places : ℕ) (wanted : Wanted) (names : Names) (rounded : ℕ) (d : Data) (status : Status) (text : List ℕ) : Type 0 where
  pub r : ℕ
  pub t : ℕ
  pub y : ℕ
  pub region_is : IsMemberAt d.sets REGION names.region r
  pub technology_is : IsMemberAt d.sets TECHNOLOGY names.technology t
  pub year_is : IsMemberAt d.sets YEAR names.year y
  pub due : DueForMember places wanted (built r t y) rounded d status text

-- the first is a member and the second isn't
pub record HasRegionAlone (names : Names) (d : Data) (status : Status) (text : List ℕ) : Type 0 where
  pub r : ℕ
  pub region_is : IsMemberAt d.sets REGION names.region r
  pub technology_isnt : IsNoMember d.sets TECHNOLOGY names.technology status text

-- the first two are members and the third isn't
pub record HasNoYear (names : Names) (d : Data) (status : Status) (text : List ℕ) : Type 0 where
  pub r : ℕ
  pub t : ℕ
  pub region_is : IsMemberAt d.sets REGION names.region r
  pub technology_is : IsMemberAt d.sets TECHNOLOGY names.technology t
  pub year_isnt : IsNoMember d.sets YEAR names.year status text

-- What is due over these data, for what is wanted, the words of a region, a technology and a year, and so many numbers of the data that are rounded.
abbrev pub DueForSpan : ℕ → Wanted → Names → ℕ → Data → Status → List ℕ → Type 0
DueForSpan places wanted names rounded d status text =
    IsNoMember d.sets REGION names.region status text ⊎ HasRegionAlone names d status text ⊎ HasNoYear names d status text ⊎ HasMembers places wanted names rounded d status text
