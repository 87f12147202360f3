-- What `solve` says over accepted data: a plan and a bound that no plan undercuts; that there is no plan; that there are plans of any lower cost; or
-- why the exact method came to none of these ends.
use Rattle.std.specs.Prelude.{◌≡◌, ◌≤◌, ℕ, List, ◌⊎◌, None, Some, ⊤, ◌==◌, Option, is_none, if◌then◌else◌}
use Rattle.exact_num.specs.Rational.{Rational}
use Rattle.exact_num.specs.Steps.{first_wide}
use Rattle.model_sets.specs.Data.{Data}
use Rattle.row_core.specs.declared.Row.{Row}
use Rattle.row_core.specs.declared.RowName.{RowName}
use Rattle.row_core.specs.declared.Var.{Var}
use Rattle.row_core.specs.declared.place.Place.{Place}
use Rattle.named_equations.specs.Existence.{all_variables}
use Rattle.written_method.specs.Eliminated.{elimination_steps}
use Rattle.decimal_solver.specs.Attempts.{Attempt}
use Rattle.command_answers.specs.Definers.{definers}
use Rattle.exact_solver.specs.MethodEnds.{HasNoBound, HasNoPlan, HasOptimum, IsPivotDue, IsWide, MethodEnd}
use Rattle.command_answers.specs.BookMethods.{grid_end, method_end}
use Rattle.certified_answers.specs.Worth.{plan_cost}
use Rattle.result_tables.specs.Prices.{price_steps}
use Rattle.result_tables.specs.declared.attempts.FoundBy.TheVariants.{ByGuesses, ByMethod, OnGrid}
use Rattle.solve_command.specs.declared.solve.Shown.{Shown}
use Rattle.solve_command.specs.declared.solve.Shown.TheVariants.{Report, Summary}
use Rattle.solve_command.specs.declared.solve.Wanted.{Wanted}
use Rattle.command_answers.specs.declared.status.Status.{Status}
use Rattle.command_answers.specs.declared.status.Status.TheVariants.{Done, Uncertified}
use Rattle.simplex_core.specs.declared.stops.Stop.TheVariants.{Budget, Width}
use Rattle.command_answers.specs.Lines.{uncertified_line}
use Rattle.command_answers.specs.Limits.{IsWithinLimits, PassesLimits}
use Rattle.command_answers.specs.MadeBooks.{HasNoRows}
use Rattle.command_answers.specs.MadeRows.{IsMadeFor}
use Rattle.solve_command.specs.Shown.{HasPrices}
use Rattle.command_words.specs.declared.command.SolveMethod.{SolveMethod}
use Rattle.command_words.specs.declared.command.SolveMethod.TheVariants.{Exact, Rounded}
use Rattle.command_answers.specs.SolvedEnds.{IsFoundInfeasible, IsInfeasible, IsUnbounded}
use Rattle.command_answers.specs.SolvedPlans.{IsNearOptimum, IsOptimum}
use Rattle.solve_command.specs.ReadBack.{TellsDescent, TellsRefutation, TellsShown, WhereProof}
use Rattle.solve_command.specs.SolveTexts.{infeasible_shown, solved_shown, unbounded_shown}

-- ---- prices

-- every number that is formed for the prices of a report, or of its summary, fits
abbrev pub PricesFit : Shown → List Row → List (RowName × Rational) → Type 0
PricesFit Report rows multipliers = first_wide (price_steps rows multipliers) ≡ None
PricesFit Summary rows multipliers = first_wide (price_steps rows multipliers) ≡ None
PricesFit show rows multipliers = ⊤

-- ---- the second attempt

-- what was found, where every number that is formed for its prices fits
abbrev pub priced : List Row → Option Attempt → Option Attempt
priced rows None = None
priced rows (Some found) = if is_none (first_wide (price_steps rows found.multipliers)) then Some found else None

-- The second attempt is made where a gap is allowed, in millionths, and the defined variables can be removed. It gives a plan, a bound and their
-- multipliers, or nothing.
abbrev pub second_end : List Row → List Var → Wanted → Option Attempt
second_end rows vars wanted =
    if wanted.gap == 0 then None
    else if is_none (first_wide (elimination_steps rows (definers rows))) then priced rows (grid_end rows vars wanted.gap wanted.pivots)
    else None

-- ---- ends, with so many pivots at most, and so many numbers of the data that are rounded

-- a plan that meets the named equations, and a bound within the gap of its cost that no such plan undercuts
pub record IsSolved (places : ℕ) (d : Data) (rows : List Row) (wanted : Wanted) (rounded : ℕ) (status : Status) (text : List ℕ) : Type 0 where
  pub plan : List (Var × Rational)
  pub multipliers : List (RowName × Rational)
  pub cost : Rational
  pub bound : Rational
  pub made : ℕ
  pub end : method_end rows (all_variables d) wanted.pivots ≡ HasOptimum plan multipliers made
  pub optimum : IsOptimum places d rows wanted.gap plan multipliers cost bound
  pub prices_fit : PricesFit wanted.show rows multipliers
  pub status_is : status ≡ Done
  pub text_is : text ≡ solved_shown wanted.show d.sets (all_variables d) plan rows multipliers cost bound made rounded places ByMethod
  pub told : TellsShown wanted.show d plan multipliers text

-- no plan meets them
abbrev pub IsInfeasibleShown : ℕ → Data → List Row → Wanted → ℕ → Status → List ℕ → Type 0
IsInfeasibleShown places d rows wanted rounded status text =
    (end : IsInfeasible places d rows wanted.pivots (λ multipliers made. infeasible_shown wanted.show d.sets multipliers made rounded places ByMethod) status text)
    × WhereProof wanted.show (TellsRefutation d end.multipliers text)

abbrev pub IsFoundInfeasibleShown : ℕ → Data → List Row → Wanted → ℕ → Status → List ℕ → Type 0
IsFoundInfeasibleShown places d rows wanted rounded status text =
    (end : IsFoundInfeasible places d rows wanted.pivots (λ multipliers made. infeasible_shown wanted.show d.sets multipliers made rounded places (ByGuesses wanted.begun)) status text)
    × WhereProof wanted.show (TellsRefutation d end.multipliers text)

-- plans of any lower cost meet them
abbrev pub IsUnboundedShown : ℕ → Data → List Row → Wanted → ℕ → Status → List ℕ → Type 0
IsUnboundedShown places d rows wanted rounded status text =
    (end : IsUnbounded places d rows wanted.pivots (λ plan direction made. unbounded_shown wanted.show d.sets plan direction made rounded places) status text)
    × WhereProof wanted.show (TellsDescent d end.plan end.direction text)

-- ---- stops

-- each where the second attempt gives nothing: a pivot is due after the last
pub record IsOutOfPivots (d : Data) (rows : List Row) (wanted : Wanted) (status : Status) (text : List ℕ) : Type 0 where
  pub end : method_end rows (all_variables d) wanted.pivots ≡ IsPivotDue
  pub no_second : second_end rows (all_variables d) wanted ≡ None
  pub status_is : status ≡ Uncertified (Budget wanted.pivots)
  pub line_is : text ≡ uncertified_line d.sets (Budget wanted.pivots)

-- the first number that doesn't fit is formed at this place of the method
pub record IsTooWideToSolve (d : Data) (rows : List Row) (wanted : Wanted) (status : Status) (text : List ℕ) : Type 0 where
  pub place : Place
  pub end : method_end rows (all_variables d) wanted.pivots ≡ IsWide place
  pub no_second : second_end rows (all_variables d) wanted ≡ None
  pub status_is : status ≡ Uncertified (Width place)
  pub line_is : text ≡ uncertified_line d.sets (Width place)

-- or, where what is to be shown has prices, it is formed for this one, after all else
pub record HasWidePrice (d : Data) (rows : List Row) (wanted : Wanted) (status : Status) (text : List ℕ) : Type 0 where
  pub plan : List (Var × Rational)
  pub multipliers : List (RowName × Rational)
  pub made : ℕ
  pub place : Place
  pub end : method_end rows (all_variables d) wanted.pivots ≡ HasOptimum plan multipliers made
  pub reported : HasPrices wanted.show
  pub wide : first_wide (price_steps rows multipliers) ≡ Some place
  pub no_second : second_end rows (all_variables d) wanted ≡ None
  pub status_is : status ≡ Uncertified (Width place)
  pub line_is : text ≡ uncertified_line d.sets (Width place)

-- ---- where the exact method stops, and the second attempt gives something

-- the method comes to an end: to an optimum, where a report is to be shown with prices that fit, to no plan or to no bound
abbrev pub ComesToEnd : Shown → List Row → MethodEnd → Type 0
ComesToEnd show rows (HasOptimum plan multipliers made) = PricesFit show rows multipliers
ComesToEnd show rows (HasNoPlan multipliers made) = ⊤
ComesToEnd show rows (HasNoBound plan direction made) = ⊤
ComesToEnd show rows IsPivotDue = ⊥
ComesToEnd show rows (IsWide place) = ⊥

-- a plan that meets the named equations, and a bound within the gap of its cost that no such plan undercuts
pub record IsSolvedOnGrid (places : ℕ) (d : Data) (rows : List Row) (wanted : Wanted) (rounded : ℕ) (status : Status) (text : List ℕ) : Type 0 where
  pub found : Attempt
  pub stopped : ComesToEnd wanted.show rows (method_end rows (all_variables d) wanted.pivots) → ⊥
  pub second : second_end rows (all_variables d) wanted ≡ Some found
  pub optimum : IsNearOptimum places d rows wanted.gap found.plan found.multipliers found.cost found.bound
  pub status_is : status ≡ Done
  pub text_is : text ≡ solved_shown wanted.show d.sets (all_variables d) found.plan rows found.multipliers found.cost found.bound found.pivots rounded places OnGrid
  pub told : TellsShown wanted.show d found.plan found.multipliers text

-- what is due of a linear program by the exact method, and by the second attempt where it stops
abbrev pub DueForEnd : ℕ → Data → List Row → Wanted → ℕ → Status → List ℕ → Type 0
DueForEnd places d rows wanted rounded status text =
    IsSolved places d rows wanted rounded status text
    ⊎ IsInfeasibleShown places d rows wanted rounded status text
    ⊎ IsUnboundedShown places d rows wanted rounded status text
    ⊎ IsOutOfPivots d rows wanted status text
    ⊎ IsTooWideToSolve d rows wanted status text
    ⊎ HasWidePrice d rows wanted status text
    ⊎ IsSolvedOnGrid places d rows wanted rounded status text

-- ---- what is found in numbers of limited accuracy, and proved: the pivots that are told are at most those that a guess may make

-- a plan that meets the named equations, and a bound within the gap of its cost that no such plan undercuts
pub record IsFound (places : ℕ) (d : Data) (rows : List Row) (wanted : Wanted) (rounded : ℕ) (status : Status) (text : List ℕ) : Type 0 where
  pub plan : List (Var × Rational)
  pub multipliers : List (RowName × Rational)
  pub cost : Rational
  pub bound : Rational
  pub made : ℕ
  pub within : made ≤ wanted.pivots
  pub optimum : IsNearOptimum places d rows wanted.gap plan multipliers cost bound
  pub cost_is : cost ≡ plan_cost (all_variables d) plan
  pub prices_fit : PricesFit wanted.show rows multipliers
  pub status_is : status ≡ Done
  pub text_is : text ≡ solved_shown wanted.show d.sets (all_variables d) plan rows multipliers cost bound made rounded places (ByGuesses wanted.begun)
  pub told : TellsShown wanted.show d plan multipliers text

-- ---- what is due

-- of a linear program within the limits: with the rounded method what it finds, and where it finds nothing, as with the exact one, its end
abbrev pub DueBy : SolveMethod → ℕ → Data → List Row → Wanted → ℕ → Status → List ℕ → Type 0
DueBy Exact places d rows wanted rounded status text = DueForEnd places d rows wanted rounded status text
DueBy Rounded places d rows wanted rounded status text =
    IsFound places d rows wanted rounded status text ⊎ IsFoundInfeasibleShown places d rows wanted rounded status text ⊎ DueForEnd places d rows wanted rounded status text

abbrev pub DueForMethod : ℕ → Data → List Row → Wanted → ℕ → Status → List ℕ → Type 0
DueForMethod places d rows wanted rounded status text = DueBy wanted.method places d rows wanted rounded status text

-- of any linear program: what is told with this method where it is too large, or the same where it isn't
abbrev pub DueForSized : ℕ → Data → List Row → Wanted → ℕ → Status → List ℕ → Type 0
DueForSized places d rows wanted rounded status text =
    PassesLimits wanted.method wanted.pivots rows (all_variables d) status text ⊎ (IsWithinLimits rows (all_variables d) × DueForMethod places d rows wanted rounded status text)

-- with the rounded method what guesses of the rows find, however large the linear program is
abbrev pub Finds : SolveMethod → ℕ → Data → List Row → Wanted → ℕ → Status → List ℕ → Type 0
Finds Exact places d rows wanted rounded status text = ⊥
Finds Rounded places d rows wanted rounded status text = IsFound places d rows wanted rounded status text ⊎ IsFoundInfeasibleShown places d rows wanted rounded status text

-- of rows: what guesses find, or what is due by its size
abbrev pub DueForRows : ℕ → Data → List Row → Wanted → ℕ → Status → List ℕ → Type 0
DueForRows places d rows wanted rounded status text = Finds wanted.method places d rows wanted rounded status text ⊎ DueForSized places d rows wanted rounded status text

-- What is due over these data, for what is wanted, and so many numbers of the data that are rounded.
abbrev pub DueForSolve : ℕ → Wanted → ℕ → Data → Status → List ℕ → Type 0
DueForSolve places wanted rounded d status text =
    IsMadeFor places d (λ rows. DueForRows places d rows wanted rounded status text) ⊎ HasNoRows places d status text
