-- Which files `mps` must write out, which plans `check` must accept, which models `solve` and `make` must bring to an end, which `explain` must, which curves must be told whole, which spans must be found, and which tables, pages and comparisons must be written.
use Rattle.std.specs.List.{AllByRecursion}
use Rattle.std.specs.Prelude.{◌≡◌, ◌≢◌, ◌⊎◌, ℕ, ℤ, ◌≤◌, true, List, [], ◌∷◌, length, Option, Some, None, Ok, ⊤}
use Rattle.std.specs.Option.{option_map}
use Rattle.exact_num.specs.Range.{all_fit}
use Rattle.exact_num.specs.Rational.{Rational}
use Rattle.exact_num.specs.Steps.{first_wide}
use Rattle.model_sets.specs.Data.{Data}
use Rattle.model_sets.specs.Members.{index_of, members}
use Rattle.model_sets.specs.declared.set_numbers.TheConstants.{EMISSION, REGION, TECHNOLOGY, YEAR}
use Rattle.row_core.specs.declared.Row.{Row}
use Rattle.row_core.specs.declared.RowName.{RowName}
use Rattle.row_core.specs.declared.Var.{Var}
use Rattle.row_core.specs.declared.place.Place.{Place}
use Rattle.named_equations.specs.Existence.{all_variables}
use Rattle.named_equations.specs.Instances.{instances}
use Rattle.named_equations.specs.Plans.{Feasible}
use Rattle.row_book.specs.Books.{AreRowsOf, CanBeMade}
use Rattle.certificate_checker.specs.Certificates.{AreMultipliersOver, Proves}
use Rattle.certificate_checker.specs.Conditions.{steps}
use Rattle.certificate_checker.specs.Costs.{model_cost}
use Rattle.certificate_checker.specs.Gaps.{Within}
use Rattle.certificate_checker.specs.Plans.{AreValuesOver}
use Rattle.plan_files.specs.Answers.{IsPlan}
use Rattle.plan_files.specs.Files.{records_of}
use Rattle.table_command.specs.declared.shown.Shown.{Shown}
use Rattle.table_command.specs.ShownTables.{shown_named}
use Rattle.proof_files.specs.declared.proof.Proof.TheVariants.{Optimum}
use Rattle.proof_files.specs.Proofs.{IsProof}
use Rattle.exact_solver.specs.MethodEnds.{HasOptimum, IsPivotDue, IsWide}
use Rattle.command_answers.specs.Definers.{definers}
use Rattle.command_answers.specs.BookMethods.{method_end}
use Rattle.certified_answers.specs.Worth.{multiplier_bound as bound_of}
use Rattle.command_words.specs.declared.command.MakeShow.TheVariants as MakeShow
use Rattle.command_words.specs.declared.command.SolveMethod.{SolveMethod}
use Rattle.model_maker.specs.MadeText.{made_text}
use Rattle.solve_command.specs.declared.solve.Shown.{Shown as SolveShown}
use Rattle.solve_command.specs.declared.solve.Shown.TheVariants.{Summary}
use Rattle.osemosys_run.specs.Due.{bytes_at, source2_in, source_in}
use Rattle.io_edges.specs.Files.{file_named}
use Rattle.command_answers.specs.declared.status.Status.{Status}
use Rattle.command_answers.specs.declared.status.Status.TheVariants.{Done, Infeasible, Unbounded, Memory}
use Rattle.command_answers.specs.Accepted.{Accepted, Source, most_bytes, plain}
use Rattle.check_command.specs.Check.{TellsMultipliers, check_conditions, multiplier_bound, plan_cost}
use Rattle.curve_command.specs.Limited.{limit_at, with_limit}
use Rattle.emission_curve.specs.Ends.{IsStopped, point_end}
use Rattle.explain_command.specs.Explain.{NothingStops}
use Rattle.simplex_core.specs.declared.stops.Stop.{Stop}
use Rattle.simplex_core.specs.declared.stops.TrialStop.{TrialStop}
use Rattle.span_finder.specs.Slacks.{slack_formed, slack_limit}
use Rattle.span_finder.specs.SpanEnds.{Stops}
use Rattle.span_finder.specs.declared.found.SpanFail.TheVariants.{Stopped}
use Rattle.span_command.specs.Span.{built}
use Rattle.solve_command.specs.Shown.{shown_of}
use Rattle.command_answers.specs.Limits.{IsWithinLimits}
use Rattle.solve_command.specs.Solve.{ComesToEnd}
use Rattle.solve_command.specs.Summary.{default_pivots, default_places}
use Rattle.command_words.specs.Words.{Question, Request, Check, Compare, Curve, Explain, Make, Mps, Page, Solve, SolveFrom, Span, Table, asked, names_of}
use Rattle.solver_answers.specs.Answers.{Tells}
use Rattle.solver_answers.specs.Told.{Breaks}

-- the file of each of these names is there, isn't too long, and has these bytes
abbrev pub AreThere : List (List ℕ × List ℕ) → (names contents : List (List ℕ)) → Type 0
AreThere files [] [] = ⊤
AreThere files [] (bytes ∷ contents) = ⊥
AreThere files (name ∷ names) [] = ⊥
AreThere files (name ∷ names) (bytes ∷ contents) = (file_named files name ≡ Some bytes) × (length bytes ≤ most_bytes) × AreThere files names contents

-- the data file is accepted with its changes, and every row of the named equations over its data can be made
pub record CanBeWritten (places : ℕ) (source : Source) : Type 0 where
  pub d : Data
  pub accepted : Accepted source d
  pub made : CanBeMade places d 0 (instances d)

-- the multipliers prove their bound over the rows, and the cost of the plan is within the gap of it
abbrev pub AreInGap : Data → List Row → List (Var × Rational) → Option (List (RowName × Rational)) → ℕ → Type 0
AreInGap d rows plan None gap = ⊤
AreInGap d rows plan (Some multipliers) gap =
    ((s : ℕ) × (y : RowName → ℤ) × AreMultipliersOver s y multipliers × Proves model_cost rows (all_variables d) s y)
    × Within (plan_cost d plan) (multiplier_bound rows multipliers) gap

-- The data file is accepted with its changes, and every row of the named equations over its data can be made; the plan's file is in form and tells a feasible plan; multipliers, if there
-- are any, are in form, prove their bound and keep the gap; and every number that is formed for the conditions fits.
pub record CanBeAccepted (gap places : ℕ) (source : Source) (plan_bytes : List ℕ) (multiplier_bytes : Option (List ℕ)) : Type 0 where
  pub d : Data
  pub plan : List (Var × Rational)
  pub multipliers : Option (List (RowName × Rational))
  pub accepted : Accepted source d
  pub made : CanBeMade places d 0 (instances d)
  pub plan_told : IsPlan d.sets (all_variables d) (records_of plan_bytes) plan
  pub multipliers_told : TellsMultipliers d multiplier_bytes multipliers
  pub feasible : (q : ℕ) × (x : Var → ℤ) × AreValuesOver q x plan × Feasible places d q x
  pub in_gap : (rows : List Row) → AreRowsOf places d (instances d) rows → AreInGap d rows plan multipliers gap
  pub fit : (rows : List Row) → AreRowsOf places d (instances d) rows → first_wide (steps (check_conditions d rows plan multipliers gap)) ≡ None

-- the data file is accepted with its changes, and every row of the named equations over its data can be made; the linear program is within the limits; and the exact method comes to an end
pub record CanBeSolved (pivots places : ℕ) (shown : SolveShown) (source : Source) : Type 0 where
  pub d : Data
  pub accepted : Accepted source d
  pub made : CanBeMade places d 0 (instances d)
  pub within : (rows : List Row) → AreRowsOf places d (instances d) rows → IsWithinLimits rows (all_variables d)
  pub ends : (rows : List Row) → AreRowsOf places d (instances d) rows → ComesToEnd shown rows (method_end rows (all_variables d) pivots)

-- so it is, and the file of values to start from breaks its form at no line
pub record CanBeSolvedFrom (pivots places : ℕ) (shown : SolveShown) (source : Source) (start_bytes : List ℕ) : Type 0 where
  pub solved : CanBeSolved pivots places shown source
  pub in_form : (rows : List Row) → AreRowsOf places solved.d (instances solved.d) rows → (number : ℕ) → ¬ (Tells solved.d.sets (all_variables solved.d) (length rows) start_bytes (Breaks number))

-- the data file is accepted with its changes, and every row of the named equations over its data can be made; the linear program is within the limits; and nothing stops the method
pub record CanBeExplained (pivots places : ℕ) (method : SolveMethod) (source : Source) : Type 0 where
  pub d : Data
  pub accepted : Accepted source d
  pub made : CanBeMade places d 0 (instances d)
  pub within : (rows : List Row) → AreRowsOf places d (instances d) rows → IsWithinLimits rows (all_variables d)
  pub never : (rows : List Row) → AreRowsOf places d (instances d) rows → NothingStops method rows (all_variables d) pivots

-- at this limit, in billionths, every row of the named equations can be made; the linear program is within the limits; and nothing stops the exact method
pub record CanBeTried (places : ℕ) (d : Data) (r e pivots : ℕ) (limit : ℤ) : Type 0 where
  pub made : CanBeMade places (with_limit d r e limit) 0 (instances (with_limit d r e limit))
  pub within : (rows : List Row) → AreRowsOf places (with_limit d r e limit) (instances (with_limit d r e limit)) rows → IsWithinLimits rows (all_variables (with_limit d r e limit))
  pub ends : (rows : List Row) → AreRowsOf places (with_limit d r e limit) (instances (with_limit d r e limit)) rows
      → (stop : TrialStop) → point_end rows (definers rows) (all_variables (with_limit d r e limit)) (limit_at r e) pivots ≢ IsStopped stop

-- the data file is accepted with its changes, its data have the region and the emission, and each limit can be tried
pub record CanBeDrawn (region emission : List ℕ) (limits : List ℤ) (pivots places : ℕ) (source : Source) : Type 0 where
  pub d : Data
  pub r : ℕ
  pub e : ℕ
  pub accepted : Accepted source d
  pub region_is : index_of (members d.sets REGION) region ≡ Some r
  pub emission_is : index_of (members d.sets EMISSION) emission ≡ Some e
  pub each : AllByRecursion (CanBeTried places d r e pivots) limits

-- nothing stops the exact method over the rows; and near a least cost, which is what its multipliers prove, every number of the limit fits, and nothing stops
-- the row that limits the cost, the elimination with that row, or either trial
pub record NothingStopsSpan (rows : List Row) (vars : List Var) (var : Var) (slack pivots : ℕ) : Type 0 where
  pub in_time : method_end rows vars pivots ≢ IsPivotDue
  pub fits : (place : Place) → method_end rows vars pivots ≢ IsWide place
  pub limit_fits : (plan : List (Var × Rational)) (multipliers : List (RowName × Rational)) (made : ℕ) → method_end rows vars pivots ≡ HasOptimum plan multipliers made
      → all_fit (slack_formed (bound_of rows multipliers) slack) ≡ true
  pub never : (plan : List (Var × Rational)) (multipliers : List (RowName × Rational)) (made : ℕ) → method_end rows vars pivots ≡ HasOptimum plan multipliers made
      → (stop : Stop) → ¬ (Stops rows (definers rows) vars (slack_limit (bound_of rows multipliers) slack) var pivots (Stopped stop))

-- The data file is accepted with its changes, its data have the region, the technology and the year, and every row of the named equations over them can be made; the linear program is within the limits; and
-- nothing stops the work.
pub record CanBeSpanned (region technology year : List ℕ) (slack pivots places : ℕ) (source : Source) : Type 0 where
  pub d : Data
  pub r : ℕ
  pub t : ℕ
  pub y : ℕ
  pub accepted : Accepted source d
  pub region_is : index_of (members d.sets REGION) region ≡ Some r
  pub technology_is : index_of (members d.sets TECHNOLOGY) technology ≡ Some t
  pub year_is : index_of (members d.sets YEAR) year ≡ Some y
  pub made : CanBeMade places d 0 (instances d)
  pub within : (rows : List Row) → AreRowsOf places d (instances d) rows → IsWithinLimits rows (all_variables d)
  pub ends : (rows : List Row) → AreRowsOf places d (instances d) rows → NothingStopsSpan rows (all_variables d) (built r t y) slack pivots

-- The data file is accepted with its changes, and every row of the named equations over its data can be made; the proof's file is in form and tells an optimum whose plan is feasible, and
-- whose multipliers prove their bound and keep the gap; and every number that is formed for the conditions fits.
pub record ProvesOptimum (gap places : ℕ) (source : Source) (proof_bytes : List ℕ) : Type 0 where
  pub d : Data
  pub plan : List (Var × Rational)
  pub multipliers : List (RowName × Rational)
  pub accepted : Accepted source d
  pub made : CanBeMade places d 0 (instances d)
  pub told : IsProof d.sets (all_variables d) (instances d) (records_of proof_bytes) (Optimum plan multipliers)
  pub feasible : (q : ℕ) × (x : Var → ℤ) × AreValuesOver q x plan × Feasible places d q x
  pub in_gap : (rows : List Row) → AreRowsOf places d (instances d) rows → AreInGap d rows plan (Some multipliers) gap
  pub fit : (rows : List Row) → AreRowsOf places d (instances d) rows → first_wide (steps (check_conditions d rows plan (Some multipliers) gap)) ≡ None

-- Of these data files with their changes, and of these contents, a question must come to an end. Of `make` of a file and of `warn` what is due says so, and of the others that are left out nothing is said.
abbrev pub CanBeDone : Question → Source → Source → (contents : List (List ℕ)) → Type 0
CanBeDone (Mps name places) source source2 contents = CanBeWritten places source
CanBeDone (Check name plan multipliers gap places) source source2 contents = CanBeAccepted gap places source (bytes_at contents 1) (option_map (λ name. bytes_at contents 2) multipliers)
CanBeDone (Solve name gap pivots places show method) source source2 contents = CanBeSolved pivots places (shown_of show) source
CanBeDone (SolveFrom name start gap pivots places show) source source2 contents = CanBeSolvedFrom pivots places (shown_of show) source (bytes_at contents 1)
CanBeDone (Explain name pivots places method) source source2 contents = CanBeExplained pivots places method source
CanBeDone (Curve name region emission limits gap pivots places method) source source2 contents = CanBeDrawn region emission limits pivots places source
CanBeDone (Span name region technology year slack gap pivots places method) source source2 contents = CanBeSpanned region technology year slack pivots places source
CanBeDone (Make size MakeShow.Summary) source source2 contents = CanBeSolved default_pivots default_places Summary (plain (made_text size))
CanBeDone (Table name proof table exact gap places) source source2 contents =
    (can : ProvesOptimum gap places source (bytes_at contents 1)) × (shown : Shown) × (shown_named can.d.second table ≡ Some shown)
CanBeDone (Page name proof gap places) source source2 contents = ProvesOptimum gap places source (bytes_at contents 1)
CanBeDone (Compare first first_proof second second_proof gap places show) source source2 contents =
    ProvesOptimum gap places source (bytes_at contents 1) × ProvesOptimum gap places source2 (bytes_at contents 3)
CanBeDone question source source2 contents = ⊥

-- a model is solved, has no plan, or has no bound
abbrev pub IsEnded : Status → Type 0
IsEnded status = (status ≡ Done) ⊎ (status ≡ Infeasible) ⊎ (status ≡ Unbounded)

-- some plan exists, or why there is none is told
abbrev pub IsExplained : Status → Type 0
IsExplained status = (status ≡ Done) ⊎ (status ≡ Infeasible)

-- the end of a question
abbrev pub IsEndOf : Question → Status → Type 0
IsEndOf (Solve name gap pivots places show method) status = IsEnded status
IsEndOf (SolveFrom name start gap pivots places show) status = IsEnded status
IsEndOf (Span name region technology year slack gap pivots places method) status = IsEnded status
IsEndOf (Make size show) status = IsEnded status
IsEndOf (Explain name pivots places method) status = IsExplained status
IsEndOf question status = status ≡ Done

-- where the files that the words ask for are there with such contents, the request comes to its end, unless memory ran out
abbrev pub Completes : List (List ℕ) → List (List ℕ × List ℕ) → Status → Type 0
Completes words files status = (request : Request) (contents : List (List ℕ)) → asked words ≡ Ok request → AreThere files (names_of request) contents → CanBeDone request.question (source_in request contents) (source2_in request contents) contents
    → IsEndOf request.question status ⊎ (status ≡ Memory)
