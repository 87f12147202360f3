-- What a solution of a book and a span over it come to, as statuses and texts, over the rows.
use Rattle.std.specs.Prelude.{◌≡◌, ℕ, List, ◌++◌, codes, ◌⊎◌, false, true, Option, Some, None}
use Rattle.exact_num.specs.Range.{all_fit}
use Rattle.exact_num.specs.Rational.{Rational}
use Rattle.exact_num.specs.Value.{value_of}
use Rattle.exact_num.specs.declared.fraction.Frac.{Frac}
use Rattle.model_sets.specs.Members.{SetLists}
use Rattle.mps_writer.specs.MpsText.{line}
use Rattle.row_core.specs.declared.Row.{Row}
use Rattle.row_core.specs.declared.Var.{Var}
use Rattle.row_core.specs.declared.place.Place.TheVariants.{SumGap}
use Rattle.certified_answers.specs.declared.answers.Certified.{Certified}
use Rattle.certified_answers.specs.declared.answers.Certified.TheVariants as found
use Rattle.result_tables.specs.declared.attempts.FoundBy.TheVariants.{ByGuesses, ByMethod}
use Rattle.result_tables.specs.declared.attempts.Begun.TheVariants.{FromNothing}
use Rattle.result_tables.specs.Lines.{amount_line}
use Rattle.result_tables.specs.Reports.{end_line, infeasible_text, unbounded_text}
use Rattle.simplex_core.specs.declared.stops.Stop.{Stop}
use Rattle.simplex_core.specs.declared.stops.Stop.TheVariants.{Width}
use Rattle.command_answers.specs.declared.status.Status.{Status}
use Rattle.command_answers.specs.declared.status.Status.TheVariants.{Done, Infeasible, Unbounded, Uncertified}
use Rattle.command_answers.specs.Lines.{uncertified_line}
use Rattle.command_answers.specs.Definers.{definers}
use Rattle.span_finder.specs.SpanEnds.{EndsSo, Stops, span_seen}
use Rattle.span_finder.specs.Slacks.{slack_formed, slack_limit}
use Rattle.span_finder.specs.Spans.{IsSpan}
use Rattle.span_finder.specs.RoundedSpans.{IsRoundedSpan}
use Rattle.span_finder.specs.declared.found.RoundedSpan.{RoundedSpan}
use Rattle.span_finder.specs.declared.found.Span.{Span}
use Rattle.span_finder.specs.declared.found.SpanFail.TheVariants.{Stopped}
use Rattle.span_command.specs.SpanTexts.{chosen_table, head_text, limited_line, rounded_text}
use Rattle.span_command.specs.declared.wanted.Wanted.{Wanted}

-- ---- the text of a span

-- the greatest value, or that there is none
abbrev pub high_line : Option Frac → List ℕ
high_line None = line (codes "high none")
high_line (Some high) = amount_line (codes "high") (value_of high)

-- how it ends: with the direction, where there is one
abbrev pub closing : SetLists → Option (List (Var × Rational)) → List ℕ
closing sets None = end_line
closing sets (Some direction) = chosen_table sets (codes "Direction") direction ++ end_line

abbrev pub span_lines : SetLists → Rational → Rational → Rational → List (Var × Rational) → List (Var × Rational) → Option Frac → Option (List (Var × Rational)) → List ℕ
span_lines sets cost limit low low_plan high_plan high direction =
    head_text cost limit low ++ high_line high ++ chosen_table sets (codes "Low") low_plan ++ chosen_table sets (codes "High") high_plan ++ closing sets direction

abbrev pub span_text : SetLists → Rational → Rational → Span → List ℕ
span_text sets cost limit span = span_lines sets cost limit (value_of span.low) span.low_plan span.high_plan span.high span.direction

-- ---- what is told

-- a span
pub record IsToldSpan (sets : SetLists) (rows : List Row) (vars : List Var) (cost limit : Rational) (var : Var) (pivots : ℕ) (status : Status) (text : List ℕ) : Type 0 where
  pub span : Span
  pub ends : EndsSo rows (definers rows) vars limit var pivots (span_seen span)
  pub proved : IsSpan rows vars limit var span
  pub status_is : status ≡ Done
  pub text_is : text ≡ span_text sets cost limit span

-- or why there is none
pub record IsToldStop (sets : SetLists) (rows : List Row) (vars : List Var) (limit : Rational) (var : Var) (pivots : ℕ) (status : Status) (text : List ℕ) : Type 0 where
  pub stop : Stop
  pub stops : Stops rows (definers rows) vars limit var pivots (Stopped stop)
  pub status_is : status ≡ Uncertified stop
  pub line_is : text ≡ limited_line sets stop

abbrev pub TellsSpan : SetLists → List Row → List Var → Rational → Rational → Var → ℕ → Status → List ℕ → Type 0
TellsSpan sets rows vars cost limit var pivots status text =
    IsToldSpan sets rows vars cost limit var pivots status text ⊎ IsToldStop sets rows vars limit var pivots status text

-- near a least cost: a number of the limit doesn't fit, or all do, and a span or a stop is told
abbrev pub IsToldWide : SetLists → Rational → ℕ → Status → List ℕ → Type 0
IsToldWide sets cost slack status text =
    (all_fit (slack_formed cost slack) ≡ false) × (status ≡ Uncertified (Width SumGap)) × (text ≡ uncertified_line sets (Width SumGap))

abbrev pub TellsNear : SetLists → List Row → List Var → Rational → Var → Wanted → Status → List ℕ → Type 0
TellsNear sets rows vars cost var wanted status text =
    IsToldWide sets cost wanted.slack status text
    ⊎ ((all_fit (slack_formed cost wanted.slack) ≡ true) × TellsSpan sets rows vars cost (slack_limit cost wanted.slack) var wanted.pivots status text)

-- for a solution
abbrev pub TellsSolution : SetLists → List Row → List Var → Var → Wanted → ℕ → ℕ → Certified → Status → List ℕ → Type 0
TellsSolution sets rows vars var wanted rounded places (found.Optimal plan multipliers cost bound made) status text = TellsNear sets rows vars (value_of cost) var wanted status text
TellsSolution sets rows vars var wanted rounded places (found.Infeasible multipliers made) status text = (status ≡ Infeasible) × (text ≡ infeasible_text made rounded places ByMethod)
TellsSolution sets rows vars var wanted rounded places (found.Unbounded plan direction made) status text = (status ≡ Unbounded) × (text ≡ unbounded_text sets direction made rounded places)

-- ---- by the rounded method

-- the text of a span of it
abbrev pub near_text : SetLists → Rational → Rational → ℕ → Rational → RoundedSpan → List ℕ
near_text sets cost bound gap limit span = rounded_text sets cost bound gap limit (value_of span.low) (value_of span.high) span.low_plan span.high_plan

-- a span within the slack of a bound is told
pub record IsToldNearly (sets : SetLists) (rows : List Row) (vars : List Var) (cost bound : Rational) (var : Var) (wanted : Wanted) (gap : ℕ) (status : Status) (text : List ℕ) : Type 0 where
  pub span : RoundedSpan
  pub worth : IsRoundedSpan rows vars (slack_limit bound wanted.slack) var gap span
  pub status_is : status ≡ Done
  pub text_is : text ≡ near_text sets cost bound gap (slack_limit bound wanted.slack) span

-- for what it finds within a gap
abbrev pub TellsFound : SetLists → List Row → List Var → Var → Wanted → ℕ → ℕ → ℕ → Certified → Status → List ℕ → Type 0
TellsFound sets rows vars var wanted gap rounded places (found.Optimal plan multipliers cost bound made) status text = IsToldNearly sets rows vars (value_of cost) (value_of bound) var wanted gap status text
TellsFound sets rows vars var wanted gap rounded places (found.Infeasible multipliers made) status text = (status ≡ Infeasible) × (text ≡ infeasible_text made rounded places (ByGuesses FromNothing))
TellsFound sets rows vars var wanted gap rounded places (found.Unbounded plan direction made) status text = ⊥
