-- What `span` writes. The row that limits the cost, `SPAN[]`, is named where a step of it stops.
use Rattle.std.specs.Prelude.{ℕ, ◌==◌, List, ◌++◌, codes, if◌then◌else◌}
use Rattle.std.specs.Fmt.{decimal}
use Rattle.exact_num.specs.Rational.{Rational}
use Rattle.model_sets.specs.Members.{SetLists}
use Rattle.mps_writer.specs.MpsText.{line}
use Rattle.row_core.specs.declared.RowName.{RowName}
use Rattle.row_core.specs.declared.Var.{Var}
use Rattle.row_core.specs.declared.place.Place.{Place}
use Rattle.row_core.specs.NameTexts.{row_name}
use Rattle.row_core.specs.Order.{var_cmp}
use Rattle.row_core.specs.Plans.{value_in}
use Rattle.plan_files.specs.Texts.{records_text}
use Rattle.result_tables.specs.Lines.{amount_line, heading}
use Rattle.result_tables.specs.Reports.{end_line}
use Rattle.result_tables.specs.Tables.{direction_table}
use Rattle.simplex_core.specs.declared.stops.Stop.{Stop}
use Rattle.simplex_core.specs.declared.stops.Stop.TheVariants.{Budget, Width, Trial}
use Rattle.simplex_core.specs.declared.stops.TrialStop.{TrialStop}
use Rattle.simplex_core.specs.declared.stops.TrialStop.TheVariants as trials
use Rattle.command_answers.specs.Lines.{place_text}
use Rattle.row_core.specs.declared.cost_limit.TheConstants.{SPAN}

-- ---- tables

-- the RateOfActivity, NewCapacity and Trade of a plan or a direction that aren't 0, under a name
abbrev pub chosen_table : SetLists → List ℕ → List (Var × Rational) → List ℕ
chosen_table sets name values = heading name ++ records_text (direction_table sets values).records

-- ---- a span

-- how it begins: the least cost, the limit, and the least value of the variable
abbrev pub head_text : Rational → Rational → Rational → List ℕ
head_text cost limit low = codes "status solved\n" ++ amount_line (codes "cost") cost ++ amount_line (codes "limit") limit ++ amount_line (codes "low") low

-- with a greatest value
abbrev pub bounded_text : SetLists → Rational → Rational → Var → List (Var × Rational) → List (Var × Rational) → List ℕ
bounded_text sets cost limit var low high =
    head_text cost limit (value_in var_cmp low var) ++ amount_line (codes "high") (value_in var_cmp high var)
    ++ chosen_table sets (codes "Low") low ++ chosen_table sets (codes "High") high ++ end_line

-- without one, and with a direction along which the value grows without end
abbrev pub rising_text : SetLists → Rational → Rational → Var → List (Var × Rational) → List (Var × Rational) → List (Var × Rational) → List ℕ
rising_text sets cost limit var low high direction =
    head_text cost limit (value_in var_cmp low var) ++ line (codes "high none")
    ++ chosen_table sets (codes "Low") low ++ chosen_table sets (codes "High") high ++ (chosen_table sets (codes "Direction") direction ++ end_line)

-- how many millionths cost and ends may be from what is proved
abbrev pub gap_line : ℕ → List ℕ
gap_line gap = line (codes "gap " ++ decimal gap)

-- by the rounded method: the cost of a plan, a bound that no plan undercuts, the gap, a limit near the bound, two ends, and a plan near each
abbrev pub rounded_text : SetLists → Rational → Rational → ℕ → Rational → Rational → Rational → List (Var × Rational) → List (Var × Rational) → List ℕ
rounded_text sets cost bound gap limit low high low_plan high_plan =
    codes "status solved\n" ++ amount_line (codes "cost") cost ++ amount_line (codes "bound") bound ++ gap_line gap ++ amount_line (codes "limit") limit
    ++ amount_line (codes "low") low ++ amount_line (codes "high") high ++ chosen_table sets (codes "Low") low_plan ++ chosen_table sets (codes "High") high_plan ++ end_line

-- ---- stops

-- the row that limits the cost has a name of its own, without subscripts
abbrev pub limited_name : SetLists → RowName → List ℕ
limited_name sets name = if name.eq == SPAN then codes "SPAN[]" else row_name sets name

abbrev pub limited_place : SetLists → Place → List ℕ
limited_place sets (Place.Row name) = codes "row " ++ limited_name sets name
limited_place sets (Place.Expand name) = codes "expand " ++ limited_name sets name
limited_place sets Place.CostRow = place_text sets Place.CostRow
limited_place sets (Place.Pivot number) = place_text sets (Place.Pivot number)
limited_place sets (Place.LiftPlan var) = place_text sets (Place.LiftPlan var)
limited_place sets (Place.LiftMultiplier name) = codes "multiplier " ++ limited_name sets name
limited_place sets (Place.LiftDirection var) = place_text sets (Place.LiftDirection var)
limited_place sets (Place.Check name) = codes "check " ++ limited_name sets name
limited_place sets (Place.Column var) = place_text sets (Place.Column var)
limited_place sets Place.SumCost = place_text sets Place.SumCost
limited_place sets Place.SumBound = place_text sets Place.SumBound
limited_place sets Place.SumGap = place_text sets Place.SumGap
limited_place sets (Place.Price name) = codes "price " ++ limited_name sets name

-- why a trial stopped
abbrev pub limited_trial : SetLists → TrialStop → List ℕ
limited_trial sets (trials.Budget pivots) = codes "budget " ++ decimal pivots
limited_trial sets (trials.Width place) = codes "width " ++ limited_place sets place

-- the line of a stop
abbrev pub limited_line : SetLists → Stop → List ℕ
limited_line sets (Budget pivots) = line (codes "uncertified budget " ++ decimal pivots)
limited_line sets (Width place) = line (codes "uncertified width " ++ limited_place sets place)
limited_line sets (Trial number stop) = line (codes "uncertified trial " ++ decimal number ++ codes " " ++ limited_trial sets stop)
