-- What `curve` writes, and what it ends with.
use Rattle.std.specs.Prelude.{ℕ, ◌+◌, ℤ, pos, List, [], ◌∷◌, ◌++◌, codes, Option, Some, None}
use Rattle.std.specs.List.{flat_map}
use Rattle.exact_num.specs.Rational.{Rational, lowest}
use Rattle.model_sets.specs.Members.{SetLists}
use Rattle.mps_writer.specs.MpsText.{line}
use Rattle.param_tables.specs.Ranges.{billion}
use Rattle.scaled_decimals.specs.PrintedFraction.{fraction_text}
use Rattle.scaled_decimals.specs.PrintedPlaces.{places_text}
use Rattle.simplex_core.specs.declared.stops.Stop.{Stop}
use Rattle.simplex_core.specs.declared.stops.Stop.TheVariants.{Trial}
use Rattle.command_answers.specs.declared.status.Status.{Status}
use Rattle.command_answers.specs.declared.status.Status.TheVariants.{Done, Uncertified}
use Rattle.command_answers.specs.Lines.{trial_text}
use Rattle.emission_curve.specs.Ends.{HasLine, HasLineBelow, HasNoBound, HasNoPlan, IsStopped, PointEnd}

-- a cost as a fraction, and rounded to six decimal places
abbrev pub amount_text : Rational → List ℕ
amount_text amount = fraction_text amount ++ codes " " ++ places_text amount

abbrev pub slope_text : Rational → List ℕ
slope_text slope = codes " slope " ++ fraction_text slope

-- what is said of an end
abbrev pub end_text : SetLists → PointEnd → List ℕ
end_text sets (HasLine cost slope) = codes "cost " ++ amount_text cost ++ slope_text slope
end_text sets (HasLineBelow cost bound slope) = codes "cost " ++ amount_text cost ++ codes " bound " ++ amount_text bound ++ slope_text slope
end_text sets HasNoPlan = codes "infeasible"
end_text sets HasNoBound = codes "unbounded"
end_text sets (IsStopped stop) = codes "uncertified " ++ trial_text sets stop

-- a limit in billionths, and what its trial came to
abbrev pub Found : Type 0
Found = ℤ × PointEnd

-- the line of a limit, which is written as a fraction
abbrev pub limit_line : SetLists → Found → List ℕ
limit_line sets found = line (codes "limit " ++ fraction_text (lowest found.0 (pos billion)) ++ codes " " ++ end_text sets found.1)

-- each limit's line in turn
abbrev pub curve_text : SetLists → List Found → List ℕ
curve_text sets all = flat_map (limit_line sets) all ++ line (codes "end")

-- why the trial stopped, if it did, by its number
abbrev pub stop_of : ℕ → PointEnd → Option Stop
stop_of number (HasLine cost slope) = None
stop_of number (HasLineBelow cost bound slope) = None
stop_of number HasNoPlan = None
stop_of number HasNoBound = None
stop_of number (IsStopped stop) = Some (Trial number stop)

abbrev pub else_stop : Option Stop → Option Stop → Option Stop
else_stop None later = later
else_stop (Some stop) later = Some stop

-- the first trial that stopped, where the first of these has this number
abbrev pub first_stop : ℕ → List Found → Option Stop
first_stop number [] = None
first_stop number (found ∷ all) = else_stop (stop_of number found.1) (first_stop (number + 1) all)

-- every trial came to its end, or the first that didn't
abbrev pub status_for : Option Stop → Status
status_for None = Done
status_for (Some stop) = Uncertified stop

-- the trials count from 1
abbrev pub curve_status : List Found → Status
curve_status all = status_for (first_stop 1 all)
