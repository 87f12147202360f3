-- Places and rejections whose names can be written: of an equation or a kind of the lists, with the positions of members as subscripts.
use Rattle.std.specs.Prelude.{⊤}
use Rattle.model_sets.specs.Members.{SetLists}
use Rattle.row_core.specs.declared.RowName.{RowName}
use Rattle.row_core.specs.declared.Var.{Var}
use Rattle.row_core.specs.declared.place.Place.{Place}
use Rattle.row_core.specs.declared.place.Place.TheVariants.{Expand, CostRow, Pivot, LiftPlan, LiftMultiplier, LiftDirection, Check, Column, SumCost, SumBound, SumGap, Price}
use Rattle.row_core.specs.Equations.{IsEquation}
use Rattle.row_core.specs.Kinds.{IsKind}
use Rattle.row_core.specs.NameTexts.{RowNameIsWithin, VariableIsWithin}
use Rattle.certificate_checker.specs.declared.verdicts.Rejection.{Rejection}
use Rattle.certificate_checker.specs.Reasons.{Reason, reason_of}
use Rattle.certificate_checker.specs.Reasons as reasons
use Rattle.simplex_core.specs.declared.stops.Stop.{Stop}
use Rattle.simplex_core.specs.declared.stops.Stop.TheVariants as stops
use Rattle.simplex_core.specs.declared.stops.TrialStop.{TrialStop}
use Rattle.simplex_core.specs.declared.stops.TrialStop.TheVariants as trials
use Rattle.plan_files.specs.declared.faults.PlanFault.{PlanFault}
use Rattle.plan_files.specs.declared.faults.PlanFault.TheVariants as faults

abbrev pub IsRowOfSets : SetLists → RowName → Type 0
IsRowOfSets sets name = IsEquation name.eq × RowNameIsWithin sets name

abbrev pub IsVariableOfSets : SetLists → Var → Type 0
IsVariableOfSets sets v = IsKind v.kind × VariableIsWithin sets v

-- ---- places

-- the rows of a place pass a test of names, and its variables are of the sets
abbrev pub PlaceKeeps : SetLists → (RowName → Type 0) → Place → Type 0
PlaceKeeps sets Passes (Place.Row name) = Passes name
PlaceKeeps sets Passes (Expand name) = Passes name
PlaceKeeps sets Passes CostRow = ⊤
PlaceKeeps sets Passes (Pivot number) = ⊤
PlaceKeeps sets Passes (LiftPlan v) = IsVariableOfSets sets v
PlaceKeeps sets Passes (LiftMultiplier name) = Passes name
PlaceKeeps sets Passes (LiftDirection v) = IsVariableOfSets sets v
PlaceKeeps sets Passes (Check name) = Passes name
PlaceKeeps sets Passes (Column v) = IsVariableOfSets sets v
PlaceKeeps sets Passes SumCost = ⊤
PlaceKeeps sets Passes SumBound = ⊤
PlaceKeeps sets Passes SumGap = ⊤
PlaceKeeps sets Passes (Price name) = Passes name

-- the stop of a trial, and any stop, with such a place, if it has one
abbrev pub TrialKeeps : SetLists → (RowName → Type 0) → TrialStop → Type 0
TrialKeeps sets Passes (trials.Budget pivots) = ⊤
TrialKeeps sets Passes (trials.Width place) = PlaceKeeps sets Passes place

abbrev pub StopKeeps : SetLists → (RowName → Type 0) → Stop → Type 0
StopKeeps sets Passes (stops.Budget pivots) = ⊤
StopKeeps sets Passes (stops.Width place) = PlaceKeeps sets Passes place
StopKeeps sets Passes (stops.Trial number stop) = TrialKeeps sets Passes stop

-- ---- of rows of the sets

-- a place of which the name can be written, and a stop with such a place, if it has one
abbrev pub PlaceIsWithin : SetLists → Place → Type 0
PlaceIsWithin sets place = PlaceKeeps sets (IsRowOfSets sets) place

abbrev pub TrialIsWithin : SetLists → TrialStop → Type 0
TrialIsWithin sets stop = TrialKeeps sets (IsRowOfSets sets) stop

abbrev pub StopIsWithin : SetLists → Stop → Type 0
StopIsWithin sets stop = StopKeeps sets (IsRowOfSets sets) stop

-- ---- rejections and faults

-- what a check of plans and bounds says: nothing of directions, and nothing of plans that don't exist
abbrev pub ReasonIsWithin : SetLists → Reason → Type 0
ReasonIsWithin sets (reasons.row_missed name amount) = IsRowOfSets sets name
ReasonIsWithin sets (reasons.below_zero v) = IsVariableOfSets sets v
ReasonIsWithin sets (reasons.wrongly_signed name) = IsRowOfSets sets name
ReasonIsWithin sets (reasons.column_off v amount) = IsVariableOfSets sets v
ReasonIsWithin sets reasons.cost_not_negative = ⊥
ReasonIsWithin sets reasons.sum_not_positive = ⊥
ReasonIsWithin sets (reasons.gap_passed amount) = ⊤

abbrev pub RejectionIsWithin : SetLists → Rejection → Type 0
RejectionIsWithin sets rejection = ReasonIsWithin sets (reason_of rejection)

-- a fault of a file: a variable that is missing is one of the sets
abbrev pub FaultIsWithin : SetLists → PlanFault → Type 0
FaultIsWithin sets (faults.BadRecord number) = ⊤
FaultIsWithin sets (faults.UnknownVar number) = ⊤
FaultIsWithin sets (faults.Twice number) = ⊤
FaultIsWithin sets (faults.BadValue number) = ⊤
FaultIsWithin sets (faults.Missing v) = IsVariableOfSets sets v
