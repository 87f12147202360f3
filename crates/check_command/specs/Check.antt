-- What `check` says over accepted data of a plan and of multipliers: the first rule that a file breaks, the first condition that fails, the place of the
-- first number that doesn't fit, or that the plan is feasible, with what it costs and how far that is from a bound.
use Rattle.std.specs.Prelude.{◌≡◌, ℕ, List, [], ◌∷◌, ◌++◌, ◌⊎◌, Option, Some, None, ⊤}
use Rattle.std.specs.Option.{option_map}
use Rattle.exact_num.specs.Rational.{Rational, minus}
use Rattle.model_sets.specs.Data.{Data}
use Rattle.row_core.specs.declared.Row.{Row}
use Rattle.row_core.specs.declared.RowName.{RowName}
use Rattle.row_core.specs.declared.Var.{Var}
use Rattle.row_core.specs.declared.place.Place.{Place}
use Rattle.row_core.specs.Order.{var_cmp, row_name_cmp}
use Rattle.row_core.specs.Plans.{value_in}
use Rattle.named_equations.specs.Existence.{all_variables}
use Rattle.named_equations.specs.Instances.{instances}
use Rattle.certificate_checker.specs.declared.verdicts.Rejection.{Rejection}
use Rattle.certificate_checker.specs.Conditions.{Condition, AllPass, FailsFor, IsWideAt}
use Rattle.certificate_checker.specs.Costs.{cost_value, model_cost}
use Rattle.certificate_checker.specs.Gaps.{Within, gap_condition}
use Rattle.certificate_checker.specs.MultiplierChecks.{bound_conditions, bound_value}
use Rattle.certificate_checker.specs.PlanChecks.{plan_conditions}
use Rattle.certificate_checker.specs.Reasons.{reason_of}
use Rattle.plan_files.specs.declared.faults.PlanFault.{PlanFault}
use Rattle.plan_files.specs.Answers.{AreMultipliers, IsMultiplierFault, IsPlan, IsPlanFault}
use Rattle.plan_files.specs.Files.{records_of}
use Rattle.command_answers.specs.declared.status.Status.{Status}
use Rattle.command_answers.specs.declared.status.Status.TheVariants.{Done, Uncertified, Refused, Rejected}
use Rattle.command_answers.specs.declared.status.Refusal.TheVariants.{MultiplierFile, PlanFile}
use Rattle.simplex_core.specs.declared.stops.Stop.TheVariants.{Width}
use Rattle.check_command.specs.CheckLines.{accepted_text, rejected_line}
use Rattle.command_answers.specs.PlanFaultLines.{multiplier_fault_line, plan_fault_line}
use Rattle.command_answers.specs.CheckedPlans.{AreFeasible, AreNotFeasible, BoundsFeasible}
use Rattle.command_answers.specs.Lines.{uncertified_line}
use Rattle.command_answers.specs.MadeRows.{IsMadeFor, IsTooLarge, IsUncertified}

-- ---- what is looked at

-- the cost of values, and the bound of multipliers, as the checks add them up
abbrev pub plan_cost : Data → List (Var × Rational) → Rational
plan_cost d plan = cost_value model_cost (all_variables d) (value_in var_cmp plan)

abbrev pub multiplier_bound : List Row → List (RowName × Rational) → Rational
multiplier_bound rows multipliers = bound_value rows (value_in row_name_cmp multipliers)

-- the bound, and the cost less the bound
abbrev pub bound_and_gap : Data → List Row → List (Var × Rational) → List (RowName × Rational) → Rational × Rational
bound_and_gap d rows plan multipliers = (multiplier_bound rows multipliers, minus (plan_cost d plan) (multiplier_bound rows multipliers))

-- the conditions in order: the plan's, and with multipliers the bound's and the gap's
abbrev pub check_conditions : Data → List Row → List (Var × Rational) → Option (List (RowName × Rational)) → ℕ → List Condition
check_conditions d rows plan None gap = plan_conditions model_cost rows (all_variables d) plan
check_conditions d rows plan (Some multipliers) gap =
    plan_conditions model_cost rows (all_variables d) plan
    ++ (bound_conditions model_cost rows (all_variables d) multipliers ++ gap_condition (plan_cost d plan) (multiplier_bound rows multipliers) gap ∷ [])

-- ---- the plan is accepted

-- no plan costs less than the bound, and the cost is within the gap of it; without multipliers nothing is said
abbrev pub IsBounded : ℕ → Data → List Row → List (Var × Rational) → Option (List (RowName × Rational)) → ℕ → Type 0
IsBounded places d rows plan None gap = ⊤
IsBounded places d rows plan (Some multipliers) gap =
    BoundsFeasible places d (multiplier_bound rows multipliers) × Within (plan_cost d plan) (multiplier_bound rows multipliers) gap

pub record IsAccepted (places : ℕ) (d : Data) (rows : List Row) (plan : List (Var × Rational)) (multipliers : Option (List (RowName × Rational))) (gap : ℕ) (status : Status) (text : List ℕ) : Type 0 where
  pub pass : AllPass (check_conditions d rows plan multipliers gap)
  pub feasible : AreFeasible places d plan (plan_cost d plan)
  pub bounded : IsBounded places d rows plan multipliers gap
  pub status_is : status ≡ Done
  pub text_is : text ≡ accepted_text (plan_cost d plan) (option_map (bound_and_gap d rows plan) multipliers)

-- ---- it isn't

-- the first condition that fails is this one; where it is one of the plan's, the plan isn't feasible
pub record IsRejected (places : ℕ) (d : Data) (rows : List Row) (plan : List (Var × Rational)) (multipliers : Option (List (RowName × Rational))) (gap : ℕ) (status : Status) (text : List ℕ) : Type 0 where
  pub rejection : Rejection
  pub fails : FailsFor (check_conditions d rows plan multipliers gap) (reason_of rejection)
  pub infeasible : FailsFor (plan_conditions model_cost rows (all_variables d) plan) (reason_of rejection) → AreNotFeasible places d plan
  pub status_is : status ≡ Rejected rejection
  pub line_is : text ≡ rejected_line d.sets rejection

-- the first number that doesn't fit is formed at this place
pub record IsTooWideToCheck (d : Data) (cs : List Condition) (status : Status) (text : List ℕ) : Type 0 where
  pub place : Place
  pub wide : IsWideAt cs place
  pub status_is : status ≡ Uncertified (Width place)
  pub line_is : text ≡ uncertified_line d.sets (Width place)

-- what is due of a plan and of multipliers that were read
abbrev pub DueForPlan : ℕ → Data → List Row → List (Var × Rational) → Option (List (RowName × Rational)) → ℕ → Status → List ℕ → Type 0
DueForPlan places d rows plan multipliers gap status text =
    IsAccepted places d rows plan multipliers gap status text
    ⊎ IsRejected places d rows plan multipliers gap status text
    ⊎ IsTooWideToCheck d (check_conditions d rows plan multipliers gap) status text

-- ---- the files

-- the plan's file breaks this rule first
pub record RefusesPlan (d : Data) (bytes : List ℕ) (status : Status) (text : List ℕ) : Type 0 where
  pub fault : PlanFault
  pub first : IsPlanFault d.sets (all_variables d) (records_of bytes) fault
  pub status_is : status ≡ Refused (PlanFile fault)
  pub line_is : text ≡ plan_fault_line d.sets fault

-- the file of multipliers does
pub record RefusesMultipliers (d : Data) (bytes : List ℕ) (status : Status) (text : List ℕ) : Type 0 where
  pub fault : PlanFault
  pub first : IsMultiplierFault d.sets (instances d) (records_of bytes) fault
  pub status_is : status ≡ Refused (MultiplierFile fault)
  pub line_is : text ≡ multiplier_fault_line d.sets fault

-- the bytes of a file of multipliers, if one is named, are these multipliers
abbrev pub TellsMultipliers : Data → Option (List ℕ) → Option (List (RowName × Rational)) → Type 0
TellsMultipliers d None multipliers = multipliers ≡ None
TellsMultipliers d (Some bytes) multipliers = (told : List (RowName × Rational)) × (multipliers ≡ Some told) × AreMultipliers d.sets (instances d) (records_of bytes) told

-- what is due with a file of multipliers, if one is named, where the plan was read
abbrev pub DueForMultiplierFile : ℕ → Data → List Row → List (Var × Rational) → Option (List ℕ) → ℕ → Status → List ℕ → Type 0
DueForMultiplierFile places d rows plan file gap status text =
    ((bytes : List ℕ) × (file ≡ Some bytes) × RefusesMultipliers d bytes status text)
    ⊎ ((multipliers : Option (List (RowName × Rational))) × TellsMultipliers d file multipliers × DueForPlan places d rows plan multipliers gap status text)

-- what is due with the file of a plan
abbrev pub DueForPlanFile : ℕ → Data → List Row → List ℕ → Option (List ℕ) → ℕ → Status → List ℕ → Type 0
DueForPlanFile places d rows plan_bytes multiplier_bytes gap status text =
    RefusesPlan d plan_bytes status text
    ⊎ ((plan : List (Var × Rational)) × IsPlan d.sets (all_variables d) (records_of plan_bytes) plan × DueForMultiplierFile places d rows plan multiplier_bytes gap status text)

-- What is due over these data, for a plan's file, a file of multipliers if one is named, and a gap in millionths.
abbrev pub DueForCheck : ℕ → List ℕ → Option (List ℕ) → ℕ → Data → Status → List ℕ → Type 0
DueForCheck places plan_bytes multiplier_bytes gap d status text =
    IsMadeFor places d (λ rows. DueForPlanFile places d rows plan_bytes multiplier_bytes gap status text)
    ⊎ IsUncertified places d status text ⊎ IsTooLarge places d status text
