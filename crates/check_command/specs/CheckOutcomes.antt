-- What the checks of a plan, a bound and a gap come to, over the rows of the named equations.
use Rattle.std.specs.Prelude.{◌≡◌, ℕ, List, Option, Some, None, ⊤}
use Rattle.std.specs.Option.{option_map}
use Rattle.exact_num.specs.Rational.{Rational, minus}
use Rattle.exact_num.specs.Value.{value_of}
use Rattle.model_sets.specs.Data.{Data}
use Rattle.model_sets.specs.Members.{SetLists}
use Rattle.row_core.specs.declared.Row.{Row}
use Rattle.row_core.specs.declared.RowName.{RowName}
use Rattle.row_core.specs.declared.Var.{Var}
use Rattle.named_equations.specs.Existence.{all_variables}
use Rattle.certificate_checker.specs.Conditions.{AllPass, FailsFor, IsWideAt}
use Rattle.certificate_checker.specs.Costs.{model_cost}
use Rattle.certificate_checker.specs.MultiplierChecks.{bound_conditions}
use Rattle.certificate_checker.specs.PlanChecks.{plan_conditions}
use Rattle.certificate_checker.specs.Reasons.{reason_of}
use Rattle.check_command.specs.declared.outcome.Bound.{Bound}
use Rattle.check_command.specs.declared.outcome.Outcome.{Outcome}
use Rattle.check_command.specs.declared.outcome.Outcome.TheVariants.{Accepted, Rejected, Wide}
use Rattle.command_answers.specs.declared.proved.Worth.{Worth}
use Rattle.command_answers.specs.declared.status.Status.{Status}
use Rattle.command_answers.specs.declared.status.Status.TheVariants.{Done, Uncertified}
use Rattle.simplex_core.specs.declared.stops.Stop.TheVariants.{Width}
use Rattle.command_answers.specs.Lines.{uncertified_line}
use Rattle.check_command.specs.CheckLines.{accepted_text, rejected_line}
use Rattle.check_command.specs.Check.{IsBounded, check_conditions, multiplier_bound, plan_cost}
use Rattle.command_answers.specs.PlacesWithin.{PlaceIsWithin, RejectionIsWithin}
use Rattle.command_answers.specs.CheckedPlans.{AreFeasible, AreNotFeasible, BoundsFeasible}

-- the bound is the multipliers', and the gap is the cost less it; without multipliers there is neither
abbrev pub TellsBound : Data → List Row → List (Var × Rational) → Option (List (RowName × Rational)) → Option Bound → Type 0
TellsBound d rows plan None None = ⊤
TellsBound d rows plan None (Some bound) = ⊥
TellsBound d rows plan (Some multipliers) None = ⊥
TellsBound d rows plan (Some multipliers) (Some bound) =
    (value_of bound.bound ≡ multiplier_bound rows multipliers) × (value_of bound.gap ≡ minus (plan_cost d plan) (multiplier_bound rows multipliers))

abbrev pub IsOutcome : ℕ → Data → List Row → List (Var × Rational) → Option (List (RowName × Rational)) → ℕ → Outcome → Type 0
IsOutcome places d rows plan multipliers gap (Accepted cost bound) =
    AllPass (check_conditions d rows plan multipliers gap) × AreFeasible places d plan (plan_cost d plan) × IsBounded places d rows plan multipliers gap
    × (value_of cost ≡ plan_cost d plan) × TellsBound d rows plan multipliers bound
IsOutcome places d rows plan multipliers gap (Rejected rejection) =
    FailsFor (check_conditions d rows plan multipliers gap) (reason_of rejection)
    × (FailsFor (plan_conditions model_cost rows (all_variables d) plan) (reason_of rejection) → AreNotFeasible places d plan)
IsOutcome places d rows plan multipliers gap (Wide place) = IsWideAt (check_conditions d rows plan multipliers gap) place

-- the conditions on the plan hold: it is feasible and costs so much
pub record IsCheckedPlan (places : ℕ) (d : Data) (rows : List Row) (plan : List (Var × Rational)) (cost : Rational) : Type 0 where
  pub pass : AllPass (plan_conditions model_cost rows (all_variables d) plan)
  pub feasible : AreFeasible places d plan (plan_cost d plan)
  pub cost_is : cost ≡ plan_cost d plan

-- the conditions on the multipliers hold: no plan costs less than the bound
pub record IsCheckedBound (places : ℕ) (d : Data) (rows : List Row) (multipliers : List (RowName × Rational)) (bound : Rational) : Type 0 where
  pub pass : AllPass (bound_conditions model_cost rows (all_variables d) multipliers)
  pub bounds : BoundsFeasible places d (multiplier_bound rows multipliers)
  pub bound_is : bound ≡ multiplier_bound rows multipliers

-- the values of a bound and of the gap to it
abbrev pub bound_values : Bound → Rational × Rational
bound_values bound = (value_of bound.bound, value_of bound.gap)

-- the cost and the bound, where both are accepted
abbrev pub worth_of : Outcome → Option Worth
worth_of (Accepted cost None) = None
worth_of (Accepted cost (Some bound)) = Some (record { cost = cost; bound = bound.bound })
worth_of (Rejected rejection) = None
worth_of (Wide place) = None

-- the status and the text tell the outcome
abbrev pub TellsOutcome : SetLists → Outcome → Status → List ℕ → Type 0
TellsOutcome sets (Accepted cost bound) status text = (status ≡ Done) × (text ≡ accepted_text (value_of cost) (option_map bound_values bound))
TellsOutcome sets (Rejected rejection) status text = (status ≡ Status.Rejected rejection) × (text ≡ rejected_line sets rejection)
TellsOutcome sets (Wide place) status text = (status ≡ Uncertified (Width place)) × (text ≡ uncertified_line sets (Width place))

-- the row or the variable of which the outcome speaks is one of the sets
abbrev pub OutcomeIsWithin : SetLists → Outcome → Type 0
OutcomeIsWithin sets (Accepted cost bound) = ⊤
OutcomeIsWithin sets (Rejected rejection) = RejectionIsWithin sets rejection
OutcomeIsWithin sets (Wide place) = PlaceIsWithin sets place
