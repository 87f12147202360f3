-- How a conflict is found: the inequalities that a refutation uses are tried one after another.
use Rattle.std.specs.Prelude.{◌≡◌, ℕ, ◌+◌, Bool, true, not, ◌&&◌, List, [], ◌∷◌, ◌++◌, map, filter, Option, Some, None, ⊤, if◌then◌else◌}
use Rattle.row_problem.specs.Prelude.{is_eq, Rational, first_wide, Row, RowName, Var, is_zero, row_name_cmp, value_in, valued, names_of, elimination_steps, NoAnswer, Values, Multipliers}
use Rattle.simplex_core.specs.declared.stops.Stop.{Stop}
use Rattle.simplex_core.specs.declared.stops.Stop.TheVariants.{Budget, Width, Trial}
use Rattle.simplex_core.specs.declared.stops.TrialStop.TheVariants as trials
use Rattle.row_problem.specs.Sizes.{is_unequal}
use Rattle.certified_answers.specs.declared.answers.NoAnswer.TheVariants as stops
use Rattle.conflict_sets.specs.Trials.{HasNone, HasPlan, IsPivotDue, IsWide, trial_end}
use Rattle.conflict_sets.specs.declared.conflict.Conflict.{Conflict}
use Rattle.conflict_sets.specs.declared.conflict.ExplainFail.{ExplainFail}
use Rattle.conflict_sets.specs.declared.conflict.ExplainFail.TheVariants as fails

-- ---- the list

-- every inequality
abbrev pub every : RowName → Bool
every name = true

-- the inequalities with a multiplier other than 0: the list, once a trial was refuted by these multipliers
abbrev pub is_listed : Multipliers → RowName → Bool
is_listed multipliers name = not (is_zero (value_in row_name_cmp multipliers name).top)

-- the list without one of them
abbrev pub is_other : Multipliers → RowName → RowName → Bool
is_other multipliers left_out name = is_listed multipliers name && not (is_eq (row_name_cmp name left_out))

-- the names of the inequalities on the list, in the order of rows
abbrev pub listed_names : Multipliers → List Row → List RowName
listed_names multipliers rows = names_of (filter (λ row. is_unequal row.sense && is_listed multipliers row.name) rows)

-- ---- what is found

-- that all rows have a plan; inequalities that can't be met together, each with its multiplier, and for each a plan of the others; or why a trial stopped
pub data Explanation : Type 0 where
  IsFeasible : Explanation
  IsConflicting : (members : Multipliers) (plans : List Values) → Explanation
  IsStopped : (stop : Stop) → Explanation

-- an inequality without which there was a plan, and the plan
abbrev pub Needed : Type 0
Needed = RowName × Values

-- those that are still on the list
abbrev pub still_needed : Multipliers → List Needed → List Needed
still_needed multipliers needed = filter (λ one. is_listed multipliers one.0) needed

abbrev pub member_of : Multipliers → Needed → RowName × Rational
member_of multipliers one = (one.0, value_in row_name_cmp multipliers one.0)

abbrev pub plan_of : Needed → Values
plan_of one = one.1

abbrev pub found : Multipliers → List Needed → Explanation
found multipliers needed = IsConflicting (map (member_of multipliers) (still_needed multipliers needed)) (map plan_of (still_needed multipliers needed))

-- ---- the trials

-- Each of these inequalities in turn, where it is still on the list, is left out in a trial, the next of which has the number k. Where the others have no plan, the multipliers
-- that refute them make the new list; else the inequality is needed.
unfoldable pub walk : List Row → List (Option Var) → List Var → ℕ → ℕ → List RowName → Multipliers → List Needed → Explanation
walk rows defs vars pivots k [] multipliers needed = found multipliers needed
walk rows defs vars pivots k (name ∷ names) multipliers needed =
    if is_listed multipliers name
    then elim (trial_end (is_other multipliers name) rows defs vars pivots) [
      | HasPlan plan ↦ walk rows defs vars pivots (k + 1) names multipliers (needed ++ (name, plan) ∷ [])
      | HasNone made ↦ walk rows defs vars pivots (k + 1) names made needed
      | IsPivotDue ↦ IsStopped (Trial k (trials.Budget pivots))
      | IsWide place ↦ IsStopped (Trial k (trials.Width place))
    ]
    else walk rows defs vars pivots k names multipliers needed

-- trial 0 has every inequality, and its refutation makes the first list
unfoldable pub explained : List Row → List (Option Var) → List Var → ℕ → Explanation
explained rows defs vars pivots =
    elim (trial_end every rows defs vars pivots) [
      | HasPlan plan ↦ IsFeasible
      | HasNone made ↦ walk rows defs vars pivots 1 (listed_names made rows) made []
      | IsPivotDue ↦ IsStopped (Budget pivots)
      | IsWide place ↦ IsStopped (Width place)
    ]

-- ---- what is answered

abbrev pub explanation_seen : Option Conflict → Explanation
explanation_seen None = IsFeasible
explanation_seen (Some conflict) = IsConflicting (map valued conflict.members.items) conflict.plans.items

-- the stop is that of the first trial that stopped; out of memory has no cause
abbrev pub Stops : Explanation → ExplainFail → Type 0
Stops end (fails.Stopped stop) = end ≡ IsStopped stop
Stops end fails.Memory = ⊤

-- why the trial of this number stopped, and why the first did; no trial stops with nothing
abbrev pub IsTrialFail : ℕ → ℕ → NoAnswer → ExplainFail → Type 0
IsTrialFail k pivots stops.Nothing fail = ⊥
IsTrialFail k pivots stops.Budget fail = fail ≡ fails.Stopped (Trial k (trials.Budget pivots))
IsTrialFail k pivots (stops.Width place) fail = fail ≡ fails.Stopped (Trial k (trials.Width place))
IsTrialFail k pivots stops.Memory fail = fail ≡ fails.Memory

abbrev pub IsFirstFail : ℕ → NoAnswer → ExplainFail → Type 0
IsFirstFail pivots stops.Nothing fail = ⊥
IsFirstFail pivots stops.Budget fail = fail ≡ fails.Stopped (Budget pivots)
IsFirstFail pivots (stops.Width place) fail = fail ≡ fails.Stopped (Width place)
IsFirstFail pivots stops.Memory fail = fail ≡ fails.Memory

-- ---- with the elimination before

-- the elimination is made once, before all trials
abbrev pub explanation : List Row → List (Option Var) → List Var → ℕ → Explanation
explanation rows defs vars pivots = elim (first_wide (elimination_steps rows defs)) [ None ↦ explained rows defs vars pivots | Some place ↦ IsStopped (Width place) ]
