-- The place at which a trial stops is that of a row or a variable of the sets, so its name can be written.
use Rattle.explain_command.proofs.Common.{◌≡◌, ℕ, ◌+◌, Bool, true, false, List, [], ◌∷◌, ◌++◌, map, filter, Option, Some, None, inl, inr, refl, sym, subst, if◌then◌else◌, ⊤, AllByRecursion, Rational, Step, first_wide, SetLists, Row, RowName, Var, Place, HasNameWithin, IsWithinSets, AllByRecursion-filter, AllByRecursion-from_map, AllByRecursion-map, AllByRecursion-weaker, ReducedRow, elimination_steps, is_column, Stop, Budget, Width, Trial, definers, IsRowOfSets, IsVariableOfSets, PlaceIsWithin, StopIsWithin, is_taken, HasNone, HasPlan, IsPivotDue, IsWide, TrialEnd, carried_trial, plan_checks, rows_tried, rows_with, trial_end, trial_program, tried_multipliers, tried_steps, unless_stopped, IsStopOfSome, Explanation, IsFeasible, IsStopped, Needed, every, explained, explanation, is_listed, is_other, listed_names, walk, SolveMethod, Exact, Rounded, IsCauseOf}
use Rattle.certificate_checker.specs.Costs.{model_cost}
use Rattle.written_method.specs.Definitions.{definitions_of}
use Rattle.written_method.specs.Multiplied.{scaled_multipliers, scaled_steps}
use Rattle.written_method.specs.Solved.{IsInfeasible, IsOptimal, IsOutOfPivots, IsTooWide, IsUnbounded, Outcome, solved}
use Rattle.simplex_core.specs.declared.stops.TrialStop.TheVariants as trials
use Rattle.row_problem.specs.Programs.{carried_plan, name_left, plan_steps, rows_left, scale_left}
use Rattle.command_answers.proofs.KeptPlaces.{AreStepsKept, DefinesKept, OutcomeIsKept, all-passed, both-kept, defined-kept, definitions-kept, elimination-kept, names-left, plan-kept, plan-steps-kept, refutation-checked, scaled-kept, solved-kept, wide-kept}

module _ (sets : SetLists) (rows : List Row) (vars : List Var) (define : AllByRecursion (DefinesKept sets (IsRowOfSets sets)) rows) (listed_vars : AllByRecursion (IsWithinSets sets) vars) where
  named : AllByRecursion (HasNameWithin sets) rows
  named = all-passed sets (IsRowOfSets sets) rows define

  -- ---- one trial

  module _ (listed : RowName → Bool) where
    trial-named : AllByRecursion (HasNameWithin sets) (rows_with listed rows)
    trial-named =
        AllByRecursion-weaker (λ row. HasNameWithin sets row × (is_taken listed row ≡ true)) (HasNameWithin sets) (λ row of. of.0) (rows_with listed rows)
        (AllByRecursion-filter (HasNameWithin sets) (is_taken listed) rows named)

    plan-checked : (plan : List (Var × Rational)) → AreStepsKept sets (IsRowOfSets sets) (plan_checks listed rows vars plan)
    plan-checked plan = plan-kept sets (IsRowOfSets sets) (rows_with listed rows) vars trial-named listed_vars model_cost plan

    names-tried : AllByRecursion (IsRowOfSets sets) (map name_left (rows_tried listed rows (definers rows)))
    names-tried =
        AllByRecursion-map (IsRowOfSets sets) name_left (rows_tried listed rows (definers rows))
        (AllByRecursion-weaker (λ (r : ReducedRow). IsRowOfSets sets r.name × (listed r.name ≡ true)) (λ r. IsRowOfSets sets r.name) (λ r of. of.0) (rows_tried listed rows (definers rows))
        (AllByRecursion-filter (λ (r : ReducedRow). IsRowOfSets sets r.name) (λ (r : ReducedRow). listed r.name) (rows_left rows (definers rows)) (AllByRecursion-from_map (IsRowOfSets sets) name_left (rows_left rows (definers rows)) (names-left sets (IsRowOfSets sets) rows define))))

    tried-within : (lambda : List Rational) → AreStepsKept sets (IsRowOfSets sets) (tried_steps listed rows (definers rows) lambda)
    unfolding tried_steps
    tried-within lambda =
        let names = map name_left (rows_tried listed rows (definers rows)) in
        let scales = map scale_left (rows_tried listed rows (definers rows)) in
        both-kept sets (IsRowOfSets sets) (scaled_steps names scales lambda) _ (scaled-kept sets (IsRowOfSets sets) names scales lambda names-tried)
        (defined-kept sets (IsRowOfSets sets) false rows (definitions_of rows (definers rows)) (scaled_multipliers names scales lambda []) (definitions-kept sets (IsRowOfSets sets) rows define))

    abbrev TrialIsNamed : TrialEnd → Type 0
    TrialIsNamed (IsWide place) = PlaceIsWithin sets place
    TrialIsNamed end = ⊤

    unless-named : (ss : List (Step Place)) (end : TrialEnd) → AreStepsKept sets (IsRowOfSets sets) ss → TrialIsNamed end → TrialIsNamed (unless_stopped (first_wide ss) end)
    unless-named ss end within ends = cases (first_wide ss) refl
      where
        cases : (wide : Option Place) → first_wide ss ≡ wide → TrialIsNamed (unless_stopped wide end)
        cases None is = ends
        cases (Some place) is = wide-kept sets (IsRowOfSets sets) ss place within is

    planned-named : (values : List (Var × Rational)) → TrialIsNamed (unless_stopped (first_wide (plan_steps rows (definers rows) values ++ plan_checks listed rows vars (carried_plan rows (definers rows) values))) (HasPlan (carried_plan rows (definers rows) values)))
    planned-named values = unless-named _ (HasPlan (carried_plan rows (definers rows) values)) (both-kept sets (IsRowOfSets sets) _ _ (plan-steps-kept sets (IsRowOfSets sets) rows define values) (plan-checked (carried_plan rows (definers rows) values))) tt

    carried-named : (outcome : Outcome) → OutcomeIsKept sets (IsRowOfSets sets) outcome → TrialIsNamed (carried_trial listed rows (definers rows) vars outcome)
    carried-named (IsOptimal values lambda pivots) of = planned-named values
    carried-named (IsInfeasible lambda pivots) of =
        unless-named _ (HasNone (tried_multipliers listed rows (definers rows) lambda)) (both-kept sets (IsRowOfSets sets) _ _ (tried-within lambda) (refutation-checked sets (IsRowOfSets sets) rows vars define listed_vars (tried_multipliers listed rows (definers rows) lambda))) tt
    carried-named (IsUnbounded values direction pivots) of = planned-named values
    carried-named IsOutOfPivots of = tt
    carried-named (IsTooWide place) of = of

    columns-within : AllByRecursion (IsVariableOfSets sets) (trial_program listed rows (definers rows) vars).columns
    unfolding trial_program
    columns-within =
        AllByRecursion-weaker (λ v. IsVariableOfSets sets v × (is_column v ≡ true)) (IsVariableOfSets sets) (λ v of. of.0) (filter is_column vars)
        (AllByRecursion-filter (IsVariableOfSets sets) is_column vars listed_vars)

    trial-named_end : (pivots : ℕ) → TrialIsNamed (trial_end listed rows (definers rows) vars pivots)
    unfolding trial_end
    trial-named_end pivots = carried-named (solved pivots (trial_program listed rows (definers rows) vars)) (solved-kept sets (IsRowOfSets sets) (trial_program listed rows (definers rows) vars) columns-within pivots)

  -- ---- all trials

  abbrev ExplanationIsNamed : Explanation → Type 0
  ExplanationIsNamed (IsStopped stop) = StopIsWithin sets stop
  ExplanationIsNamed end = ⊤

  walk-named : (pivots k : ℕ) (names : List RowName) (m : List (RowName × Rational)) (needed : List Needed) → ExplanationIsNamed (walk rows (definers rows) vars pivots k names m needed)
  unfolding walk
  walk-named pivots k [] m needed = tt
  walk-named pivots k (name ∷ names) m needed =
      cases (is_listed m name) (trial_end (is_other m name) rows (definers rows) vars pivots) (trial-named_end (is_other m name) pivots)
      (λ plan. walk-named pivots (k + 1) names m (needed ++ (name, plan) ∷ [])) (λ made. walk-named pivots (k + 1) names made needed) (walk-named pivots k names m needed)
    where
      cases : (t : Bool) (end : TrialEnd) → TrialIsNamed (is_other m name) end
          → ((plan : List (Var × Rational)) → ExplanationIsNamed (walk rows (definers rows) vars pivots (k + 1) names m (needed ++ (name, plan) ∷ [])))
          → ((made : List (RowName × Rational)) → ExplanationIsNamed (walk rows (definers rows) vars pivots (k + 1) names made needed)) → ExplanationIsNamed (walk rows (definers rows) vars pivots k names m needed)
          → ExplanationIsNamed
          (if t
          then elim end as (λ _. Explanation) [
            | HasPlan plan ↦ walk rows (definers rows) vars pivots (k + 1) names m (needed ++ (name, plan) ∷ [])
            | HasNone made ↦ walk rows (definers rows) vars pivots (k + 1) names made needed
            | IsPivotDue ↦ IsStopped (Trial k (trials.Budget pivots))
            | IsWide place ↦ IsStopped (Trial k (trials.Width place))
          ]
          else walk rows (definers rows) vars pivots k names m needed)
      cases true (HasPlan plan) of plans mades skip = plans plan
      cases true (HasNone made) of plans mades skip = mades made
      cases true IsPivotDue of plans mades skip = tt
      cases true (IsWide place) of plans mades skip = of
      cases false end of plans mades skip = skip

  explained-named : (pivots : ℕ) → ExplanationIsNamed (explained rows (definers rows) vars pivots)
  unfolding explained
  explained-named pivots = cases (trial_end every rows (definers rows) vars pivots) (trial-named_end every pivots)
    where
      cases : (end : TrialEnd) → TrialIsNamed every end
          → ExplanationIsNamed
          (elim end as (λ _. Explanation) [
            | HasPlan plan ↦ IsFeasible
            | HasNone made ↦ walk rows (definers rows) vars pivots 1 (listed_names made rows) made []
            | IsPivotDue ↦ IsStopped (Budget pivots)
            | IsWide place ↦ IsStopped (Width place)
          ])
      cases (HasPlan plan) of = tt
      cases (HasNone made) of = walk-named pivots 1 (listed_names made rows) made []
      cases IsPivotDue of = tt
      cases (IsWide place) of = of

  pub elimination-named : (place : Place) → first_wide (elimination_steps rows (definers rows)) ≡ Some place → PlaceIsWithin sets place
  elimination-named place wide = wide-kept sets (IsRowOfSets sets) (elimination_steps rows (definers rows)) place (elimination-kept sets (IsRowOfSets sets) rows define) wide

  explanation-named : (pivots : ℕ) → ExplanationIsNamed (explanation rows (definers rows) vars pivots)
  explanation-named pivots = cases (first_wide (elimination_steps rows (definers rows))) refl
    where
      cases : (wide : Option Place) → first_wide (elimination_steps rows (definers rows)) ≡ wide
          → ExplanationIsNamed (elim wide as (λ _. Explanation) [ None ↦ explained rows (definers rows) vars pivots | Some place ↦ IsStopped (Width place) ])
      cases None is = explained-named pivots
      cases (Some place) is = elimination-named place is

  -- by guesses first, the trial that stops is an exact one
  some-stop-named : (pivots : ℕ) (stop : Stop) → IsStopOfSome rows (definers rows) vars pivots stop → StopIsWithin sets stop
  some-stop-named pivots (Width place) h = subst (TrialIsNamed every) h (trial-named_end every pivots)
  some-stop-named pivots (Trial number (trials.Width place)) h =
      let others = is_other h.1.multipliers h.1.left_out in
      subst (TrialIsNamed others) h.1.ends (trial-named_end others pivots)
  some-stop-named pivots stop h = tt

  pub cause-named : (pivots : ℕ) (stop : Stop) (method : SolveMethod) → IsCauseOf method rows vars pivots (IsStopped stop) → StopIsWithin sets stop
  cause-named pivots stop Exact is = subst ExplanationIsNamed is (explanation-named pivots)
  cause-named pivots stop Rounded (inl first) = subst (StopIsWithin sets) (sym first.2) (elimination-named first.0 first.1)
  cause-named pivots stop Rounded (inr later) = some-stop-named pivots stop later.1
