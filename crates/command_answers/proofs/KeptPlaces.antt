-- The places of the steps that the exact method takes are those of rows that pass a test of names, where all rows do, and of variables of the sets: so the place at which it
-- stops has a name that can be written.
use Rattle.command_answers.proofs.Common.{◌≡◌, ℕ, zero, suc, ℤ, Bool, true, false, if◌then◌else◌, List, [], ◌∷◌, ◌++◌, map, filter, Option, Some, None, inl, inr, refl, subst, cases_Bool, ⊤, AllByRecursion, all_fit, Rational, Step, first_wide, SetLists, Row, RowName, Var, Place, LiftDirection, LiftPlan, var_cmp, IsWithinSets, AllByRecursion-append, AllByRecursion-filter, AllByRecursion-map, AllByRecursion-weaker, model_cost, Definition, definitions_of, others_of, ReducedRow, definition_steps, elimination_steps, expanded_all, is_column, is_kept, reduced_row, row_steps, unscaled, multiplier_bound, plan_cost, Model, One, HasNoBound, HasNoPlan, HasOptimum, IsWide, MethodEnd, carried_end, closing_checks, method_end, optimal_end, refutation_checks, solved_end, unbounded_end, unless_wide, definer, definers, IsVariableOfSets, PlaceKeeps}
use Rattle.std.proofs.lemmas.Option.{same_Some}
use Rattle.std.specs.BTreeMap.{insert_entry}
use Rattle.row_core.specs.Forms.{Form, form_of}
use Rattle.row_core.specs.Plans.{value_in}
use Rattle.certificate_checker.specs.Conditions.{Condition, steps}
use Rattle.certificate_checker.specs.Gaps.{gap_condition}
use Rattle.certificate_checker.specs.MultiplierChecks.{bound_conditions, infeasible_conditions}
use Rattle.certificate_checker.specs.PlanChecks.{direction_conditions, plan_conditions}
use Rattle.written_method.specs.Expanded.{expanded}
use Rattle.written_method.specs.FirstTableau.{first_state}
use Rattle.written_method.specs.Lifted.{lifted_steps, lifted_value, no_right_side, right_side}
use Rattle.written_method.specs.Multiplied.{defined_steps, scaled_multipliers, scaled_steps}
use Rattle.written_method.specs.Programs.{LinearProgram, is_split}
use Rattle.written_method.specs.Rounds.{Due, NoColumn, NoRow, Pivot, State, after, due, step_of}
use Rattle.written_method.specs.Runs.{Answer, End, Ended, Optimal, PivotDue, RanOut, Unbounded, Run, answer, answer_of, ended, no_column, run}
use Rattle.written_method.specs.Solved.{IsInfeasible, IsOptimal, IsOutOfPivots, IsTooWide, IsUnbounded, Outcome, checked_end, end_steps, outcome_of, outcome_of_end, solved}
use Rattle.written_method.specs.Values.{by_variable_steps, column_direction, column_value}
use Rattle.certified_answers.specs.Costs.{is_model, weight_of}
use Rattle.certified_answers.specs.declared.costs.Cost.{Cost}
use Rattle.row_problem.specs.Programs.{carried_direction, carried_multipliers, carried_plan, carrying_steps, direction_steps, name_left, plan_steps, program_left, rows_left, scale_left}

module _ (sets : SetLists) (Passes : RowName → Type 0) where
  -- the places of steps are kept
  abbrev pub AreStepsKept : List (Step Place) → Type 0
  AreStepsKept ss = AllByRecursion (λ (s : Step Place). PlaceKeeps sets Passes s.place) ss

  -- so is the place of the first that forms a number that doesn't fit
  pub wide-kept : (ss : List (Step Place)) (place : Place) → AreStepsKept ss → first_wide ss ≡ Some place → PlaceKeeps sets Passes place
  unfolding first_wide
  wide-kept [] place kept wide = absurd (cc wide)
  wide-kept (s ∷ ss) place kept wide = elim (cases_Bool (all_fit s.formed)) [
    | inl fits ↦ wide-kept ss place kept.1 (rw fits at wide)
    | inr not ↦ subst (PlaceKeeps sets Passes) (same_Some s.place place (rw not at wide)) kept.0
  ]

  pub both-kept : (ss ts : List (Step Place)) → AreStepsKept ss → AreStepsKept ts → AreStepsKept (ss ++ ts)
  both-kept ss ts = AllByRecursion-append (λ (s : Step Place). PlaceKeeps sets Passes s.place) ss ts

  either-kept : (b : Bool) (ss ts : List (Step Place)) → AreStepsKept ss → AreStepsKept ts → AreStepsKept (if b then ss else ts)
  either-kept true ss ts of_ss of_ts = of_ss
  either-kept false ss ts of_ss of_ts = of_ts

  -- ---- the checks

  -- what is formed for a condition, and for the amount that is said where it fails
  abbrev pub AreFormedKept : Condition → Type 0
  AreFormedKept c = AreStepsKept c.seen × AreStepsKept c.amount

  pub steps-kept : (cs : List Condition) → AllByRecursion AreFormedKept cs → AreStepsKept (steps cs)
  steps-kept [] kept = tt
  steps-kept (c ∷ cs) kept = both-kept c.seen (if c.holds then steps cs else c.amount) kept.0.0 (either-kept c.holds (steps cs) c.amount (steps-kept cs kept.1) kept.0.1)

  -- the row passes
  abbrev pub IsPassed : Row → Type 0
  IsPassed row = Passes row.name

  module _ (rows : List Row) (vars : List Var) (named : AllByRecursion IsPassed rows) (listed : AllByRecursion (IsWithinSets sets) vars) where
    -- of the rows, then of the variables, and of a last one
    three-formed : (f : Row → Condition) (g : Var → Condition) (last : Condition) → ((row : Row) → IsPassed row → AreFormedKept (f row)) → ((v : Var) → IsWithinSets sets v → AreFormedKept (g v))
        → AreFormedKept last → AllByRecursion AreFormedKept (map f rows ++ (map g vars ++ last ∷ []))
    three-formed f g last of_row of_var of_last =
        AllByRecursion-append AreFormedKept (map f rows) (map g vars ++ last ∷ [])
        (AllByRecursion-map AreFormedKept f rows (AllByRecursion-weaker IsPassed (λ row. AreFormedKept (f row)) of_row rows named))
        (AllByRecursion-append AreFormedKept (map g vars) (last ∷ [])
        (AllByRecursion-map AreFormedKept g vars (AllByRecursion-weaker (IsWithinSets sets) (λ v. AreFormedKept (g v)) of_var vars listed)) (of_last, tt))

    pub plan-kept : (cost : Var → ℤ) (plan : List (Var × Rational)) → AreStepsKept (steps (plan_conditions cost rows vars plan))
    plan-kept cost plan = steps-kept (plan_conditions cost rows vars plan) (three-formed _ _ _ (λ row of. ((of, tt), tt)) (λ v of. (tt, tt)) ((tt, tt), tt))

    pub direction-kept : (cost : Var → ℤ) (direction : List (Var × Rational)) → AreStepsKept (steps (direction_conditions cost rows vars direction))
    direction-kept cost direction = steps-kept (direction_conditions cost rows vars direction) (three-formed _ _ _ (λ row of. ((of, tt), tt)) (λ v of. (tt, tt)) ((tt, tt), tt))

    pub bound-kept : (cost : Var → ℤ) (multipliers : List (RowName × Rational)) → AreStepsKept (steps (bound_conditions cost rows vars multipliers))
    bound-kept cost multipliers = steps-kept (bound_conditions cost rows vars multipliers) (three-formed _ _ _ (λ row of. (tt, tt)) (λ v of. ((of, tt), (of, tt))) ((tt, tt), tt))

    pub refutation-kept : (multipliers : List (RowName × Rational)) → AreStepsKept (steps (infeasible_conditions rows vars multipliers))
    refutation-kept multipliers = steps-kept (infeasible_conditions rows vars multipliers) (three-formed _ _ _ (λ row of. (tt, tt)) (λ v of. ((of, tt), (of, tt))) ((tt, tt), tt))

  -- ---- definitions

  -- the row passes, and a variable that it defines is of the sets
  abbrev pub DefinesKept : Row → Type 0
  DefinesKept row = Passes row.name × ((v : Var) → definer row ≡ Some v → IsVariableOfSets sets v)

  abbrev pub IsDefinitionKept : Definition → Type 0
  IsDefinitionKept def = Passes def.row.name × IsVariableOfSets sets def.variable

  pub definitions-kept : (rows : List Row) → AllByRecursion DefinesKept rows → AllByRecursion IsDefinitionKept (definitions_of rows (definers rows))
  definitions-kept [] kept = tt
  definitions-kept (row ∷ rows) kept = cases (definer row) refl (definitions-kept rows kept.1)
    where
      cases : (found : Option Var) → definer row ≡ found → AllByRecursion IsDefinitionKept (definitions_of rows (definers rows)) → AllByRecursion IsDefinitionKept (definitions_of (row ∷ rows) (found ∷ definers rows))
      cases None is later = later
      cases (Some v) is later = ((kept.0.0, kept.0.1 v is), later)

  others-kept : (rows : List Row) → AllByRecursion DefinesKept rows → AllByRecursion IsPassed (others_of rows (definers rows))
  others-kept [] kept = tt
  others-kept (row ∷ rows) kept = cases (definer row) (others-kept rows kept.1)
    where
      cases : (found : Option Var) → AllByRecursion IsPassed (others_of rows (definers rows)) → AllByRecursion IsPassed (others_of (row ∷ rows) (found ∷ definers rows))
      cases None later = (kept.0.0, later)
      cases (Some v) later = later

  -- ---- the elimination

  definition-steps-kept : (before : List (Var × Form)) (ds : List Definition) → AllByRecursion IsDefinitionKept ds → AreStepsKept (definition_steps before ds)
  definition-steps-kept before [] kept = tt
  definition-steps-kept before (d ∷ ds) kept = (kept.0.0, definition-steps-kept ((d.variable, (expanded before (unscaled (form_of d.row))).form) ∷ before) ds kept.1)

  row-steps-kept : (defs : List (Var × Form)) (rows : List Row) → AllByRecursion IsPassed rows → AreStepsKept (row_steps defs rows)
  row-steps-kept defs [] kept = tt
  row-steps-kept defs (row ∷ rows) kept = (kept.0, row-steps-kept defs rows kept.1)

  pub elimination-kept : (rows : List Row) → AllByRecursion DefinesKept rows → AreStepsKept (elimination_steps rows (definers rows))
  elimination-kept rows kept =
      both-kept _ _ (definition-steps-kept [] (definitions_of rows (definers rows)) (definitions-kept rows kept))
      (both-kept _ _ (row-steps-kept (expanded_all [] (definitions_of rows (definers rows))) (others_of rows (definers rows)) (others-kept rows kept)) (tt, tt))

  -- ---- carrying back

  lifted-kept : (right : Definition → ℤ) (place : Var → Place) (ds : List Definition) (values : List (Var × Rational)) → ((v : Var) → IsVariableOfSets sets v → PlaceKeeps sets Passes (place v))
      → AllByRecursion IsDefinitionKept ds → AreStepsKept (lifted_steps right place ds values)
  lifted-kept right place [] values placed kept = tt
  lifted-kept right place (d ∷ ds) values placed kept = (
    placed d.variable kept.0.1,
    lifted-kept right place ds (insert_entry var_cmp values d.variable (lifted_value right (value_in var_cmp values) d)) placed kept.1,
  )

  pub scaled-kept : (names : List RowName) (scales multipliers : List Rational) → AllByRecursion Passes names → AreStepsKept (scaled_steps names scales multipliers)
  scaled-kept (name ∷ names) (scale ∷ scales) (multiplier ∷ multipliers) kept = (kept.0, scaled-kept names scales multipliers kept.1)
  scaled-kept names scales multipliers kept = tt

  pub defined-kept : (with_cost : Bool) (rows : List Row) (ds : List Definition) (made : List (RowName × Rational)) → AllByRecursion IsDefinitionKept ds → AreStepsKept (defined_steps with_cost rows ds made)
  defined-kept with_cost rows [] made kept = tt
  defined-kept with_cost rows (d ∷ ds) made kept = both-kept (defined_steps with_cost rows ds made) _ (defined-kept with_cost rows ds made kept.1) (kept.0.0, tt)

  module _ (rows : List Row) (define : AllByRecursion DefinesKept rows) where
    pub all-passed : AllByRecursion IsPassed rows
    all-passed = AllByRecursion-weaker DefinesKept IsPassed (λ row of. of.0) rows define

    pub plan-steps-kept : (values : List (Var × Rational)) → AreStepsKept (plan_steps rows (definers rows) values)
    unfolding plan_steps
    plan-steps-kept values = lifted-kept right_side LiftPlan (definitions_of rows (definers rows)) values (λ v of. of) (definitions-kept rows define)

    pub direction-steps-kept : (values : List (Var × Rational)) → AreStepsKept (direction_steps rows (definers rows) values)
    unfolding direction_steps
    direction-steps-kept values = lifted-kept no_right_side LiftDirection (definitions_of rows (definers rows)) values (λ v of. of) (definitions-kept rows define)

    pub names-left : AllByRecursion Passes (map name_left (rows_left rows (definers rows)))
    names-left =
        let forms = expanded_all [] (definitions_of rows (definers rows)) in
        AllByRecursion-map Passes name_left (rows_left rows (definers rows))
        (AllByRecursion-weaker (λ (r : ReducedRow). Passes r.name × (is_kept r ≡ true)) (λ r. Passes r.name) (λ r of. of.0) (rows_left rows (definers rows))
        (AllByRecursion-filter (λ (r : ReducedRow). Passes r.name) is_kept (map (reduced_row forms) (others_of rows (definers rows)))
        (AllByRecursion-map (λ (r : ReducedRow). Passes r.name) (reduced_row forms) (others_of rows (definers rows)) (others-kept rows define))))

    pub carrying-kept : (with_cost : Bool) (lambda : List Rational) → AreStepsKept (carrying_steps with_cost rows (definers rows) lambda)
    unfolding carrying_steps
    carrying-kept with_cost lambda =
        let names = map name_left (rows_left rows (definers rows)) in
        let scales = map scale_left (rows_left rows (definers rows)) in
        both-kept (scaled_steps names scales lambda) _ (scaled-kept names scales lambda names-left)
        (defined-kept with_cost rows (definitions_of rows (definers rows)) (scaled_multipliers names scales lambda []) (definitions-kept rows define))

  -- ---- the simplex

  pivots-kept : (n : ℕ) (s : State) → AreStepsKept (run n s).steps
  unfolding run
  pivots-kept zero s = cases (due s)
    where
      cases : (d : Due) → AreStepsKept (elim d as (λ _. Run) [ Pivot r c ↦ ended PivotDue s | NoColumn ↦ ended (no_column s.phase) s | NoRow c ↦ ended (Unbounded c) s ]).steps
      cases (Pivot r c) = tt
      cases d = tt
  pivots-kept (suc n) s = cases (due s) (λ r c. pivots-kept n (after s r c))
    where
      cases : (d : Due) → ((r c : ℕ) → AreStepsKept (run n (after s r c)).steps)
          → AreStepsKept
          (elim d as (λ _. Run) [
            | Pivot r c ↦ record { steps = step_of s r c ∷ (run n (after s r c)).steps; ending = (run n (after s r c)).ending; last = (run n (after s r c)).last }
            | NoColumn ↦ ended (no_column s.phase) s
            | NoRow c ↦ ended (Unbounded c) s
          ]).steps
      cases (Pivot r c) later = (tt, later r c)
      cases d later = tt

  by-variable-kept : (place : Var → Place) (f : ℕ → Rational) (c : ℕ) (vs : List Var) → ((v : Var) → IsVariableOfSets sets v → PlaceKeeps sets Passes (place v)) → AllByRecursion (IsVariableOfSets sets) vs
      → AreStepsKept (by_variable_steps place f c vs)
  by-variable-kept place f c [] placed kept = tt
  by-variable-kept place f c (v ∷ vs) placed kept =
      either-kept (is_split v) _ _ (placed v kept.0, by-variable-kept place f (suc (suc c)) vs placed kept.1) (by-variable-kept place f (suc c) vs placed kept.1)

  -- the place of an outcome that has one
  abbrev pub OutcomeIsKept : Outcome → Type 0
  OutcomeIsKept (IsTooWide place) = PlaceKeeps sets Passes place
  OutcomeIsKept outcome = ⊤

  module _ (p : LinearProgram) (columns : AllByRecursion (IsVariableOfSets sets) p.columns) where
    end-steps-kept : (ending : End) (last : State) → AreStepsKept (end_steps p ending last)
    end-steps-kept Optimal last = by-variable-kept LiftPlan (column_value last.tableau) 0 p.columns (λ v of. of) columns
    end-steps-kept (Unbounded e) last =
        both-kept _ _ (by-variable-kept LiftPlan (column_value last.tableau) 0 p.columns (λ v of. of) columns)
        (by-variable-kept LiftDirection (column_direction last.tableau e) 0 p.columns (λ v of. of) columns)
    end-steps-kept ending last = tt

    outcome-of-end-kept : (ending : End) (last : State) → OutcomeIsKept (outcome_of_end p ending last)
    outcome-of-end-kept Optimal last = tt
    outcome-of-end-kept ending last = tt

    checked-kept : (ending : End) (last : State) (wide : Option Place) → first_wide (end_steps p ending last) ≡ wide → OutcomeIsKept (checked_end p ending last wide)
    checked-kept ending last None is = outcome-of-end-kept ending last
    checked-kept ending last (Some place) is = wide-kept (end_steps p ending last) place (end-steps-kept ending last) is

    answer-kept : (a : Answer) → ((place : Place) → a ≡ RanOut place → PlaceKeeps sets Passes place) → OutcomeIsKept (outcome_of p a)
    answer-kept (Ended ending last) ran = checked-kept ending last (first_wide (end_steps p ending last)) refl
    answer-kept (RanOut place) ran = ran place refl

    ran-kept : (r : Run) → AreStepsKept r.steps → (place : Place) → answer_of r ≡ RanOut place → PlaceKeeps sets Passes place
    unfolding answer_of
    ran-kept r kept place is = cases (first_wide r.steps) refl is
      where
        cases : (wide : Option Place) → first_wide r.steps ≡ wide → elim wide [ None ↦ Ended r.ending r.last | Some place ↦ RanOut place ] ≡ RanOut place → PlaceKeeps sets Passes place
        cases None found same = absurd (cc same)
        cases (Some at) found same = let here : at ≡ place = cc same in subst (PlaceKeeps sets Passes) here (wide-kept r.steps at kept found)

    pub solved-kept : (n : ℕ) → OutcomeIsKept (solved n p)
    unfolding answer
    solved-kept n = answer-kept (answer n (first_state p)) (λ place is. ran-kept (run n (first_state p)) (pivots-kept n (first_state p)) place is)

  -- ---- the end, at any cost

  -- the place of an end that has one
  abbrev pub EndIsKept : MethodEnd → Type 0
  EndIsKept (IsWide place) = PlaceKeeps sets Passes place
  EndIsKept end = ⊤

  unless-kept : (ss : List (Step Place)) (end : MethodEnd) → AreStepsKept ss → EndIsKept end → EndIsKept (unless_wide (first_wide ss) end)
  unless-kept ss end kept ends = cases (first_wide ss) refl
    where
      cases : (wide : Option Place) → first_wide ss ≡ wide → EndIsKept (unless_wide wide end)
      cases None is = ends
      cases (Some place) is = wide-kept ss place kept is

  module _ (rows : List Row) (vars : List Var) (define : AllByRecursion DefinesKept rows) (listed : AllByRecursion (IsWithinSets sets) vars) where
    named : AllByRecursion IsPassed rows
    named = all-passed rows define

    pub refutation-checked : (multipliers : List (RowName × Rational)) → AreStepsKept (refutation_checks rows vars multipliers)
    refutation-checked multipliers = refutation-kept rows vars named listed multipliers

    module _ (cost : Cost) where
      closing-kept : (amount bound : Rational) → AreStepsKept (closing_checks cost amount bound)
      closing-kept amount bound = cases cost
        where
          cases : (c : Cost) → AreStepsKept (closing_checks c amount bound)
          cases Model = steps-kept (gap_condition amount bound 0 ∷ []) (((tt, tt), tt), tt)
          cases (One var goal) = tt

      optimal-kept : (values : List (Var × Rational)) (lambda : List Rational) (pivots : ℕ) → EndIsKept (optimal_end cost rows (definers rows) vars values lambda pivots)
      optimal-kept values lambda pivots =
          let plan = carried_plan rows (definers rows) values in
          let multipliers = carried_multipliers (is_model cost) rows (definers rows) lambda in
          unless-kept _ (HasOptimum plan multipliers pivots)
          (both-kept _ _ (plan-steps-kept rows define values)
          (both-kept _ _ (carrying-kept rows define (is_model cost) lambda)
          (both-kept _ _ (plan-kept rows vars named listed model_cost plan)
          (both-kept _ _ (bound-kept rows vars named listed (weight_of cost) multipliers) (closing-kept (plan_cost vars plan) (multiplier_bound rows multipliers))))))
          tt

      unbounded-kept : (values direction : List (Var × Rational)) (pivots : ℕ) → EndIsKept (unbounded_end cost rows (definers rows) vars values direction pivots)
      unbounded-kept values direction pivots =
          let plan = carried_plan rows (definers rows) values in
          let along = carried_direction rows (definers rows) direction in
          unless-kept _ (HasNoBound plan along pivots)
          (both-kept _ _ (plan-steps-kept rows define values)
          (both-kept _ _ (direction-steps-kept rows define direction)
          (both-kept _ _ (plan-kept rows vars named listed model_cost plan) (direction-kept rows vars named listed (weight_of cost) along))))
          tt

    carried-kept : (cost : Cost) (outcome : Outcome) → OutcomeIsKept outcome → EndIsKept (carried_end cost rows (definers rows) vars outcome)
    carried-kept cost (IsOptimal values lambda pivots) of = optimal-kept cost values lambda pivots
    carried-kept cost (IsInfeasible lambda pivots) of =
        let multipliers = carried_multipliers false rows (definers rows) lambda in
        unless-kept _ (HasNoPlan multipliers pivots) (both-kept _ _ (carrying-kept rows define false lambda) (refutation-checked multipliers)) tt
    carried-kept cost (IsUnbounded values direction pivots) of = unbounded-kept cost values direction pivots
    carried-kept cost IsOutOfPivots of = tt
    carried-kept cost (IsTooWide place) of = of

    columns-kept : (cost : Cost) → AllByRecursion (IsVariableOfSets sets) (program_left rows (definers rows) vars cost).columns
    unfolding program_left
    columns-kept cost =
        AllByRecursion-weaker (λ v. IsVariableOfSets sets v × (is_column v ≡ true)) (IsVariableOfSets sets) (λ v of. of.0) (filter is_column vars)
        (AllByRecursion-filter (IsVariableOfSets sets) is_column vars listed)

    pub solved-end-kept : (cost : Cost) (pivots : ℕ) → EndIsKept (solved_end rows (definers rows) vars cost pivots)
    unfolding solved_end
    solved-end-kept cost pivots =
        let program = program_left rows (definers rows) vars cost in
        carried-kept cost (solved pivots program) (solved-kept program (columns-kept cost) pivots)

    pub end-kept : (pivots : ℕ) → EndIsKept (method_end rows (definers rows) vars pivots)
    unfolding method_end
    end-kept pivots = unless-kept (elimination_steps rows (definers rows)) (solved_end rows (definers rows) vars Model pivots) (elimination-kept rows define) (solved-end-kept Model pivots)
