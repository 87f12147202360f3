-- From the verdicts of the checks over a book of rows to what they come to over the named equations.
use Rattle.check_command.proofs.Common.{inr, inl, ◌⊎◌, ◌≡◌, ℕ, ℤ, pos, List, [], ◌∷◌, ◌++◌, Option, Some, None, ap, ap₂, sym, ◌∙◌, subst, refl, Rational, minus, value_of, Data, Row, RowName, Var, Place, var_cmp, value_in, all_variables, Rejection, BoundsAll, Condition, AllPass, FailsFor, IsWideAt, first_failing, steps, cost_of, cost_value, model_cost, AreOverSome, Within, gap_condition, bound_conditions, plan_conditions, Reason, reason_of, fails_before, passed_first, passes_all, wide_before, Accepted, Rejected, Wide, check_conditions, multiplier_bound, plan_cost, AreFeasible, AreNotFeasible, BoundsFeasible, IsBookOf, IsCheckedBound, IsCheckedPlan, IsOutcome, are-feasible, bounds-feasible, rows-from_feasible, vars-are}
use Rattle.exact_num.specs.Steps.{first_wide}
use Rattle.exact_num.specs.declared.fraction.Frac.{Frac}
use Rattle.row_core.specs.Values.{IsOver}
use Rattle.certificate_checker.specs.Plans.{AreValuesOver, MeetsAll}

module _ (places : ℕ) (d : Data) (rows : List Row) (vars : List Var) (book : IsBookOf places d rows vars) where
  -- the variables of the book are those of the data
  are : vars ≡ all_variables d
  are = vars-are places d rows vars book

  -- the plan was accepted
  pub checked-plan : (plan : List (Var × Rational)) (cost : Rational) → AreOverSome var_cmp plan → AllPass (plan_conditions model_cost rows vars plan)
      → cost ≡ cost_value model_cost vars (value_in var_cmp plan)
      → ((q : ℕ) (x : Var → ℤ) → AreValuesOver q x plan → MeetsAll rows vars q x × IsOver (pos q) cost (cost_of model_cost vars x)) → IsCheckedPlan places d rows plan cost
  checked-plan plan cost some pass is meets =
      let cost_is : cost ≡ plan_cost d plan = is ∙ ap (λ vs. cost_value model_cost vs (value_in var_cmp plan)) are in
      record {
        pass = subst (λ vs. AllPass (plan_conditions model_cost rows vs plan)) are pass;
        feasible = subst (λ c. AreFeasible places d plan c) cost_is (are-feasible places d rows vars book plan cost some meets);
        cost_is = cost_is;
      }

  -- it wasn't
  pub not-feasible : (plan : List (Var × Rational)) → ((q : ℕ) (x : Var → ℤ) → AreValuesOver q x plan → ¬ (MeetsAll rows vars q x)) → AreNotFeasible places d plan
  not-feasible plan misses = λ q x over feasible. misses q x over (rows-from_feasible places d rows vars book q x feasible)

  -- the multipliers were accepted
  pub checked-bound : (multipliers : List (RowName × Rational)) (bound : Rational) → AllPass (bound_conditions model_cost rows vars multipliers)
      → bound ≡ multiplier_bound rows multipliers → BoundsAll model_cost rows vars bound → IsCheckedBound places d rows multipliers bound
  checked-bound multipliers bound pass is bounds = record {
    pass = subst (λ vs. AllPass (bound_conditions model_cost rows vs multipliers)) are pass;
    bounds = subst (λ (b : Rational). BoundsFeasible places d b) is (bounds-feasible places d rows vars book bound bounds);
    bound_is = is;
  }

-- ---- some conditions after others

module _ (cs ds : List Condition) where
  pub fails-first : (reason : Reason) → FailsFor cs reason → FailsFor (cs ++ ds) reason
  fails-first reason h =
      let both = fails_before cs ds reason h.fails in
      record { fit = ap first_wide both.0 ∙ h.fit; fails = both.1 }

  pub fails-after : (reason : Reason) → AllPass cs → FailsFor ds reason → FailsFor (cs ++ ds) reason
  fails-after reason pass h =
      let so_far = passed_first cs ds pass in
      record { fit = so_far.wide ∙ h.fit; fails = so_far.failing ∙ h.fails }

  pub wide-after : (place : Place) → AllPass cs → IsWideAt ds place → IsWideAt (cs ++ ds) place
  wide-after place pass h = (passed_first cs ds pass).wide ∙ h

  -- where all together fail, the first ones fail, or they pass and the others fail
  pub fails-parts : (reason : Reason) → FailsFor (cs ++ ds) reason → FailsFor cs reason ⊎ (AllPass cs × FailsFor ds reason)
  fails-parts reason h = cases (first_failing cs) refl (first_wide (steps cs)) refl
    where
      cases : (first : Option Reason) → first_failing cs ≡ first → (wide : Option Place) → first_wide (steps cs) ≡ wide → FailsFor cs reason ⊎ (AllPass cs × FailsFor ds reason)
      cases first is (Some place) wide = absurd (cc (sym h.fit ∙ wide_before cs ds place wide))
      cases (Some other) is None fit = inl (record { fit = fit; fails = is ∙ (sym (fails_before cs ds other is).1 ∙ h.fails) })
      cases None is None fit =
          let pass : AllPass cs = record { fit = fit; hold = is } in
          let so_far = passed_first cs ds pass in
          inr (pass, record { fit = sym so_far.wide ∙ h.fit; fails = sym so_far.failing ∙ h.fails })

  pub pass-after : AllPass cs → AllPass ds → AllPass (cs ++ ds)
  pass-after pass h = passes_all (cs ++ ds) ds (passed_first cs ds pass) h

-- ---- the conditions of `check`

abbrev pub of_plan : Data → List Row → List (Var × Rational) → List Condition
of_plan d rows plan = plan_conditions model_cost rows (all_variables d) plan

abbrev pub of_bound : Data → List Row → List (RowName × Rational) → List Condition
of_bound d rows multipliers = bound_conditions model_cost rows (all_variables d) multipliers

abbrev pub of_gap : Data → List Row → List (Var × Rational) → List (RowName × Rational) → ℕ → List Condition
of_gap d rows plan multipliers gap = gap_condition (plan_cost d plan) (multiplier_bound rows multipliers) gap ∷ []

-- the plan's are the first
pub plan-fails : (d : Data) (rows : List Row) (plan : List (Var × Rational)) (multipliers : Option (List (RowName × Rational))) (gap : ℕ) (reason : Reason)
    → FailsFor (of_plan d rows plan) reason → FailsFor (check_conditions d rows plan multipliers gap) reason
plan-fails d rows plan None gap reason h = h
plan-fails d rows plan (Some multipliers) gap reason h = fails-first (of_plan d rows plan) (of_bound d rows multipliers ++ of_gap d rows plan multipliers gap) reason h

pub plan-wide : (d : Data) (rows : List Row) (plan : List (Var × Rational)) (multipliers : Option (List (RowName × Rational))) (gap : ℕ) (place : Place)
    → IsWideAt (of_plan d rows plan) place → IsWideAt (check_conditions d rows plan multipliers gap) place
plan-wide d rows plan None gap place h = h
plan-wide d rows plan (Some multipliers) gap place h = wide_before (of_plan d rows plan) (of_bound d rows multipliers ++ of_gap d rows plan multipliers gap) place h

module _ (places : ℕ) (d : Data) (rows : List Row) (plan : List (Var × Rational)) (cost : Rational) (checked : IsCheckedPlan places d rows plan cost) (multipliers : List (RowName × Rational)) (gap : ℕ) where
  abbrev later : List Condition
  later = of_bound d rows multipliers ++ of_gap d rows plan multipliers gap

  -- a plan whose conditions all hold fails none
  never_fails : (rejection : Rejection) → FailsFor (of_plan d rows plan) (reason_of rejection) → AreNotFeasible places d plan
  never_fails rejection fails = absurd (cc (sym checked.pass.hold ∙ fails.fails))

  -- the first of the multipliers' conditions that fails is the first of all
  pub bound-fails : (rejection : Rejection) → FailsFor (of_bound d rows multipliers) (reason_of rejection) → IsOutcome places d rows plan (Some multipliers) gap (Rejected rejection)
  bound-fails rejection h =
      (fails-after (of_plan d rows plan) later (reason_of rejection) checked.pass (fails-first (of_bound d rows multipliers) (of_gap d rows plan multipliers gap) (reason_of rejection) h), never_fails rejection)

  pub bound-wide : (place : Place) → IsWideAt (of_bound d rows multipliers) place → IsOutcome places d rows plan (Some multipliers) gap (Wide place)
  bound-wide place h = wide-after (of_plan d rows plan) later place checked.pass (wide_before (of_bound d rows multipliers) (of_gap d rows plan multipliers gap) place h)

  module _ (bound : Rational) (bounded : IsCheckedBound places d rows multipliers bound) where
    same-gap : gap_condition cost bound gap ∷ [] ≡ of_gap d rows plan multipliers gap
    same-gap = ap₂ (λ c b. gap_condition c b gap ∷ []) checked.cost_is bounded.bound_is

    pub gap-fails : (rejection : Rejection) → FailsFor (gap_condition cost bound gap ∷ []) (reason_of rejection) → IsOutcome places d rows plan (Some multipliers) gap (Rejected rejection)
    gap-fails rejection h = (
      fails-after (of_plan d rows plan) later (reason_of rejection) checked.pass
          (fails-after (of_bound d rows multipliers) (of_gap d rows plan multipliers gap) (reason_of rejection) bounded.pass
          (subst (λ cs. FailsFor cs (reason_of rejection)) same-gap h)),
      never_fails rejection,
    )

    pub gap-wide : (place : Place) → IsWideAt (gap_condition cost bound gap ∷ []) place → IsOutcome places d rows plan (Some multipliers) gap (Wide place)
    gap-wide place h =
        wide-after (of_plan d rows plan) later place checked.pass
        (wide-after (of_bound d rows multipliers) (of_gap d rows plan multipliers gap) place bounded.pass (subst (λ cs. IsWideAt cs place) same-gap h))

    -- all conditions hold
    pub all-pass : (amount found : Frac) (gap_found : Frac) → value_of amount ≡ cost → value_of found ≡ bound → value_of gap_found ≡ minus cost bound
        → AllPass (gap_condition cost bound gap ∷ []) → Within cost bound gap
        → IsOutcome places d rows plan (Some multipliers) gap (Accepted amount (Some (record { bound = found; gap = gap_found })))
    all-pass amount found gap_found amount_is found_is gap_is pass within = (
      pass-after (of_plan d rows plan) later checked.pass
          (pass-after (of_bound d rows multipliers) (of_gap d rows plan multipliers gap) bounded.pass (subst AllPass same-gap pass)),
      checked.feasible,
      (bounded.bounds, subst (λ (b : Rational). Within (plan_cost d plan) b gap) bounded.bound_is (subst (λ (c : Rational). Within c bound gap) checked.cost_is within)),
      amount_is ∙ checked.cost_is,
      (found_is ∙ bounded.bound_is, gap_is ∙ ap₂ minus checked.cost_is bounded.bound_is),
    )

-- without multipliers, the plan's conditions are all
pub plan-passes : (places : ℕ) (d : Data) (rows : List Row) (plan : List (Var × Rational)) (gap : ℕ) (amount : Frac) → IsCheckedPlan places d rows plan (value_of amount)
    → IsOutcome places d rows plan None gap (Accepted amount None)
plan-passes places d rows plan gap amount checked = (checked.pass, checked.feasible, tt, checked.cost_is, tt)
