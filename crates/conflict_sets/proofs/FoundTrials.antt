-- What the simplex found of a trial makes the checker say yes.
use Rattle.conflict_sets.proofs.Common.{◌≡◌, ℕ, Bool, true, false, List, map, refl, sym, ap, ap₂, ◌∙◌, Option, value_of, Frac, Row, RowName, Var, ascends, keys_of, row_name_cmp, var_cmp, Reduced, program_of, AreOverSome, Outcome, solved, names_of, Definition, defined, definitions_of, lifted, right_side, lifted-others, plan_right, carried_plan, IsPosedProblem, multiplier_steps, named_multipliers, BecomesPlan, IsFoundPlan, IsFoundRefutation, Values, Multipliers, Problem, IsHalt, MeetAll, RefuteAll, becomes_plan, becomes_refutation, IsTriedOf, StopsTrial, carried_trial, rows_with, trial_end, tried_multipliers, tried_steps, IsOverSome}
use Rattle.simplex_core.specs.declared.ends.Halt.{Halt}
use Rattle.simplex_core.specs.declared.ends.Halt.TheVariants as halts
use Rattle.variable_elimination.specs.Certified.{CarriesSum}
use Rattle.exact_solver.specs.MethodEnds.{stop_at}
use Rattle.conflict_sets.proofs.PlannedLaws.{carries-tried}
use Rattle.conflict_sets.proofs.TriedLaws.{names-tried, part-tried, program-tried, scales-tried}
use Rattle.row_problem.proofs.FoundWords.{found-plan, found-refutation}

module _ (listed : RowName → Bool) (problem : Problem) (of : IsPosedProblem problem) (made : Reduced) (tried : IsTriedOf listed problem.reduced.now made) where
  abbrev rows : List Row
  rows = problem.rows.now

  abbrev defs : List (Option Var)
  defs = problem.defs.now

  abbrev vars : List Var
  vars = problem.vars.now

  abbrev ds : List Definition
  ds = definitions_of rows defs

  abbrev whole : Reduced
  whole = problem.reduced.now

  pub trial-plan : (values plan : Values) → plan ≡ carried_plan rows defs values → keys_of values ≡ made.columns.items → ascends var_cmp (keys_of values) ≡ true → AreOverSome var_cmp values → AreOverSome var_cmp plan
      → MeetAll (program_of made) values → IsFoundPlan (rows_with listed rows) vars plan
  unfolding carried_plan
  trial-plan values plan is keyed up some some_made meet =
      let made_plan : Values = lifted right_side ds values in
      let carries = carries-tried listed whole.columns.items rows defs values whole.rows.items whole.scales.items made.rows.items of.problem.same of.problem.triangular of.reductions of.posed.rows tried.rows (part-tried listed problem of made tried).without in
      let becomes : BecomesPlan (rows_with listed rows) vars made values made_plan =
      becomes_plan (rows_with listed rows) vars (defined ds) made values made_plan (lifted-others right_side ds values) (plan_right ds values of.problem.triangular of.problem.signs) carries in
      rw is
      (found-plan (rows_with listed rows) vars made values made_plan keyed up some (rw is at some_made) meet becomes)

  pub trial-refutation : (lambda : List Frac) (multipliers : Multipliers) → CarriesSum rows (defined ds) made lambda multipliers → AreOverSome row_name_cmp multipliers → IsOverSome (map value_of lambda)
      → RefuteAll (program_of made) (map value_of lambda) → IsFoundRefutation rows vars multipliers
  trial-refutation lambda multipliers carries m o refute =
      found-refutation rows vars made lambda multipliers m o refute (becomes_refutation rows defs vars of.problem made (tried.columns ∙ of.columns) lambda multipliers carries)

  -- what the call that lifts multipliers gives is what the definitions say
  pub lifted-are : (fs : List Frac) → named_multipliers false rows ds (names_of made.rows.items) (map value_of made.scales.items) (map value_of fs) ≡ tried_multipliers listed rows defs (map value_of fs)
  unfolding tried_multipliers
  lifted-are fs = ap₂ (λ names scales. named_multipliers false rows ds names scales (map value_of fs)) (names-tried listed problem of made tried) (scales-tried listed problem of made tried)

  pub steps-are : (fs : List Frac) → multiplier_steps false rows ds (names_of made.rows.items) (map value_of made.scales.items) (map value_of fs) ≡ tried_steps listed rows defs (map value_of fs)
  unfolding tried_steps
  steps-are fs = ap₂ (λ names scales. multiplier_steps false rows ds names scales (map value_of fs)) (names-tried listed problem of made tried) (scales-tried listed problem of made tried)

  -- the end of the simplex, as that of the trial
  pub trial-ended : (n : ℕ) (outcome : Outcome) → outcome ≡ solved n (program_of made) → carried_trial listed rows defs vars outcome ≡ trial_end listed rows defs vars n
  unfolding trial_end
  trial-ended n outcome e = ap (carried_trial listed rows defs vars) (e ∙ ap (solved n) (program-tried listed problem of made tried))

  pub trial-halted : (n : ℕ) (e : Halt) → IsHalt (solved n (program_of made)) e → StopsTrial (trial_end listed rows defs vars n) (stop_at e)
  trial-halted n halts.Budget h = sym (trial-ended n (solved n (program_of made)) refl) ∙ ap (carried_trial listed rows defs vars) h
  trial-halted n (halts.Width place) h = sym (trial-ended n (solved n (program_of made)) refl) ∙ ap (carried_trial listed rows defs vars) h
  trial-halted n halts.Memory h = tt
