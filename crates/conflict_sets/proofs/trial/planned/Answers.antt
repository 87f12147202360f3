-- The plan meets the rows of the trial, so that the checker says yes to it.
use Rattle.conflict_sets.proofs.Common.{◌≡◌, map, refl, sym, ap, ◌∙◌, err_from_is_err_and, first_wide-append, contents_of, model_cost, stop_of, plan-complete, listed_by, of-part, rows_with}
use Rattle.conflict_sets.proofs.CopiedLaws.{copied-conditions, copied-found, copied-plan}
use Rattle.conflict_sets.proofs.FoundTrials.{trial-plan}
use Rattle.conflict_sets.proofs.TrialEnds.{stops-by}
use Rattle.conflict_sets.proofs.trial.planned.Goals as goal

pub returns-in_err-plan-clause-stopped : goal.returns-in_err-plan-clause-stopped
returns-in_err-plan-clause-stopped c =
    let e = c.in_err-plan.field-0.0 in
    let q = err_from_is_err_and c.from_residual.result c.from_residual.ensures.1 in
    rw (q.1, q.2) (stops-by _ (stop_of e) _ (of-part _ e c.in_err-plan.ensures.stopped) (λ place h. rw (first_wide-append, h) refl))

pub returns-in_err-accepted_plan-clause-stopped : goal.returns-in_err-accepted_plan-clause-stopped
returns-in_err-accepted_plan-clause-stopped c =
    let problem = c.args.problem.now in
    let rows = problem.rows.now in
    let vars = problem.vars.now in
    let listed = listed_by c.args.listing.now in
    let plan = c.in_ok-plan.plan in
    let values = c.args.values.now in
    let e = c.in_err-accepted_plan.field-0.0 in
    let q = err_from_is_err_and c.from_residual-in_err-accepted_plan.result c.from_residual-in_err-accepted_plan.ensures.1 in
    let copied : map contents_of c.deref.result.now ≡ map contents_of (rows_with listed rows) = ap (map contents_of) c.deref.ensures.value ∙ c.in_ok-rows.ensures in
    let found = trial-plan listed problem c.requires.problem c.args.tried.now c.requires.tried values plan c.in_ok-plan.ensures.values c.requires.keyed c.plan_laws.ensures.ascending c.plan_laws.ensures.some c.plan_laws-2.ensures.some c.requires.meet in
    let wide = c.in_err-accepted_plan.ensures.found (copied-found vars plan c.deref.result.now (rows_with listed rows) copied found) in
    rw (q.1, q.2)
    (stops-by _ e _ (rw (copied-conditions model_cost vars plan c.deref.result.now (rows_with listed rows) copied) at wide)
    (λ place h. rw (first_wide-append, c.in_ok-plan.ensures.fits, sym c.in_ok-plan.ensures.values, h) refl))

pub returns-clause-end : goal.returns-clause-end
returns-clause-end c =
    let problem = c.args.problem.now in
    let rows = problem.rows.now in
    let vars = problem.vars.now in
    let listed = listed_by c.args.listing.now in
    let plan = c.in_ok-plan.plan in
    let copied : map contents_of c.deref.result.now ≡ map contents_of (rows_with listed rows) = ap (map contents_of) c.deref.ensures.value ∙ c.in_ok-rows.ensures in
    let worth = copied-plan vars plan _ c.deref.result.now (rows_with listed rows) copied c.in_ok-accepted_plan.ensures.plan in
    rw (first_wide-append, c.in_ok-plan.ensures.fits, sym c.in_ok-plan.ensures.values, worth.pass.fit) refl

pub returns-clause-worth : goal.returns-clause-worth
returns-clause-worth c =
    let problem = c.args.problem.now in
    let rows = problem.rows.now in
    let vars = problem.vars.now in
    let listed = listed_by c.args.listing.now in
    let plan = c.in_ok-plan.plan in
    let of = c.requires.problem in
    let copied : map contents_of c.deref.result.now ≡ map contents_of (rows_with listed rows) = ap (map contents_of) c.deref.ensures.value ∙ c.in_ok-rows.ensures in (
      copied-plan vars plan _ c.deref.result.now (rows_with listed rows) copied c.in_ok-accepted_plan.ensures.plan,
      plan-complete rows problem.defs.now vars of.problem c.args.values.now (c.requires.keyed ∙ c.requires.tried.columns ∙ of.columns) plan c.in_ok-plan.ensures.values c.plan_laws-2.ensures.ascending,
    )
