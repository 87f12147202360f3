-- The multipliers refute the rows, so that the checker says yes to them.
use Rattle.conflict_sets.proofs.Common.{◌≡◌, length, refl, sym, ap, ◌∙◌, length-map, err_from_is_err_and, first_wide-append, value_of, stop_of, of-part, some-over, listed_by, tried_multipliers, tried_steps}
use Rattle.conflict_sets.proofs.FoundTrials.{lifted-are, steps-are, trial-refutation}
use Rattle.conflict_sets.proofs.TriedLaws.{as-many, part-tried}
use Rattle.conflict_sets.proofs.TrialEnds.{stops-by}
use Rattle.conflict_sets.proofs.WithinLaws.{multipliers-within}
use Rattle.conflict_sets.proofs.trial.refuted.Goals as goal

pub lift_multipliers-requires-clause-scaled : goal.lift_multipliers-requires-clause-scaled
lift_multipliers-requires-clause-scaled c = as-many (listed_by c.args.listing.now) c.args.problem.now c.requires.problem c.args.tried.now c.requires.tried

pub lift_multipliers-requires-clause-counted : goal.lift_multipliers-requires-clause-counted
lift_multipliers-requires-clause-counted c = sym (length-map c.entries.result.now value_of) ∙ ap length c.entries.ensures ∙ c.requires.counted

pub returns-in_err-multipliers-clause-stopped : goal.returns-in_err-multipliers-clause-stopped
returns-in_err-multipliers-clause-stopped c =
    let problem = c.args.problem.now in
    let listed = listed_by c.args.listing.now in
    let q = err_from_is_err_and c.from_residual.result c.from_residual.ensures.1 in
    let same = steps-are listed problem c.requires.problem c.args.tried.now c.requires.tried c.entries.result.now ∙ ap (tried_steps listed problem.rows.now problem.defs.now) c.entries.ensures in
    let e = c.in_err-multipliers.field-0.0 in
    rw (q.1, q.2) (stops-by _ (stop_of e) _ (of-part _ e (rw same at c.in_err-multipliers.ensures.stopped)) (λ place h. rw (first_wide-append, h) refl))

pub returns-in_err-accepted_refutation-clause-stopped : goal.returns-in_err-accepted_refutation-clause-stopped
returns-in_err-accepted_refutation-clause-stopped c =
    let problem = c.args.problem.now in
    let rows = problem.rows.now in
    let defs = problem.defs.now in
    let listed = listed_by c.args.listing.now in
    let m = c.in_ok-multipliers.multipliers in
    let fs = c.entries.result.now in
    let reduced = c.args.tried.now in
    let tried = c.requires.tried in
    let of = c.requires.problem in
    let q = err_from_is_err_and c.from_residual-in_err-accepted_refutation.result c.from_residual-in_err-accepted_refutation.ensures.1 in
    let steps = steps-are listed problem of reduced tried fs ∙ ap (tried_steps listed rows defs) c.entries.ensures in
    let made = lifted-are listed problem of reduced tried fs ∙ ap (tried_multipliers listed rows defs) c.entries.ensures in
    let fits = rw steps at c.in_ok-multipliers.ensures.fits in
    let carries = c.in_ok-multipliers.ensures.refutes refl (part-tried listed problem of reduced tried) in
    let found = trial-refutation listed problem of reduced tried fs m carries c.multiplier_laws.ensures.some (some-over fs) (rw c.entries.ensures c.requires.refute) in
    rw (q.1, q.2)
    (stops-by _ c.in_err-accepted_refutation.field-0.0 _ (c.in_err-accepted_refutation.ensures.found found)
    (λ place h. rw (first_wide-append, fits, sym (c.in_ok-multipliers.ensures.multipliers ∙ made), h) refl))

pub returns-clause-end : goal.returns-clause-end
returns-clause-end c =
    let problem = c.args.problem.now in
    let listed = listed_by c.args.listing.now in
    let steps = steps-are listed problem c.requires.problem c.args.tried.now c.requires.tried c.entries.result.now ∙ ap (tried_steps listed problem.rows.now problem.defs.now) c.entries.ensures in
    let made = lifted-are listed problem c.requires.problem c.args.tried.now c.requires.tried c.entries.result.now ∙ ap (tried_multipliers listed problem.rows.now problem.defs.now) c.entries.ensures in
    let fits = rw steps at c.in_ok-multipliers.ensures.fits in
    rw (first_wide-append, fits, sym (c.in_ok-multipliers.ensures.multipliers ∙ made), c.in_ok-accepted_refutation.ensures.refutation.pass.fit) refl

pub returns-clause-worth : goal.returns-clause-worth
returns-clause-worth c =
    let problem = c.args.problem.now in
    let listed = listed_by c.args.listing.now in
    let made = lifted-are listed problem c.requires.problem c.args.tried.now c.requires.tried c.entries.result.now ∙ ap (tried_multipliers listed problem.rows.now problem.defs.now) c.entries.ensures in
    let is : c.in_ok-multipliers.multipliers ≡ tried_multipliers listed problem.rows.now problem.defs.now c.args.lambda.now = c.in_ok-multipliers.ensures.multipliers ∙ made in (
      c.in_ok-accepted_refutation.ensures.refutation,
      rw is (multipliers-within listed problem.rows.now problem.defs.now problem.vars.now c.args.lambda.now c.requires.problem.problem),
    )
