-- What the checker accepts over the copied rows is a plan of the rows of the trial.
use Rattle.conflict_sets.proofs.Common.{◌≡◌, map, ap, ◌∙◌, contents_of, plan-complete, listed_by, rows_with}
use Rattle.conflict_sets.proofs.CopiedLaws.{copied-plan}
use Rattle.conflict_sets.proofs.guessing.checked_values.Goals as goal

pub returns-in-Ok-accepted_plan : goal.returns-in-Ok-accepted_plan
returns-in-Ok-accepted_plan c =
    let problem = c.args.problem.now in
    let rows = problem.rows.now in
    let vars = problem.vars.now in
    let listed = listed_by c.args.listing.now in
    let plan = c.in-Ok.plan in
    let of = c.requires.problem in
    let copied : map contents_of c.deref.result.now ≡ map contents_of (rows_with listed rows) = ap (map contents_of) c.deref.ensures.value ∙ c.in_ok-rows.ensures in
    record {
      worth = (
        copied-plan vars plan _ c.deref.result.now (rows_with listed rows) copied c.in-Ok-accepted_plan.ensures.plan,
        plan-complete rows problem.defs.now vars of.problem c.args.values.now (c.requires.keyed ∙ c.requires.tried.columns ∙ of.columns) plan c.in-Ok.ensures.values c.plan_laws.ensures.ascending,
      );
    }
