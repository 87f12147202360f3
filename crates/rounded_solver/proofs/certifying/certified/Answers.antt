-- What is carried back has a value for each variable, and multipliers with the names of rows.
use Rattle.std.proofs.Common.{map, true, ◌∙◌}
use Rattle.exact_num.specs.Value.{value_of}
use Rattle.row_problem.proofs.CompletePlans.{multipliers-named, plan-complete}
use Rattle.rounded_solver.proofs.ListedLaws.{listed-problem}
use Rattle.rounded_solver.proofs.certifying.certified.Goals as goal

pub accepted-requires : goal.accepted-requires
accepted-requires c =
    let problem = c.args.problem.now in
    let rows = problem.rows.now in
    let defs = problem.defs.now in
    let vars = problem.vars.now in
    let keyed = c.in_ok-of_columns.ensures ∙ c.as_slice.ensures.value ∙ c.requires.problem.columns in
    record {
      listed = listed-problem rows defs vars c.requires.problem.problem;
      complete = plan-complete rows defs vars c.requires.problem.problem c.in_ok-of_columns.of_columns keyed c.in_ok-plan.plan c.in_ok-plan.ensures.values c.plan_laws.ensures.ascending;
      named = multipliers-named true rows defs (map value_of c.args.lambda.now) c.in_ok-multipliers.multipliers c.in_ok-multipliers.ensures.multipliers c.multiplier_laws.ensures.ascending;
      made = c.requires.made;
    }
