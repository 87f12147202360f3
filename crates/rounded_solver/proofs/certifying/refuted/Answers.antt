-- The multipliers that are carried back have the names of rows.
use Rattle.std.proofs.Common.{map, false}
use Rattle.exact_num.specs.Value.{value_of}
use Rattle.row_problem.proofs.CompletePlans.{multipliers-named}
use Rattle.rounded_solver.proofs.certifying.refuted.Goals as goal

pub returns : goal.returns
returns c =
    let problem = c.args.problem.now in
    record {
      proved = c.in_ok-accepted_refutation.ensures.refutation;
      within = c.requires.made;
      complete = tt;
      named = multipliers-named false problem.rows.now problem.defs.now (map value_of c.args.lambda.now) c.in_ok-multipliers.multipliers c.in_ok-multipliers.ensures.multipliers c.multiplier_laws.ensures.ascending;
    }
