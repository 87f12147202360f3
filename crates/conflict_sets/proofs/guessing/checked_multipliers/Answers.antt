-- What the checker accepts refutes the rows, and gives the rows that aren't tried the multiplier 0.
use Rattle.conflict_sets.proofs.Common.{◌≡◌, map, sym, ◌∙◌, subst, value_of, Multipliers, AreWithin, listed_by, tried_multipliers}
use Rattle.conflict_sets.proofs.FoundTrials.{lifted-are}
use Rattle.conflict_sets.proofs.TriedLaws.{as-many}
use Rattle.conflict_sets.proofs.WithinLaws.{multipliers-within}
use Rattle.conflict_sets.proofs.guessing.checked_multipliers.Goals as goal

pub lift_multipliers-requires-clause-scaled : goal.lift_multipliers-requires-clause-scaled
lift_multipliers-requires-clause-scaled c = as-many (listed_by c.args.listing.now) c.args.problem.now c.requires.problem c.args.tried.now c.requires.tried

pub returns-in-Ok-accepted_refutation : goal.returns-in-Ok-accepted_refutation
returns-in-Ok-accepted_refutation c =
    let problem = c.args.problem.now in
    let listed = listed_by c.args.listing.now in
    let lambda = map value_of c.args.lambda.now in
    let m = c.in-Ok.multipliers in
    let is : m ≡ tried_multipliers listed problem.rows.now problem.defs.now lambda = c.in-Ok.ensures.multipliers ∙ lifted-are listed problem c.requires.problem c.args.tried.now c.requires.tried c.args.lambda.now in
    record {
      worth = (
        c.in-Ok-accepted_refutation.ensures.refutation,
        subst (λ (made : Multipliers). AreWithin listed problem.rows.now made) (sym is) (multipliers-within listed problem.rows.now problem.defs.now problem.vars.now lambda c.requires.problem.problem),
      );
    }
