-- A plan of the first trial meets all rows.
use Rattle.conflict_sets.specs.Walks.{every}
use Rattle.conflict_sets.proofs.PartLaws.{all-met, every-taken}
use Rattle.conflict_sets.proofs.rounding.explain_with.Goals as goal

pub returns-in-Ok-Plan-clause-feasible : goal.returns-in-Ok-Plan-clause-feasible
returns-in-Ok-Plan-clause-feasible g c =
    let rows = c.args.problem.now.rows.now in
    let vars = c.args.problem.now.vars.now in
    let worth = rw c.in-Ok-Plan.field-0-is at c.in-Ok-Plan.ensures.worth in
    let some = worth.0.some in
    record { over = some.over; plan = some.number; meets = all-met rows vars every some.over some.number every-taken (worth.0.meets some.over some.number (some.positive, some.each)) }
