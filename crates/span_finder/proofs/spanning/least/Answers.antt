-- The first trial.
use Rattle.span_finder.proofs.Common.{ap, refl, Optimal, Least, least_end}
use Rattle.span_finder.proofs.ValueLaws.{trial-end, trial-extreme, trial-stays}
use Rattle.span_finder.proofs.spanning.least.Goals as goal

pub returns-in-Ok-Optimal-clause-end : goal.returns-in-Ok-Optimal-clause-end
returns-in-Ok-Optimal-clause-end c =
    let f = c.in-Ok-Optimal in
    λ next.
    ap (least_end c.args.pivots next)
    (trial-end c.args.problem.now c.args.var Least c.requires.trial f.field-0 c.args.pivots (Optimal f.plan f.field-0-1 f.field-0-2 f.field-0-3 f.field-0-4) f.field-0-is f.ensures.end)

pub returns-in-Ok-Optimal-clause-worth : goal.returns-in-Ok-Optimal-clause-worth
returns-in-Ok-Optimal-clause-worth c =
    let f = c.in-Ok-Optimal in
    trial-extreme c.args.problem.now c.args.var Least c.requires.trial f.field-0 f.ensures.proved f.ensures.whole f.plan f.field-0-1 f.field-0-2 f.field-0-3 f.field-0-4 f.field-0-is

pub unreachable-requires-in-Ok-Unbounded : goal.unreachable-requires-in-Ok-Unbounded
unreachable-requires-in-Ok-Unbounded c =
    let f = c.in-Ok-Unbounded in
    let some = c.requires.feasible in
    trial-stays c.args.problem.now c.args.var Least c.requires.trial f.field-0 f.ensures.proved f.ensures.whole f.field-0-0 f.field-0-1 f.field-0-2 refl some.over some.plan some.meets f.field-0-is
