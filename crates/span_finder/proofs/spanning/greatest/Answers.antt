-- The second trial.
use Rattle.span_finder.proofs.Common.{ap, refl, Optimal, Unbounded, Greatest, greatest_end}
use Rattle.span_finder.proofs.ValueLaws.{trial-end, trial-extreme, trial-rises}
use Rattle.span_finder.proofs.spanning.greatest.Goals as goal

pub returns-in-Ok-Optimal-clause-end : goal.returns-in-Ok-Optimal-clause-end
returns-in-Ok-Optimal-clause-end c =
    let f = c.in-Ok-Optimal in
    ap (greatest_end c.args.pivots c.args.low_plan)
    (trial-end c.args.problem.now c.args.var Greatest c.requires.trial f.field-0 c.args.pivots (Optimal f.plan f.field-0-1 f.field-0-2 f.field-0-3 f.field-0-4) f.field-0-is f.ensures.end)

pub returns-in-Ok-Optimal-clause-high : goal.returns-in-Ok-Optimal-clause-high
returns-in-Ok-Optimal-clause-high c =
    let f = c.in-Ok-Optimal in (
      c.value.ensures,
      trial-extreme c.args.problem.now c.args.var Greatest c.requires.trial f.field-0 f.ensures.proved f.ensures.whole f.plan f.field-0-1 f.field-0-2 f.field-0-3 f.field-0-4 f.field-0-is,
    )

pub returns-in-Ok-Unbounded-clause-end : goal.returns-in-Ok-Unbounded-clause-end
returns-in-Ok-Unbounded-clause-end c =
    let f = c.in-Ok-Unbounded in
    ap (greatest_end c.args.pivots c.args.low_plan)
    (trial-end c.args.problem.now c.args.var Greatest c.requires.trial f.field-0 c.args.pivots (Unbounded f.plan f.direction f.field-0-2) f.field-0-is f.ensures.end)

pub returns-in-Ok-Unbounded-clause-high : goal.returns-in-Ok-Unbounded-clause-high
returns-in-Ok-Unbounded-clause-high c =
    let f = c.in-Ok-Unbounded in
    trial-rises c.args.problem.now c.args.var Greatest c.requires.trial f.field-0 f.ensures.proved f.ensures.whole f.plan f.direction f.field-0-2 refl f.field-0-is
