-- A stop that isn't a trial's.
use Rattle.exact_num.specs.Value.{value_of}
use Rattle.span_finder.proofs.PlainStops.{answer-plain}
use Rattle.span_finder.proofs.spanning.find_span.Goals as goal

pub returns-clause-plain : goal.returns-clause-plain
returns-clause-plain c =
    λ own. answer-plain c.args.rows.now c.args.defs.now c.args.vars.now (value_of c.args.limit) c.args.var c.args.pivots c.requires.problem.same own c.found_span.result c.found_span.ensures.stopped
