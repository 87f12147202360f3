-- What both ends ask for, and what they are worth.
use Rattle.exact_num.specs.Value.{value_of}
use Rattle.span_finder.proofs.RoundedLaws.{answer-rounds}
use Rattle.span_finder.proofs.rounding.rounded_span.Goals as goal

pub both_ends-requires-clause-program : goal.both_ends-requires-clause-program
both_ends-requires-clause-program g c = rw (c.deref.ensures.value, c.deref-2.ensures.value) c.in_ok-all.ensures.limited.program

pub returns : goal.returns
returns g c =
    answer-rounds c.args.rows.now c.args.vars.now (value_of c.args.limit) c.args.var c.args.ppm c.in_ok-all.field-0.rows.items c.in_ok-all.ensures.limited.of c.both_ends.result (rw c.deref.ensures.value at c.both_ends.ensures)
