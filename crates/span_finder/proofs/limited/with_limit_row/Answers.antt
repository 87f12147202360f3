-- The copies, and the row after them.
use Rattle.exact_num.specs.Value.{value_of}
use Rattle.span_finder.proofs.LimitedLaws.{has-limit-row}
use Rattle.span_finder.proofs.limited.with_limit_row.Goals as goal

pub returns-clause-rows : goal.returns-clause-rows
returns-clause-rows c =
    has-limit-row c.args.rows.now c.in_ok-all.all.items c.push.new.self.items c.args.vars.now (value_of c.args.limit) c.in_ok-row.row c.in_ok-row.ensures.row c.in_ok-row.ensures.fits c.in_ok-all.ensures c.in_ok-push.ensures.items
