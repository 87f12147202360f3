-- Row by row.
use Rattle.conflict_sets.proofs.LoopLaws.{names-all, names-next}
use Rattle.conflict_sets.proofs.listing.listed_names.Goals as goal

pub loop-row-preserved : goal.loop-row-preserved
loop-row-preserved c =
    names-next c.args.multipliers.now c.args.rows.now c.loop-row.row-index c.row-item.result c.loop-row.names.items c.push_listed.new.names.items c.loop-row-test.true c.row-item.is c.in_ok-push_listed.ensures c.loop-row.invariant

pub returns : goal.returns
returns c = names-all c.args.multipliers.now c.args.rows.now c.loop-row.row-index c.loop-row.names.items c.loop-row-test.false c.loop-row.invariant
