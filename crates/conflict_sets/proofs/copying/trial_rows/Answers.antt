-- Row by row.
use Rattle.conflict_sets.proofs.Common.{map, contents_of, listed_by}
use Rattle.conflict_sets.proofs.LoopLaws.{taken-all, taken-next}
use Rattle.conflict_sets.proofs.copying.trial_rows.Goals as goal

pub loop-row-preserved : goal.loop-row-preserved
loop-row-preserved c =
    taken-next (listed_by c.args.listing.now) c.args.rows.now c.loop-row.row-index c.row-item.result (map contents_of c.loop-row.copies.items) (map contents_of c.push_taken.new.copies.items)
    c.loop-row-test.true c.row-item.is c.in_ok-push_taken.ensures c.loop-row.invariant

pub returns : goal.returns
returns c = taken-all (listed_by c.args.listing.now) c.args.rows.now c.loop-row.row-index (map contents_of c.loop-row.copies.items) c.loop-row-test.false c.loop-row.invariant
