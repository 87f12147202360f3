-- Row by row.
use Rattle.row_core.proofs.Common.{map, contents_of}
use Rattle.row_core.proofs.CopyLaws.{copies-all, copies-next}
use Rattle.row_core.proofs.copying.copy_rows.Goals as goal

pub loop-row-preserved : goal.loop-row-preserved
loop-row-preserved c =
    copies-next c.args.rows.now c.loop-row.row-index c.row-item.result c.in_ok-copy.copy c.loop-row.copies.items c.push.new.self.items c.loop-row-test.true c.row-item.is c.in_ok-push.ensures.items c.in_ok-copy.ensures c.loop-row.invariant

pub returns : goal.returns
returns c = copies-all c.args.rows.now c.loop-row.row-index (map contents_of c.loop-row.copies.items) c.loop-row-test.false c.loop-row.invariant
