-- Row by row.
use Rattle.conflict_sets.proofs.Common.{◌<◌, length, map, sym, subst, length-map, contents_of, listed_by}
use Rattle.conflict_sets.proofs.LoopLaws.{chosen-all, chosen-next, contents-at}
use Rattle.conflict_sets.proofs.copying.tried_rows.Goals as goal

pub loop-i-preserved : goal.loop-i-preserved
loop-i-preserved c =
    let rows = c.args.rows.now in
    let scales = c.args.scales.now in
    let i = c.loop-i.i in
    let row = c.index-rows-i.result in
    let listed = listed_by c.args.listing.now in
    let copied : i < length (map contents_of rows) = subst (λ n. i < n) (sym (length-map rows contents_of)) c.loop-i-test.true in
    let others : i < length scales = subst (λ n. i < n) (sym c.requires) c.loop-i-test.true in (
      chosen-next listed rows (map contents_of rows) i row (contents_of row) (map contents_of c.loop-i.copies.items) (map contents_of c.push_tried.new.copies.items) c.loop-i-test.true copied c.index-rows-i.is (contents-at rows i row c.loop-i-test.true c.index-rows-i.is)
          c.in_ok-push_tried.ensures.row c.loop-i.invariant.0,
      chosen-next listed rows scales i row c.index-scales-i.result c.loop-i.kept.items c.push_tried.new.kept.items c.loop-i-test.true others c.index-rows-i.is c.index-scales-i.is c.in_ok-push_tried.ensures.scale c.loop-i.invariant.1,
    )

pub returns-clause-rows : goal.returns-clause-rows
returns-clause-rows c =
    chosen-all (listed_by c.args.listing.now) c.args.rows.now (map contents_of c.args.rows.now) c.loop-i.i (map contents_of c.loop-i.copies.items) c.loop-i-test.false c.loop-i.invariant.0

pub returns-clause-scales : goal.returns-clause-scales
returns-clause-scales c = chosen-all (listed_by c.args.listing.now) c.args.rows.now c.args.scales.now c.loop-i.i c.loop-i.kept.items c.loop-i-test.false c.loop-i.invariant.1
