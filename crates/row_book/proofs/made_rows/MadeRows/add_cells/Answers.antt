use Rattle.row_book.proofs.Common.{Index, places_of, instance_at, joined}
use Rattle.row_book.proofs.Places.{all-at_place}
use Rattle.row_book.proofs.Regions.{IsIndex}
use Rattle.row_book.proofs.RowsAddedLaws.{loop-adds, loop-ends, loop-stops}
use Rattle.row_book.proofs.made_rows.MadeRows.add_cells.Goals as goal

pub add-requires-clause-index : goal.add-requires-clause-index
add-requires-clause-index c =
    all-at_place (λ cell. IsIndex c.args.model.now.facts c.args.eq (joined c.args.outer cell)) c.args.cells.now c.loop-cell.cell-index _ c.requires.indices c.loop-cell-test.true

pub returns-in-Err-clause-stopped : goal.returns-in-Err-clause-stopped
returns-in-Err-clause-stopped c =
    loop-stops (places_of c.args.factors.now) c.args.model.now.facts (λ (cell : Index). instance_at c.args.model.now.facts c.args.eq (joined c.args.outer cell)) c.args.cells.now c.loop-cell.cell-index _ c.args.self.now c.loop-cell.self c.in-Err.fail
    c.loop-cell-test.true c.loop-cell.invariant c.in-Err.ensures.stopped

pub loop-cell-preserved : goal.loop-cell-preserved
loop-cell-preserved c =
    loop-adds (places_of c.args.factors.now) c.args.model.now.facts (λ (cell : Index). instance_at c.args.model.now.facts c.args.eq (joined c.args.outer cell)) c.args.cells.now c.loop-cell.cell-index _ c.args.self.now c.loop-cell.self c.add.new.self
    c.loop-cell-test.true c.loop-cell.invariant c.in-Ok.ensures.added

pub returns-clause-added : goal.returns-clause-added
returns-clause-added c =
    loop-ends (places_of c.args.factors.now) c.args.model.now.facts (λ (cell : Index). instance_at c.args.model.now.facts c.args.eq (joined c.args.outer cell)) c.args.cells.now c.loop-cell.cell-index c.args.self.now c.loop-cell.self
    c.loop-cell-test.false c.loop-cell.invariant
