-- One entry after another.
use Rattle.variable_elimination.proofs.Common.{◌≡◌, ◌≤◌, ℤ, List, length, subst, take_all, Var}
use Rattle.variable_elimination.proofs.CellSteps.{AreCells, cells-start, cells-next}
use Rattle.variable_elimination.proofs.cells.add_row.Goals as goal

pub loop-entry-init : goal.loop-entry-init
loop-entry-init c = cells-start c.args.row.now.name c.args.columns.now

pub loop-entry-preserved : goal.loop-entry-preserved
loop-entry-preserved c =
    let row = c.args.row.now in
    cells-next row.name row.entries.items c.as_slice-entry-items.result.now c.loop-entry.entry-index _ c.args.columns.now c.loop-entry.columns c.add_cell.new.columns c.as_slice-entry-items.ensures.value c.loop-entry-test.true
    c.loop-entry.invariant c.in_ok-add_cell.ensures

pub returns : goal.returns
returns c =
    let row = c.args.row.now in
    let es = row.entries.items in
    let i = c.loop-entry.entry-index in
    let same : c.as_slice-entry-items.result.now ≡ es = c.as_slice-entry-items.ensures.value in
    let h : length es ≤ i = subst (λ (xs : List (Var × ℤ)). length xs ≤ i) same c.loop-entry-test.false in
    subst (λ (xs : List (Var × ℤ)). AreCells row.name xs c.args.columns.now c.loop-entry.columns) (take_all i es h) c.loop-entry.invariant
