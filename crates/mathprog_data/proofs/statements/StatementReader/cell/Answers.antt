use Rattle.std.proofs.Common.{◌≢◌, ◌<◌, [], ap, sym, subst, ◌∙◌, length, IfOk, arith}
use Rattle.mathprog_data.proofs.Common.{drop_more, draft_view, Point, Turn, Turned}
use Rattle.mathprog_data.specs.MachineSteps.{taken}
use Rattle.mathprog_data.specs.SymbolViews.{word_in, number_in}
use Rattle.mathprog_data.proofs.CellSteps.{cell-point, cell-value}
use Rattle.mathprog_data.proofs.statements.StatementReader.cell.Goals as goal

pub returns-in-Point : goal.returns-in-Point
returns-in-Point c =
    let inside : c.args.self.now.cells < length c.args.self.now.columns.items = omega arith in
    let opened = drop_more c.args.self.now.columns.items c.args.self.now.cells [] inside in
    ap (taken (draft_view c.args.self.now.draft)) (cell-point c.args.self.now.item c.args.self.now.slice.items c.args.self.now.transposed c.args.self.now.columns.items c.args.self.now.row c.args.self.now.mark _ _ _ (word_in c.args.symbol) (number_in c.args.symbol) opened (sym c.in-Point.ensures))
    ∙ c.next_cell.ensures

pub returns-in_default : goal.returns-in_default
returns-in_default c =
    let inside : c.args.self.now.cells < length c.args.self.now.columns.items = omega arith in
    let opened = drop_more c.args.self.now.columns.items c.args.self.now.cells [] inside in
    let other : word_in c.args.symbol ≢ Point = λ is. c.in_default.not-Point (c.word.ensures ∙ is) in
    let turn = cell-value c.args.self.now.item c.args.self.now.slice.items c.args.self.now.transposed c.args.self.now.columns.items c.args.self.now.row c.args.self.now.mark _ _ _ (word_in c.args.symbol) (number_in c.args.symbol) opened other in
    let P : Turn → Type 0 = λ t. IfOk c.cell_value.result (λ fault. Turned c.args.self.now t fault c.cell_value.new.self) in
    subst P (sym turn) c.cell_value.ensures
