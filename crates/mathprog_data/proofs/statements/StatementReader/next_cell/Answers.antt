use Rattle.std.proofs.Common.{rules, ◌<◌, ◌+◌, length, drop, length-drop, arith}
use Rattle.mathprog_data.proofs.CellSteps.{row_left-more}
use Rattle.mathprog_data.proofs.statements.StatementReader.next_cell.Goals as goal

pub returns-else-self-len : goal.returns-else-self-len
returns-else-self-len c =
    let r = c.args.self.now in
    let left = drop (c.args.self.now.cells + 1) c.args.self.now.columns.items in
    let some : 0 < length left = simp length-drop (omega arith) in
    rw (row_left-more c.args.self.now.item c.args.self.now.slice.items c.args.self.now.transposed c.args.self.now.columns.items c.args.self.now.row c.args.self.now.mark left some) (search rules)
