-- What is said of what is left is said of the rows.
use Rattle.command_answers.proofs.BookLists.{end-of-left}
use Rattle.command_answers.proofs.methods.solve_book.Goals as goal

pub returns : goal.returns
returns c =
    let same = c.problem_of-problem.ensures in
    let said = c.exact.ensures in
    let end = end-of-left c.args.book.now.rows c.args.book.now.vars c.args.pivots c.requires.fits in
    record {
      end = rw (same.rows, same.defs, same.vars, same.cost, end) at said.end;
      stopped = rw (same.rows, same.defs, same.vars, same.cost, end) at said.stopped;
      proved = rw (same.rows, same.vars, same.cost) at said.proved;
      whole = rw same.vars at said.whole;
      named = rw same.rows at said.named;
    }
