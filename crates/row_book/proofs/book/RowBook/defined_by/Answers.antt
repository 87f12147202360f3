-- The row that is read stands at its position among the rows that the book keeps.
use Rattle.row_book.proofs.Common.{◌<◌, length, sym, subst, IfSome, Book, IsDefinedAt}
use Rattle.row_book.proofs.KeptLaws.{at-index, defined-at}
use Rattle.row_book.proofs.book.RowBook.defined_by.Goals as goal

pub returns-clause-definition : goal.returns-clause-definition
returns-clause-definition c =
    let rows = c.self.inside.rows.items in
    let inside : c.args.i < length rows = subst (λ (b : Book). c.args.i < length b.rows) (sym c.self.view_is) c.requires in
    subst (λ (b : Book). IfSome c.defined_variable.result (IsDefinedAt b.rows c.args.i)) c.self.view_is
    (defined-at rows c.self.inside.vars.items c.args.i c.index.result.now c.defined_variable.result c.self.invariant
    (at-index rows c.args.i c.index.result.now inside c.index.ensures) c.defined_variable.ensures)
