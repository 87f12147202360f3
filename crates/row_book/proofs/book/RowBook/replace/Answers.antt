-- The twin's position is one of the rows that the book keeps, and the row is put there.
use Rattle.row_book.proofs.Common.{◌<◌, List, length, subst, slice_set, Row, Book, IsAt, AreTwins, IsReplaced}
use Rattle.row_book.proofs.ReplacedLaws.{replaced-at, replaced-book}
use Rattle.row_book.proofs.book.RowBook.replace.Goals as goal

pub invariant_of-self : goal.invariant_of-self
invariant_of-self c =
    let rows : List Row = c.self.inside.rows.items in
    let i = c.in-Some.i in
    let found : (i < length rows) × ((before : Row) → IsAt rows i before → AreTwins before c.args.row) =
    subst (λ (rs : List Row). (i < length rs) × ((before : Row) → IsAt rs i before → AreTwins before c.args.row)) c.deref.ensures.value c.in-Some.ensures.found in
    replaced-book c.args.row rows (slice_set rows i c.args.row) c.self.inside.vars.items (replaced-at c.args.row rows i found.0 found.1) c.self.invariant

pub returns-in-Some-clause-replaced : goal.returns-in-Some-clause-replaced
returns-in-Some-clause-replaced c = λ is.
    let rows : List Row = c.self.inside.rows.items in
    let i = c.in-Some.i in
    let found : (i < length rows) × ((before : Row) → IsAt rows i before → AreTwins before c.args.row) =
    subst (λ (rs : List Row). (i < length rs) × ((before : Row) → IsAt rs i before → AreTwins before c.args.row)) c.deref.ensures.value c.in-Some.ensures.found in
    subst (λ (b : Book). IsReplaced c.args.row b.rows (slice_set rows i c.args.row)) c.self.view_is (replaced-at c.args.row rows i found.0 found.1)
