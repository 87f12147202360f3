-- What a book keeps: that it does so once it is made, and what that says of the variable that one of its rows defines.
use Rattle.row_book.proofs.Common.{◌≡◌, ℕ, zero, suc, ◌<◌, List, [], ◌∷◌, length, get_or, Option, None, Some, sym, ap, ◌∙◌, arith, IfSome, Data, Row, Var, ascends, row_name_cmp, instances, variable_of, instances-ascend, AreComplete, AreVariablesOf, AreRowsOf, Defines, IsAt, IsBook, IsDefinedAt}
use Rattle.row_book.proofs.DefinitionSigns.{all-signs}
use Rattle.row_book.proofs.Triangles.{triangular}
use Rattle.row_book.proofs.Within.{names-of_rows}

-- the rows of all instances, and their variables
pub made-book : (places : ℕ) (d : Data) (rows : List Row) (vars : List Var) → AreComplete d → AreRowsOf places d (instances d) rows → AreVariablesOf rows vars → IsBook rows vars
made-book places d rows vars complete are listed = record {
  ascending = ap (ascends row_name_cmp) (names-of_rows places d (instances d) rows are) ∙ instances-ascend d;
  variables = listed;
  definitions = triangular places d rows are;
  signs = all-signs places d rows complete are;
}

pub same_row : (rows : List Row) (i : ℕ) (row other : Row) → IsAt rows i row → IsAt rows i other → row ≡ other
same_row rows i row other at bt = let both : Some row ≡ Some other = sym at ∙ bt in cc

-- the row that is read at a position stands there
pub at-index : (rows : List Row) (i : ℕ) (row : Row) → i < length rows → row ≡ get_or rows i row → IsAt rows i row
at-index [] i row inside is = absurd (omega (arith, inside))
at-index (r ∷ rows) zero row inside is = ap (λ s. Some s) (sym is)
at-index (r ∷ rows) (suc i) row inside is = at-index rows i row (omega (arith, inside)) is

pub defined-at : (rows : List Row) (vars : List Var) (i : ℕ) (row : Row) (found : Option Var) → IsBook rows vars → IsAt rows i row → found ≡ variable_of row.name → IfSome found (IsDefinedAt rows i)
defined-at rows vars i row None book at is = tt
defined-at rows vars i row (Some v) book at is =
    let of : Defines row v = sym is in
    record {
      there = (row, at);
      defines = λ other bt. ap (λ (r : Row). variable_of r.name) (sym (same_row rows i row other at bt)) ∙ of;
      solvable = λ other bt.
          book.definitions.solvable i other v bt (ap (λ (r : Row). variable_of r.name) (sym (same_row rows i row other at bt)) ∙ of);
      once = λ j other bt too. book.definitions.once i j row other v at bt of too;
    }
