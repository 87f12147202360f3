-- The row of a basic column is one of the tableau's, with an entry there.
use Rattle.simplex_core.proofs.Common.{◌≡◌, Some, sym, ◌∙◌, subst, InRange, back_in_range, row_of_basic}
use Rattle.simplex_core.proofs.ValueLaws.{basic_row, nonzero_entry}
use Rattle.simplex_core.proofs.columns.slope.Goals as goal

pub entry-requires-clause-row : goal.entry-requires-clause-row
entry-requires-clause-row c =
    let t = c.args.tableau.now.tableau in
    let known : row_of_basic c.args.column 0 t.basics ≡ Some c.in-Some.row = sym c.requires.rows ∙ c.in-Some.is in
    (basic_row t c.args.column c.in-Some.row c.requires.shaped c.requires.basic known).0

pub entry-requires-in-Some-clause-row : goal.entry-requires-in-Some-clause-row
entry-requires-in-Some-clause-row c =
    let t = c.args.tableau.now.tableau in
    let known : row_of_basic c.args.column 0 t.basics ≡ Some c.in-Some.row = sym c.requires.rows ∙ c.in-Some.is in
    (basic_row t c.args.column c.in-Some.row c.requires.shaped c.requires.basic known).0

pub ratio-requires-clause-nonzero : goal.ratio-requires-clause-nonzero
ratio-requires-clause-nonzero c =
    let t = c.args.tableau.now.tableau in
    let known : row_of_basic c.args.column 0 t.basics ≡ Some c.in-Some.row = sym c.requires.rows ∙ c.in-Some.is in
    let fits : InRange c.entry-in-Some.result = subst InRange (sym c.entry-in-Some.ensures.value) c.entry-in-Some.ensures.range in
    nonzero_entry _ _ (back_in_range c.entry-in-Some.result fits ∙ c.entry-in-Some.ensures.value) (basic_row t c.args.column c.in-Some.row c.requires.shaped c.requires.basic known).1
