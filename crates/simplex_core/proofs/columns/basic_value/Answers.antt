-- The row of a basic column is one of the tableau's, with an entry there.
use Rattle.simplex_core.proofs.Common.{◌≡◌, Some, sym, ◌∙◌, subst, InRange, back_in_range, row_of_basic}
use Rattle.simplex_core.proofs.ValueLaws.{basic_row, nonzero_entry}
use Rattle.simplex_core.proofs.columns.basic_value.Goals as goal

pub rhs-requires : goal.rhs-requires
rhs-requires c =
    let t = c.args.tableau.now.tableau in
    let known : row_of_basic c.args.column 0 t.basics ≡ Some c.in-Some.row = sym c.requires.rows ∙ c.in-Some.is in
    (basic_row t c.args.column c.in-Some.row c.requires.shaped c.requires.basic known).0

pub entry-requires-clause-row : goal.entry-requires-clause-row
entry-requires-clause-row c =
    let t = c.args.tableau.now.tableau in
    let known : row_of_basic c.args.column 0 t.basics ≡ Some c.in-Some.row = sym c.requires.rows ∙ c.in-Some.is in
    (basic_row t c.args.column c.in-Some.row c.requires.shaped c.requires.basic known).0

pub ratio-requires-clause-nonzero : goal.ratio-requires-clause-nonzero
ratio-requires-clause-nonzero c =
    let t = c.args.tableau.now.tableau in
    let known : row_of_basic c.args.column 0 t.basics ≡ Some c.in-Some.row = sym c.requires.rows ∙ c.in-Some.is in
    let fits : InRange c.entry.result = subst InRange (sym c.entry.ensures.value) c.entry.ensures.range in
    nonzero_entry _ _ (back_in_range c.entry.result fits ∙ c.entry.ensures.value) (basic_row t c.args.column c.in-Some.row c.requires.shaped c.requires.basic known).1
