use Rattle.simplex_core.proofs.Common.{◌<◌, length, arith, Tableau, rows_of, x0_in}
use Rattle.simplex_core.proofs.KeptSizeLaws.{narrow-FitsPivot}
use Rattle.simplex_core.proofs.kept_width.each_fits.Goals as goal

pub line_fits-requires-clause-row : goal.line_fits-requires-clause-row
line_fits-requires-clause-row c =
    let t : Tableau = c.args.tableau.now.tableau in
    let more : rows_of t < length t.lines = c.requires.home.kept.shaped.lines in
    omega (arith, c.requires.row)

pub returns : goal.returns
returns c = λ e.
    let t : Tableau = c.args.tableau.now.tableau in
    narrow-FitsPivot t c.args.home.row (x0_in t) c.args.row c.args.home.column c.requires.home.kept c.requires.row (λ i k n. c.loop-line.invariant i (omega (arith, c.lines-line-end.ensures)) n)
