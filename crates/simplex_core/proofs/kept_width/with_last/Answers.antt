-- The rows, then the row of z and that of w.
use Rattle.simplex_core.proofs.Common.{◌≡◌, ◌+◌, suc, length, subst, arith, Tableau, rows_of, AreSpread}
use Rattle.simplex_core.proofs.kept_width.with_last.Goals as goal

pub returns : goal.returns
returns c =
    let t : Tableau = c.args.tableau.now.tableau in
    let h = c.args.home in
    let count : length t.lines ≡ suc (suc (rows_of t)) = c.requires.home.kept.count in
    let all : (c.rows-rows.result + 1) + 1 ≡ length t.lines = omega (arith, c.rows-rows.ensures.count, count) in
    subst (λ n. AreSpread t h.row h.column n c.seen.result) all c.seen.ensures

pub rough_entry-requires-clause-row : goal.rough_entry-requires-clause-row
rough_entry-requires-clause-row c =
    let t : Tableau = c.args.tableau.now.tableau in
    let count : length t.lines ≡ suc (suc (rows_of t)) = c.requires.home.kept.count in
    omega (arith, c.rows-rows.ensures.count, count)

pub rough_entry-requires-2-clause-row : goal.rough_entry-requires-2-clause-row
rough_entry-requires-2-clause-row c =
    let t : Tableau = c.args.tableau.now.tableau in
    let count : length t.lines ≡ suc (suc (rows_of t)) = c.requires.home.kept.count in
    omega (arith, c.rows-rows.ensures.count, count)
