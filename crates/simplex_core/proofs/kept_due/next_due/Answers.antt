-- The row that leaves, the column that enters, and that all numbers fit.
use Rattle.simplex_core.proofs.Common.{◌≡◌, Some, sym, ap, ◌∙◌, back_in_range, is_zero, Tableau, kept_entering, kept_leaving, kept_state, x0_in, candidate_seen, chosen_seen}
use Rattle.simplex_core.proofs.KeptChoiceLaws.{leaving-row}
use Rattle.simplex_core.proofs.KeptRoundLaws.{due-from}
use Rattle.simplex_core.proofs.kept_due.next_due.Goals as goal

pub fits-requires-clause-row : goal.fits-requires-clause-row
fits-requires-clause-row c =
    let t : Tableau = c.args.tableau.now.tableau in
    let h = c.home_of-home.result in
    let chosen : kept_leaving (kept_state t h.row (x0_in t) 0 0) h.column ≡ Some (candidate_seen c.in-Some-chosen.a) = sym c.in-Ok.ensures.chosen ∙ ap chosen_seen c.in-Some-chosen.is in
    leaving-row t h.row (x0_in t) h.column (candidate_seen c.in-Some-chosen.a) c.home_of-home.ensures.home.kept chosen

pub returns : goal.returns
returns c =
    let t : Tableau = c.args.tableau.now.tableau in
    let h = c.home_of-home.result in
    let a = c.in-Some-chosen.a in
    let chosen : kept_leaving (kept_state t h.row (x0_in t) 0 0) h.column ≡ Some (candidate_seen a) = sym c.in-Ok.ensures.chosen ∙ ap chosen_seen c.in-Some-chosen.is in
    let enters : kept_entering (kept_state t c.args.row (x0_in t) 0 c.args.degenerate) ≡ Some c.in-Some.column =
    ap (λ e. kept_entering (kept_state t c.args.row e 0 c.args.degenerate)) (sym c.requires.last) ∙ sym c.in-Some.ensures.chosen in
    due-from t h.row h.column c.args.row c.in-Some.column c.args.degenerate (candidate_seen a) c.vanishes.result c.home_of-home.ensures.home.kept c.home_of-home.ensures.row c.home_of-home.ensures.column enters chosen (c.fits.ensures c.if-not-fits.false)
    (c.vanishes.ensures ∙ ap is_zero (back_in_range a.right a.right_fits)) c.in-Some.ensures.column
