use Rattle.simplex_core.proofs.Common.{◌≡◌, ◌<◌, ◌*◌, ◌+◌, ◌^◌, ◌∙◌, ap, subst, unsigned_abs, back_in_range, ltb-true, entry_of, Tableau, line_of, x0_in}
use Rattle.simplex_core.proofs.KeptSizeLaws.{spread-FitsPivot}
use Rattle.simplex_core.proofs.kept_width.all_fit_at_once.Goals as goal

pub returns : goal.returns
returns c = λ test.
    let t : Tableau = c.args.tableau.now.tableau in
    let h = c.args.home in
    let s = c.args.spread in
    let rho : c.unsigned_abs.result ≡ unsigned_abs (entry_of (line_of t h.row) (x0_in t)) =
    c.unsigned_abs.ensures.value ∙ ap unsigned_abs (back_in_range h.at_x0 h.at_x0_fits ∙ c.requires.home.at_x0_is) in
    let m : c.in-Some.size ≡ (unsigned_abs (entry_of (line_of t h.row) (x0_in t)) * s.size) + (s.at_x0 * c.size.result) =
    c.in-Some.ensures ∙ ap (λ k. (k * s.size) + (s.at_x0 * c.size.result)) rho in
    let below : c.in-Some-product.whole < 2 ^ 126 = ltb-true c.in-Some-product.whole (2 ^ 126) test in
    let product : s.entry * c.in-Some.size < 2 ^ 126 = subst (λ n. n < 2 ^ 126) c.in-Some-product.ensures below in
    spread-FitsPivot t h.row c.args.row h.column s c.size.result c.in-Some.size c.requires.home.kept c.requires.row c.requires.spread c.size.ensures m product
