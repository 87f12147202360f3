use Rattle.simplex_core.proofs.Common.{◌≡◌, ◌<◌, ◌^◌, ◌∙◌, sym, ap, arith, unsigned_abs, back_in_range, ltb-true, late_size, late_entry, Tableau, kept_state, size_in, x0_in}
use Rattle.simplex_core.proofs.KeptSizeLaws.{late_entry-is, narrow-by}
use Rattle.simplex_core.proofs.kept_width.line_fits.Goals as goal

pub returns : goal.returns
returns c = λ test.
    let t : Tableau = c.args.tableau.now.tableau in
    let h = c.args.home.row in
    let d = x0_in t in
    let k = c.args.home.column in
    let row : late_entry (kept_state t h d 0 0) k c.args.row ≡ c.unsigned_abs.result =
    late_entry-is t h d k c.args.row c.in-Ok.pivot_entry c.requires.home.kept c.requires.row c.in-Ok.ensures.value
    ∙ sym (c.unsigned_abs.ensures.value ∙ ap unsigned_abs (back_in_range c.in-Ok.pivot_entry c.in-Ok.ensures.range)) in
    let line : late_entry (kept_state t h d 0 0) k c.args.line ≡ c.unsigned_abs-2.result =
    late_entry-is t h d k c.args.line c.in-Ok-rough_entry.entry c.requires.home.kept c.requires.line c.in-Ok-rough_entry.ensures.value
    ∙ sym (c.unsigned_abs-2.ensures.value ∙ ap unsigned_abs (back_in_range c.in-Ok-rough_entry.entry c.in-Ok-rough_entry.ensures.range)) in
    let small : c.in-Some-two_products.sum < 2 ^ 127 = ltb-true c.in-Some-two_products.sum (2 ^ 127) test in
    narrow-by (late_entry (kept_state t h d 0 0) k c.args.row) (late_size (kept_state t h d 0 0) (size_in t) c.args.line) (late_entry (kept_state t h d 0 0) k c.args.line) (late_size (kept_state t h d 0 0) (size_in t) c.args.row)
    c.in-Some-bound.line_bound c.in-Some.pivot_bound c.unsigned_abs.result c.unsigned_abs-2.result
    row c.in-Some-bound.ensures line c.in-Some.ensures (omega (arith, small, c.in-Some-two_products.ensures))
