-- Each size is at least what it was and what the line has.
use Rattle.simplex_core.proofs.Common.{◌≡◌, ap, arith, unsigned_abs, back_in_range, late_entry, numbers_of, Tableau, line_of, kept_state, x0_in}
use Rattle.simplex_core.proofs.KeptSizeLaws.{late_entry-is, spread-more, AreWithin-more}
use Rattle.simplex_core.proofs.kept_choice.seen_by.Goals as goal

pub returns : goal.returns
returns c =
    let t : Tableau = c.args.tableau.now.tableau in
    let h = c.args.home in
    let row = c.args.row in
    let entry : late_entry (kept_state t h.row (x0_in t) 0 0) h.column row ≡ unsigned_abs c.args.entry = late_entry-is t h.row (x0_in t) h.column row c.args.entry c.requires.home.kept c.requires.row c.requires.entry in
    spread-more t h.row h.column row c.args.spread (record { entry = c.greater.result; at_x0 = c.greater-2.result; size = c.larger.result }) c.requires.before c.greater.ensures.before c.greater-2.ensures.before c.larger.ensures.first
    (record {
      entry_within = omega (arith, entry, c.greater.ensures.number, ap unsigned_abs (back_in_range c.args.entry c.requires.range));
      x0_within = omega (arith, ap unsigned_abs c.requires.at_x0, c.greater-2.ensures.number, ap unsigned_abs (back_in_range c.args.at_x0 c.requires.at_x0_fits));
      size_within = AreWithin-more c.size.result c.larger.result (numbers_of (line_of t row)) c.larger.ensures.second c.size.ensures;
    })
