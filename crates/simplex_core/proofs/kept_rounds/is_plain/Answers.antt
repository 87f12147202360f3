use Rattle.simplex_core.proofs.Common.{sym, ap, ◌∙◌, subst, arith, unsigned_abs, InRange, back_in_range, numbers_of, line_of}
use Rattle.simplex_core.proofs.KeptSizeLaws.{AreWithin-more}
use Rattle.simplex_core.proofs.kept_rounds.is_plain.Goals as goal

pub returns : goal.returns
returns c = λ e.
    let fits : InRange c.last_entry.result = subst InRange (sym c.last_entry.ensures.value) c.last_entry.ensures.range in
    record {
      lowest = c.is_lowest.ensures e;
      small = AreWithin-more c.size.result 85070591730234615865843651857942052863 (numbers_of (line_of c.args.tableau.now.tableau c.args.line)) (omega arith) c.size.ensures;
      one_at_x0 = omega (arith, c.unsigned_abs.ensures.value, ap unsigned_abs (back_in_range c.last_entry.result fits ∙ c.last_entry.ensures.value));
    }
