use Rattle.simplex_core.proofs.Common.{sym, ◌∙◌, subst, InRange, back_in_range}
use Rattle.simplex_core.proofs.kept_choice.seen.Goals as goal

pub seen_by-requires-clause-at_x0 : goal.seen_by-requires-clause-at_x0
seen_by-requires-clause-at_x0 c =
    let fits : InRange c.last_entry.result = subst InRange (sym c.last_entry.ensures.value) c.last_entry.ensures.range in
    back_in_range c.last_entry.result fits ∙ c.last_entry.ensures.value

pub seen_by-requires-clause-at_x0_fits : goal.seen_by-requires-clause-at_x0_fits
seen_by-requires-clause-at_x0_fits c =
    let fits : InRange c.last_entry.result = subst InRange (sym c.last_entry.ensures.value) c.last_entry.ensures.range in
    subst InRange (sym (back_in_range c.last_entry.result fits)) fits
