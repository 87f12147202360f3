use Rattle.simplex_core.proofs.Common.{sym, ◌∙◌, subst, InRange, back_widened, narrow_fits}
use Rattle.simplex_core.proofs.short_choice.short_seen.Goals as goal

pub seen_by-requires-clause-at_x0 : goal.seen_by-requires-clause-at_x0
seen_by-requires-clause-at_x0 c = back_widened c.args.numbers.last c.args.numbers.last_narrow ∙ c.requires.numbers.last_is

pub seen_by-requires-clause-at_x0_fits : goal.seen_by-requires-clause-at_x0_fits
seen_by-requires-clause-at_x0_fits c = subst InRange (sym (back_widened c.args.numbers.last c.args.numbers.last_narrow)) (narrow_fits c.args.numbers.last c.args.numbers.last_narrow)

pub seen_by-requires-clause-entry : goal.seen_by-requires-clause-entry
seen_by-requires-clause-entry c = back_widened c.args.numbers.entry c.args.numbers.entry_narrow ∙ c.requires.numbers.entry_is

pub seen_by-requires-clause-range : goal.seen_by-requires-clause-range
seen_by-requires-clause-range c = subst InRange (sym (back_widened c.args.numbers.entry c.args.numbers.entry_narrow)) (narrow_fits c.args.numbers.entry c.args.numbers.entry_narrow)
