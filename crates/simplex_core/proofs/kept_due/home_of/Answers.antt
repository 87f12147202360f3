use Rattle.simplex_core.proofs.Common.{sym, ◌∙◌, subst, InRange, back_in_range}
use Rattle.simplex_core.proofs.kept_due.home_of.Goals as goal

pub returns-clause-home : goal.returns-clause-home
returns-clause-home c = record {
  kept = c.requires.kept;
  below = c.requires.column;
  at_x0_is = back_in_range c.last_entry.result (subst InRange (sym c.last_entry.ensures.value) c.last_entry.ensures.range) ∙ c.last_entry.ensures.value;
  entry_is = back_in_range c.entry.result (subst InRange (sym c.entry.ensures.value) c.entry.ensures.range) ∙ c.entry.ensures.value;
  right_is = back_in_range c.rhs.result (subst InRange (sym c.rhs.ensures.value) c.rhs.ensures.range) ∙ c.rhs.ensures.value;
}
