use Rattle.int_tableau.proofs.Common.{◌<◌, ◌^◌, sym, ◌∙◌, subst, unsigned_abs, at}
use Rattle.int_tableau.proofs.NarrowLaws.{narrow_fits, back_widened}
use Rattle.int_tableau.proofs.narrow.number_in.Goals as goal

pub returns-clause-value : goal.returns-clause-value
returns-clause-value c = back_widened c.short_in.result (subst (λ z. unsigned_abs z < 2 ^ 63) (sym c.short_in.ensures.value) c.short_in.ensures.narrow) ∙ c.short_in.ensures.value

pub returns-clause-range : goal.returns-clause-range
returns-clause-range c = narrow_fits (at c.args.entries.now c.args.column) c.short_in.ensures.narrow
