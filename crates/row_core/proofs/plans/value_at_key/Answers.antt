-- What is found is the value.
use Rattle.std.proofs.Common.{sym, ap, ◌∙◌}
use Rattle.row_core.proofs.PlanValueLaws.{worth, value_in-valued}
use Rattle.row_core.proofs.plans.value_at_key.Goals as goal

pub returns-in-Some : goal.returns-in-Some
returns-in-Some g c = sym (value_in-valued g.K.Ord.cmp c.args.entries.now c.args.key ∙ ap worth (sym c.in-Some.ensures))

pub returns-in-None : goal.returns-in-None
returns-in-None g c = c.fraction.ensures ∙ sym (value_in-valued g.K.Ord.cmp c.args.entries.now c.args.key ∙ ap worth (sym c.in-None.ensures))
