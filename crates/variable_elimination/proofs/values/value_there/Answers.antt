-- What the map has is the value.
use Rattle.variable_elimination.proofs.Common.{sym, ap, ◌∙◌, worth}
use Rattle.variable_elimination.proofs.ValueSteps.{value_in-get}
use Rattle.variable_elimination.proofs.values.value_there.Goals as goal

pub returns-in-Some : goal.returns-in-Some
returns-in-Some g c = sym (value_in-get g.K.Ord.cmp g.met.K.Ord.total c.args.values.now.entries c.args.key ∙ ap worth (sym c.in-Some.ensures.value))

pub returns-in-None : goal.returns-in-None
returns-in-None g c = c.fraction.ensures ∙ sym (value_in-get g.K.Ord.cmp g.met.K.Ord.total c.args.values.now.entries c.args.key ∙ ap worth (sym c.in-None.ensures.value))
