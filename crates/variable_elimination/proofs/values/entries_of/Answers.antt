-- The keys of a map ascend.
use Rattle.variable_elimination.proofs.Common.{◌≡◌, rules, ap, ◌∙◌, ascends, keys_of}
use Rattle.variable_elimination.proofs.ValueSteps.{keys-ascend}
use Rattle.variable_elimination.proofs.values.entries_of.Goals as goal

pub returns-clause-ordered : goal.returns-clause-ordered
returns-clause-ordered g c =
    let same : c.loop-key.entries.items ≡ c.args.values.now.entries = search rules in
    ap (λ es. ascends g.K.Ord.cmp (keys_of es)) same ∙ keys-ascend g.K.Ord.cmp g.met.K.Ord.total c.args.values.now.entries c.len.ensures.ordered
